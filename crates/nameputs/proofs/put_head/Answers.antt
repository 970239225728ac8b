use mathlib.Core.Path.{sym, subst}
use Rattle.block.specs.Block.{span_of}
use Rattle.block.specs.Streams.{stream_number}
use Rattle.laying.specs.Passes.{World, world, Room}
use Rattle.nameputs.proofs.Laws.{head_room, head_ran}
use Rattle.nameputs.proofs.put_head.Goals as goal

pub put_byte-next-requires : goal.put_byte-next-requires
put_byte-next-requires c =
    let a = c.args in
    rw c.span_of-types.ensures (head_room a.pass a.number (stream_number a.stream) a.distance.0 (world a.total a.directory.now a.bytes.now) c.requires.roomy).0

pub put_four-requires : goal.put_four-requires
put_four-requires c =
    let a = c.args in
    let d = rw c.span_of-types.ensures at c.put_byte-next.ensures in
    rw c.span_of-distances.ensures (subst (λ (w : World). Room a.pass (span_of 0 (stream_number a.stream)) 4 w) (sym d) (head_room a.pass a.number (stream_number a.stream) a.distance.0 (world a.total a.directory.now a.bytes.now) c.requires.roomy).1)

pub returns : goal.returns
returns c =
    let a = c.args in
    head_ran a.pass a.number (stream_number a.stream) a.distance.0 (world a.total a.directory.now a.bytes.now) _ _ (rw c.span_of-types.ensures at c.put_byte-next.ensures) (rw c.span_of-distances.ensures at c.put_four.ensures)
