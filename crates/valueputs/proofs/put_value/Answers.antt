use Rattle.laying.specs.Passes.{world}
use Rattle.valueputs.proofs.Laws.{itself_room, delta_room, delta0_room, itself_ran, delta_ran, delta0_ran, match_ran, end_ran}
use Rattle.valueputs.proofs.put_value.Goals as goal

pub put_piece-requires : goal.put_piece-requires
put_piece-requires c =
    let a = c.args in
    let g = c.in-Itself.is in record {
      p_bound = (c.requires.p_bound.0, rw g at c.requires.p_bound.1);
      roomy = itself_room a.pass a.name.now a.p.0 a.c (world a.total a.directory.now a.bytes.now) c.requires.roomy g;
    }

pub put_byte-requires : goal.put_byte-requires
put_byte-requires c =
    let a = c.args in
    rw c.span_of-span.ensures (delta_room a.pass a.name.now a.p.0 a.c (world a.total a.directory.now a.bytes.now) c.requires.roomy c.in-Delta.is)

pub put_byte-requires-in-Delta0 : goal.put_byte-requires-in-Delta0
put_byte-requires-in-Delta0 c =
    let a = c.args in
    rw c.span_of-span-in-Delta0.ensures (delta0_room a.pass a.name.now a.p.0 a.c (world a.total a.directory.now a.bytes.now) c.requires.roomy c.in-Delta0.is)

pub returns-in-Itself : goal.returns-in-Itself
returns-in-Itself c =
    let a = c.args in
    itself_ran a.pass a.name.now a.p.0 a.c (world a.total a.directory.now a.bytes.now) _ c.in-Itself.is c.put_piece.ensures

pub returns-in-Delta : goal.returns-in-Delta
returns-in-Delta c =
    let a = c.args in
    delta_ran a.pass a.name.now a.p.0 a.c (world a.total a.directory.now a.bytes.now) _ c.in-Delta.is (rw (← c.span_of-span.ensures) c.put_byte.ensures)

pub returns-in-Delta0 : goal.returns-in-Delta0
returns-in-Delta0 c =
    let a = c.args in
    delta0_ran a.pass a.name.now a.p.0 a.c (world a.total a.directory.now a.bytes.now) _ c.in-Delta0.is (rw (← c.span_of-span-in-Delta0.ensures) c.put_byte-in-Delta0.ensures)

pub returns-in-Match : goal.returns-in-Match
returns-in-Match c =
    let a = c.args in
    match_ran a.pass a.name.now a.p.0 a.c (world a.total a.directory.now a.bytes.now) c.in-Match.is

pub returns-in-End : goal.returns-in-End
returns-in-End c =
    let a = c.args in
    end_ran a.pass a.name.now a.p.0 a.c (world a.total a.directory.now a.bytes.now) c.in-End.is
