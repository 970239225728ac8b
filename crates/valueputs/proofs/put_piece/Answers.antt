use mathlib.Core.Path.{◌≡◌, subst, sym}
use Prim.Native.Nat.{◌-◌}
use lib.ListN.{length}
use Rattle.base.specs.Memory.{part}
use Rattle.base.proofs.Memory.{length_part}
use Rattle.block.specs.Block.{span_of}
use Rattle.block.specs.Streams.{dzlen_stream}
use Rattle.laying.specs.Passes.{World, world, Room}
use Rattle.valueputs.proofs.Laws.{string_room, char_room, digits_room, digits0_room, string_ran, char_ran, digits_ran, digits0_ran}
use Rattle.valueputs.proofs.put_piece.Goals as goal

pub put_text-requires : goal.put_text-requires
unfolding part
put_text-requires c =
    let a = c.args in
    let g = c.in-String.is in
    let w = rw g at c.requires.p_bound.1 in
    let l : length (part a.name.now c.in-String.start c.in-String.end) ≡ c.in-String.end - c.in-String.start = length_part a.name.now c.in-String.start c.in-String.end w.0 w.1 in
    rw (l, c.span_of-span.ensures) (string_room a.pass a.name.now a.p.0 a.t (world a.total a.directory.now a.bytes.now) c.requires.roomy g w.0 w.1)

pub put_byte-requires : goal.put_byte-requires
put_byte-requires c =
    let a = c.args in
    rw c.span_of-span-in-Char.ensures (char_room a.pass a.name.now a.p.0 a.t (world a.total a.directory.now a.bytes.now) c.requires.roomy c.in-Char.is)

pub put_four-requires : goal.put_four-requires
put_four-requires c =
    let a = c.args in
    rw c.span_of-span-in-Digits.ensures (digits_room a.pass a.name.now a.p.0 a.t (world a.total a.directory.now a.bytes.now) c.requires.roomy c.in-Digits.is)

pub put_four-next-requires : goal.put_four-next-requires
put_four-next-requires c =
    let a = c.args in
    rw c.span_of-numbers.ensures (digits0_room a.pass a.name.now a.p.0 a.t (world a.total a.directory.now a.bytes.now) c.requires.roomy c.in-Digits0.is).0

pub overflow_cast-x : goal.overflow_cast-x
overflow_cast-x c =
    let a = c.args in
    record { fits = rw c.in-Digits0.is at c.requires.p_bound.1 }

pub put_byte-requires-in-Digits0 : goal.put_byte-requires-in-Digits0
put_byte-requires-in-Digits0 c =
    let a = c.args in
    let d = rw c.span_of-numbers.ensures at c.put_four-next.ensures in
    rw c.span_of-widths.ensures
    (subst (λ (w : World). Room a.pass (span_of a.p.0 dzlen_stream) 1 w) (sym d) (digits0_room a.pass a.name.now a.p.0 a.t (world a.total a.directory.now a.bytes.now) c.requires.roomy c.in-Digits0.is).1)

pub returns-in-String : goal.returns-in-String
unfolding part
returns-in-String c =
    let a = c.args in
    string_ran a.pass a.name.now a.p.0 a.t (world a.total a.directory.now a.bytes.now) _ c.in-String.is (rw (← c.span_of-span.ensures) c.put_text.ensures)

pub returns-in-Char : goal.returns-in-Char
returns-in-Char c =
    let a = c.args in
    char_ran a.pass a.name.now a.p.0 a.t (world a.total a.directory.now a.bytes.now) _ c.in-Char.is (rw (← c.span_of-span-in-Char.ensures) c.put_byte.ensures)

pub returns-in-Digits : goal.returns-in-Digits
returns-in-Digits c =
    let a = c.args in
    digits_ran a.pass a.name.now a.p.0 a.t (world a.total a.directory.now a.bytes.now) _ c.in-Digits.is (rw (← c.span_of-span-in-Digits.ensures) c.put_four.ensures)

pub returns-in-Digits0 : goal.returns-in-Digits0
returns-in-Digits0 c =
    let a = c.args in
    digits0_ran a.pass a.name.now a.p.0 a.t (world a.total a.directory.now a.bytes.now) _ c.in-Digits0.is (rw c.span_of-numbers.ensures at c.put_four-next.ensures) (rw c.span_of-widths.ensures at c.put_byte-in-Digits0.ensures)
