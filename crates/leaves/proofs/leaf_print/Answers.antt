use Prim.Native.Nat.{◌+◌, ◌≤◌}
use lib.ListN.{length}
use native.Mathlib.Omega.{arith}
use borrow.Author.Tests.{leb-true}
use Rattle.digits.proofs.Laws.{length_printed}
use Rattle.leaves.proofs.Laws.{stands, no_room}
use mathlib.Core.Path.{refl, sym, ◌∙◌}
use Rattle.leaves.proofs.leaf_print.Goals as goal

pub print-requires : goal.print-requires
print-requires c =
    let a = c.args in
    let h : a.at + c.count-w.result ≤ length a.buf.now = leb-true _ _ (sym c.has_room.ensures ∙ c.if-has_room.true) in
    omega (arith, h, c.count-w.ensures, length_printed a.n)

pub returns-then-has_room : goal.returns-then-has_room
returns-then-has_room c =
    stands _ _ _ c.count-w.result (c.count-w.ensures ∙ sym (length_printed _)) refl (sym c.has_room.ensures ∙ c.if-has_room.true) c.print.ensures.0 c.print.ensures.1

pub returns-else-has_room : goal.returns-else-has_room
returns-else-has_room c =
    no_room _ _ _ c.count-w.result (c.count-w.ensures ∙ sym (length_printed _)) refl (sym c.has_room.ensures ∙ c.if-has_room.false)
