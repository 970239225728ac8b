use Prim.Native.Nat.{◌+◌, ◌≤◌}
use lib.ListN.{length}
use borrow.Author.Tests.{leb-true, le-leb, lt-leb}
use Rattle.base.proofs.Choice.{both_of, both_left, both_right}
use Rattle.digits.proofs.Laws.{length_padded}
use Rattle.leaves.proofs.Laws.{stands, no_room, may_not}
use mathlib.Core.Path.{sym, ◌∙◌}
use Rattle.leaves.proofs.leaf_print_padded.Goals as goal

pub returns-then-width-gt254 : goal.returns-then-width-gt254
returns-then-width-gt254 c = may_not _ _ _ (both_left _ (lt-leb _ _ c.if-width-gt254.true))

pub returns-then-not-fits_width : goal.returns-then-not-fits_width
returns-then-not-fits_width c = may_not _ _ _ (both_right (le-leb _ _ c.if-width-gt254.false) (sym c.fits_width.ensures ∙ c.if-not-fits_width.true))

pub returns-then-not-has_room : goal.returns-then-not-has_room
returns-then-not-has_room c =
    no_room _ _ _ _ (sym (length_padded _ _)) (both_of (le-leb _ _ c.if-width-gt254.false) (sym c.fits_width.ensures ∙ c.if-not-fits_width.false))
    (sym c.has_room.ensures ∙ c.if-not-has_room.true)

pub print_padded-requires : goal.print_padded-requires
print_padded-requires c =
    let a = c.args in
    let h : a.at + a.width ≤ length a.buf.now = leb-true _ _ (sym c.has_room.ensures ∙ c.if-not-has_room.false) in
    h

pub returns : goal.returns
returns c =
    stands _ _ _ _ (sym (length_padded _ _)) (both_of (le-leb _ _ c.if-width-gt254.false) (sym c.fits_width.ensures ∙ c.if-not-fits_width.false))
    (sym c.has_room.ensures ∙ c.if-not-has_room.false) (sym (length_padded _ _)) c.print_padded.ensures
