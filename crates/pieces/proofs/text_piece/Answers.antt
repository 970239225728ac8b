use Prim.Native.Nat.{◌+◌}
use mathlib.Core.Path.{refl}
use native.Mathlib.Omega.{arith}
use borrow.Author.Tests.{eq-eqb, ne_eqb}
use Rattle.base.proofs.Choice.{took, left}
use Rattle.pieces.specs.Pieces.{text_piece}
use Rattle.pieces.proofs.text_piece.Goals as goal

pub returns-then-end-at : goal.returns-then-end-at
unfolding text_piece
returns-then-end-at c =
    let a = c.args in
    took _ _ (eq-eqb a.end (a.at + 1) (omega (arith, c.if-end-at.true))) refl

pub returns : goal.returns
unfolding text_piece
returns c =
    let a = c.args in
    left _ _ (ne_eqb a.end (a.at + 1) (λ e. c.if-end-at.false (omega arith))) refl
