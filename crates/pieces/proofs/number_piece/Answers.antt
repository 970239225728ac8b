use Prim.Native.Nat.{ℕ, ◌-◌}
use mathlib.Core.Path.{◌≡◌, ap}
use native.Mathlib.Omega.{arith}
use borrow.Author.Tests.{eq-eqb, ne_eqb}
use Rattle.base.proofs.Choice.{took, left}
use Rattle.pieces.specs.declared.Piece.TheVariants.{Digits, Digits0}
use Rattle.pieces.specs.Pieces.{number_piece}
use Rattle.pieces.proofs.number_piece.Goals as goal

-- a padded number by its number and its width
padded : {n m w v : ℕ} → n ≡ m → w ≡ v → Digits0 (record { number = n; width = w }) ≡ Digits0 (record { number = m; width = v })
padded e f = rw (e, f)

pub returns-then-name-at-eq48 : goal.returns-then-name-at-eq48
unfolding number_piece
returns-then-name-at-eq48 c =
    took _ _ (eq-eqb _ _ c.if-name-at-eq48.true) (padded {v = c.args.end - c.args.at} c.requires.1.1.1 (omega arith))

pub returns : goal.returns
unfolding number_piece
returns c = left _ _ (ne_eqb _ _ c.if-name-at-eq48.false) (ap Digits c.requires.1.1.1)
