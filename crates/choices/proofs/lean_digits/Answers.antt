use mathlib.Core.Path.{refl, ap, ◌∙◌}
use Rattle.choices.specs.Choices.{by_rise, lean_digits}
use Rattle.pieces.specs.declared.Piece.{Piece}
use Rattle.pieces.specs.declared.Piece.TheVariants as piece
use Rattle.choices.specs.declared.Choice.TheVariants as choice
use Rattle.std.specs.Prelude.{ℕ}
use mathlib.Core.Path.{◌≡◌}
use Rattle.choices.proofs.lean_digits.Goals as goal

pub returns-in-Digits : goal.returns-in-Digits
unfolding lean_digits
returns-in-Digits c =
    let n = c.args.n in
    rw c.in-Digits.is (c.by_rise.ensures ∙ ap (by_rise n) c.rise_of.ensures)

-- of another kind
other : (i : ℕ) (u : Piece) → ((m : ℕ) → u ≡ piece.Digits m → ⊥) → choice.Itself (piece.Digits i) ≡ lean_digits i u
unfolding lean_digits
other i (piece.String s z) n = refl
other i (piece.Char b) n = refl
other i (piece.Digits m) n = absurd (n m refl)
other i (piece.Digits0 y) n = refl

pub returns-in_default : goal.returns-in_default
returns-in_default c = other c.args.n c.args.u c.in_default.not-Digits
