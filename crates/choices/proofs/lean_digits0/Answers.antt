use mathlib.Core.Path.{◌≡◌, refl, ap, ◌∙◌}
use native.Mathlib.Omega.{arith}
use borrow.Author.Tests.{eq-eqb, ne_eqb}
use Rattle.base.proofs.Choice.{took, left}
use Rattle.choices.specs.Choices.{by_rise0, lean_digits0}
use Rattle.pieces.specs.declared.Piece.{Piece}
use Rattle.pieces.specs.declared.Piece.TheVariants as piece
use Rattle.choices.specs.declared.Choice.TheVariants as choice
use Rattle.std.specs.Prelude.{ℕ}
use Rattle.tokens.specs.declared.Padded.{Padded}
use Rattle.choices.proofs.lean_digits0.Goals as goal

pub returns-then-x-y : goal.returns-then-x-y
unfolding lean_digits0
returns-then-x-y c =
    let x = c.args.x in
    let e : x.width ≡ c.in-Digits0.y.width = omega arith in
    rw c.in-Digits0.is (took _ _ (eq-eqb _ _ e) (c.by_rise0.ensures ∙ ap (by_rise0 x) c.rise_of.ensures))

pub returns-else-x-y : goal.returns-else-x-y
unfolding lean_digits0
returns-else-x-y c =
    rw c.in-Digits0.is (left _ _ (ne_eqb _ _ c.if-x-y.false) refl)

-- of another kind
other : (x : Padded) (u : Piece) → ((y : Padded) → u ≡ piece.Digits0 y → ⊥) → choice.Itself (piece.Digits0 x) ≡ lean_digits0 x u
unfolding lean_digits0
other x (piece.String s z) n = refl
other x (piece.Char b) n = refl
other x (piece.Digits m) n = refl
other x (piece.Digits0 y) n = absurd (n y refl)

pub returns-in_default : goal.returns-in_default
returns-in_default c = other c.args.x c.args.u c.in_default.not-Digits0
