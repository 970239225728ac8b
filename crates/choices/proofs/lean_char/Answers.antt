use mathlib.Core.Path.{refl}
use borrow.Author.Tests.{eq-eqb, ne_eqb}
use Rattle.base.proofs.Choice.{took, left}
use Rattle.choices.specs.Choices.{lean_char}
use Rattle.pieces.specs.declared.Piece.{Piece}
use Rattle.pieces.specs.declared.Piece.TheVariants as piece
use Rattle.choices.specs.declared.Choice.TheVariants as choice
use Rattle.std.specs.Prelude.{ℕ}
use mathlib.Core.Path.{◌≡◌}
use Rattle.choices.proofs.lean_char.Goals as goal

pub returns-then-a-b : goal.returns-then-a-b
unfolding lean_char
returns-then-a-b c = rw c.in-Char.is (took _ _ (eq-eqb _ _ c.if-a-b.true) refl)

pub returns-else-a-b : goal.returns-else-a-b
unfolding lean_char
returns-else-a-b c = rw c.in-Char.is (left _ _ (ne_eqb _ _ c.if-a-b.false) refl)

-- of another kind
other : (a : ℕ) (u : Piece) → ((b : ℕ) → u ≡ piece.Char b → ⊥) → choice.Itself (piece.Char a) ≡ lean_char a u
unfolding lean_char
other a (piece.String s z) n = refl
other a (piece.Char b) n = absurd (n b refl)
other a (piece.Digits m) n = refl
other a (piece.Digits0 y) n = refl

pub returns-in_default : goal.returns-in_default
returns-in_default c = other c.args.a c.args.u c.in_default.not-Char
