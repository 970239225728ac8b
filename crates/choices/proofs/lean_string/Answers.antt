use mathlib.Core.Path.{refl, sym, ◌∙◌}
use native.Mathlib.Omega.{arith}
use Rattle.base.specs.Memory.{part}
use Rattle.base.proofs.Choice.{took, left}
use Rattle.choices.specs.Choices.{lean_string}
use Rattle.pieces.specs.declared.Piece.{Piece}
use Rattle.pieces.specs.declared.Piece.TheVariants as piece
use Rattle.choices.specs.declared.Choice.TheVariants as choice
use Rattle.std.specs.Prelude.{ℕ, List}
use mathlib.Core.Path.{◌≡◌}
use Rattle.choices.proofs.lean_string.Goals as goal

pub slice_bounds-same-count-in-String : goal.slice_bounds-same-count-in-String
slice_bounds-same-count-in-String c =
    let w = rw c.in-String.is at c.requires.within in
    omega arith

pub slice_bounds-same-start-in-String : goal.slice_bounds-same-start-in-String
slice_bounds-same-start-in-String c =
    let w = rw c.in-String.is at c.requires.within in
    omega arith

pub slice_bounds-same-end-in-String : goal.slice_bounds-same-end-in-String
slice_bounds-same-end-in-String c =
    let w = rw c.in-String.is at c.requires.within in
    omega arith

pub returns-then-same : goal.returns-then-same
unfolding lean_string part
returns-then-same c =
    rw c.in-String.is (took _ _ (sym c.same.ensures ∙ c.if-same.true) refl)

pub returns-else-same : goal.returns-else-same
unfolding lean_string part
returns-else-same c =
    rw c.in-String.is (left _ _ (sym c.same.ensures ∙ c.if-same.false) refl)

-- of another kind
other : (name : List ℕ) (a e : ℕ) (before : List ℕ) (u : Piece) → ((s z : ℕ) → u ≡ piece.String s z → ⊥) → choice.Itself (piece.String a e) ≡ lean_string name a e before u
unfolding lean_string
other name a e before (piece.String s z) n = absurd (n s z refl)
other name a e before (piece.Char b) n = refl
other name a e before (piece.Digits m) n = refl
other name a e before (piece.Digits0 y) n = refl

pub returns-in_default : goal.returns-in_default
returns-in_default c = other c.args.name.now c.args.a c.args.e c.args.before.now c.args.u c.in_default.not-String
