-- What is left of the spans once one has been taken from.
use Prim.Native.Nat.{ℕ}
use mathlib.Core.Path.{◌≡◌, refl}
use mathlib.Core.List.{List}
use borrow.Author.Tests.{eq-eqb, ne_eqb}
use Rattle.base.proofs.Choice.{pick_true, pick_false}
use Rattle.words.specs.Fronts.{Spans, leave}

module _ (left : Spans) (i : ℕ) (l : List ℕ) where
  pub leave_same : leave left i l i ≡ l
  unfolding leave
  leave_same = pick_true _ _ (eq-eqb i i refl)

  pub leave_other : (j : ℕ) → (j ≡ i → ⊥) → leave left i l j ≡ left j
  unfolding leave
  leave_other j n = pick_false _ _ (ne_eqb j i n)
