-- Laws of numbers that the kit does not have.
use Prim.Native.Nat.{ℕ, ◌+◌, ◌≤◌, ◌<◌}
use mathlib.Core.Path.{◌≡◌, refl, subst}
use mathlib.Core.Bool.{Bool, true, false}
use mathlib.Core.Logic.{◌⊎◌, inl, inr, ⊎_elim}
use native.Mathlib.Omega.{arith}
use borrow.Author.Tests.{ltb-true, ltb-false}
use lib.Dec.{ltb}

side : (a b : ℕ) (t : Bool) → ltb a b ≡ t → (a < b) ⊎ (b ≤ a)
side a b true e = inl (ltb-true a b e)
side a b false e = inr (ltb-false a b e)

pub lt_or_ge : (a b : ℕ) → (a < b) ⊎ (b ≤ a)
lt_or_ge a b = side a b (ltb a b) refl

pub by_order : {P : Type 0} (a b : ℕ) → (a < b → P) → (b ≤ a → P) → P
by_order a b f g = ⊎_elim f g (lt_or_ge a b)

-- what holds here, and of each later place, holds from here on
pub here_or_later : (P : ℕ → Type 0) (p i : ℕ) → p ≤ i → P p → (p + 1 ≤ i → P i) → P i
here_or_later P p i h a b = by_order p i (λ l. b (omega arith)) (λ l. let e : p ≡ i = omega arith in subst P e a)
