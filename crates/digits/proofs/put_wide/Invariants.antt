use Prim.Native.Nat.{ℕ, ◌-◌}
use mathlib.Core.Path.{◌≡◌}
use mathlib.Core.List.{List}
use Rattle.base.specs.Memory.{written}
use Rattle.digits.specs.Digits.{padded}
use Rattle.digits.specs.Fractions.{Begins}
use Rattle.digits.proofs.put_wide.Given as goal

-- the digits that are left, written behind those that stand, make the whole
pub record Padded (n w : ℕ) (buf₀ : List ℕ) (at end : ℕ) (buf : List ℕ) (rest place : ℕ) : Type 0 where
  pub begins : (end - place ≡ 10 → ⊥) → Begins n (end - place) rest
  pub others : written buf place (padded n (end - place)) ≡ written buf₀ at (padded n w)

abbrev pub invariant-loop-place : goal.invariant-loop-place
invariant-loop-place l = Padded l.n l.w l.initial.buf l.at l.end l.buf l.rest l.place
