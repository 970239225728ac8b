use Prim.Native.Nat.{ℕ, ◌+◌, ◌<◌}
use mathlib.Core.Path.{◌≡◌}
use mathlib.Core.List.{List}
use Rattle.base.specs.Memory.{written}
use Rattle.digits.specs.Digits.{padded}
use Rattle.digits.specs.Fractions.{whole, leading}
use Rattle.digits.proofs.put_digits.Given as goal

-- the digits of what is left, written behind those that stand, make the whole
pub record Filled (f w : ℕ) (buf₀ : List ℕ) (at : ℕ) (buf : List ℕ) (rest left place : ℕ) : Type 0 where
  pub within : place + left ≡ at + w
  pub parts : rest < whole
  pub others : written buf place (padded (leading rest left) left) ≡ written buf₀ at (padded (leading f w) w)

abbrev pub invariant-loop-left : goal.invariant-loop-left
invariant-loop-left l = Filled l.f l.w l.initial.buf l.at l.buf l.rest l.left l.place

abbrev pub decreases-loop-left : goal.decreases-loop-left
decreases-loop-left l = l.left
