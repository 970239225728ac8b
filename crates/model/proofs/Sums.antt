-- Laws of what a list comes to, where one number changes.
use Prim.Native.Nat.{ℕ, zero, suc, ◌+◌, ◌≤◌, ◌<◌}
use mathlib.Core.Path.{◌≡◌}
use mathlib.Core.List.{List, [], ◌∷◌}
use native.Mathlib.Omega.{arith}
use lib.ListN.{length, get_or, set}
use Rattle.model.specs.Model.{sum_of}

module _ (worth : ℕ → ℕ) where
  pub sum_set : (l : List ℕ) (x v : ℕ) → x < length l → sum_of worth (set l x v) + worth (get_or l x 0) ≡ sum_of worth l + worth v
  unfolding sum_of
  sum_set [] x v h = absurd (omega arith)
  sum_set (y ∷ l) zero v h = omega arith
  sum_set (y ∷ l) (suc x) v h = omega (arith, sum_set l x v (omega arith))

  -- one number is worth no more than all
  pub sum_at : (l : List ℕ) (x : ℕ) → x < length l → worth (get_or l x 0) ≤ sum_of worth l
  unfolding sum_of
  sum_at [] x h = absurd (omega arith)
  sum_at (y ∷ l) zero h = omega arith
  sum_at (y ∷ l) (suc x) h = omega (arith, sum_at l x (omega arith))
