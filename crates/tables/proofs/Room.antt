-- How many of a size a table has room for.
use Prim.Native.Nat.{ℕ, ◌*◌, ◌≤◌, ◌<◌}
use mathlib.Core.Path.{subst}
use mathlib.Core.List.{List}
use native.Mathlib.Nat.{mul_comm, le-div_iff_mul-le}
use lib.ListN.{length}
use Rattle.tables.specs.Tables.{room}

module _ (size : ℕ) (some : 0 < size) (t : List ℕ) (k : ℕ) where
  pub room_holds : k ≤ room size t → size * k ≤ length t
  unfolding room
  room_holds h = subst (λ (n : ℕ). n ≤ length t) (mul_comm k size) ((le-div_iff_mul-le {k = size} {x = k} {y = length t} some).0 h)

  pub room_of_law : size * k ≤ length t → k ≤ room size t
  unfolding room
  room_of_law h = (le-div_iff_mul-le {k = size} {x = k} {y = length t} some).1 (subst (λ (n : ℕ). n ≤ length t) (mul_comm size k) h)
