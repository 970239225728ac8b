-- What holds of every number of a list, and of each of so many numbers.
use Rattle.std.specs.Prelude.{ℕ, zero, suc, ◌+◌, ◌<◌, List, [], ◌∷◌, Bool, true, get_or}
use Rattle.base.specs.Choice.{both}

-- each number passes the test
unfoldable pub every : (ℕ → Bool) → List ℕ → Bool
every test [] = true
every test (b ∷ l) = both (test b) (every test l)

-- n numbers from i on
unfoldable pub numbers : ℕ → ℕ → List ℕ
numbers i zero = []
numbers i (suc n) = i ∷ numbers (i + 1) n

-- each of n numbers from i on passes the test
abbrev pub each : (ℕ → Bool) → ℕ → ℕ → Bool
each test i n = every test (numbers i n)

-- each number is below a bound
abbrev pub Below : ℕ → List ℕ → Type 0
Below n l = (i : ℕ) → get_or l i 0 < n
