-- What holds of a table at all times.
use Rattle.std.specs.Prelude.{ℕ, ◌≤◌, ◌<◌, ◌≡◌, List, length, ltb, eqb}
use Rattle.base.specs.Choice.{pick}
use Rattle.model.specs.declared.Model.{Model}
use Rattle.model.specs.Model.{most, places, sum_of, sum}

-- 1 for the number s, 0 for any other
unfoldable pub is : ℕ → ℕ → ℕ
is s x = pick (eqb x s) 1 0

-- how many times a number stands in a list
abbrev pub times : ℕ → List ℕ → ℕ
times s l = sum_of (is s) l

-- 1 for a number that is n or more, 0 for any other
unfoldable pub beyond : ℕ → ℕ → ℕ
beyond n x = pick (ltb x n) 0 1

-- how many numbers of a list are n or more
abbrev pub outside : ℕ → List ℕ → ℕ
outside n l = sum_of (beyond n) l

-- a table of n symbols
pub record Table (n : ℕ) (m : Model) : Type 0 where
  pub placed : length m.symbols ≡ n
  pub paired : length m.frequencies ≡ n
  -- every symbol stands in the table once, and nothing else does
  pub once : (s : ℕ) → s < n → times s m.symbols ≡ 1
  pub no_other : outside n m.symbols ≡ 0
  -- no frequency is 0
  pub no_zero : times 0 m.frequencies ≡ 0
  -- the total is the sum of the frequencies
  pub summed : m.total ≡ sum m.frequencies

-- a table as every trace leaves it: of at most 256 symbols, with a total of at most 65,504
pub record Sound (n : ℕ) (m : Model) : Type 0 where
  pub table : Table n m
  pub sized : n ≤ places
  pub at_most : m.total ≤ most
