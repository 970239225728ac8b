-- A resolved token is one of four things, two of them carrying a number; a name is made of them.
use Rattle.std.specs.Prelude.{ℕ, List, [], ◌∷◌, ◌++◌, length}
use Rattle.digits.specs.Digits.{printed, padded}
use Rattle.tables.specs.declared.Row.{Row}

pub data Value : Type 0 where
  string : List ℕ → Value
  char : ℕ → Value
  digits : ℕ → Value
  -- a number and its width
  digits0 : ℕ → ℕ → Value

-- a number is printed in base ten, padded with zeros to its width if it has one
unfoldable pub prints : Value → List ℕ
prints (string t) = t
prints (char b) = b ∷ []
prints (digits n) = printed n
prints (digits0 n w) = padded n w

-- tokens printed end to end
unfoldable pub spelt : List Value → List ℕ
spelt [] = []
spelt (v ∷ vs) = prints v ++ spelt vs

-- a name: its tokens, END not among them, and its distance
pub record Name : Type 0 where
  pub tokens : List Value
  pub distance : ℕ

-- no earlier name
abbrev pub nobody : Name
nobody = record { tokens = []; distance = 0 }

-- the row of a token whose printed bytes stand at a place: kind, number, width, text start, text length
abbrev pub row : ℕ → ℕ → ℕ → ℕ → ℕ → Row
row kind number width start length = record { kind = kind; number = number; width = width; start = start; length = length }

unfoldable pub row_for : Value → ℕ → Row
row_for (string t) at = row 1 0 0 at (length t)
row_for (char b) at = row 2 0 0 at 1
row_for (digits n) at = row 7 n 0 at (length (printed n))
row_for (digits0 n w) at = row 4 n w at (length (padded n w))
