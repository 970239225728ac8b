-- A resolved token: what it prints, and the row that it keeps.
use Rattle.std.specs.Prelude.{ℕ, ◌-◌, List, [], ◌∷◌, length}
use Rattle.base.specs.Choice.{pick}
use Rattle.base.specs.Memory.{part}
use Rattle.digits.specs.Digits.{printed, padded}
use Rattle.tables.specs.declared.Row.{Row}
use Rattle.tokens.specs.declared.Token.{Token}
use Rattle.tokens.specs.declared.Token.TheVariants.{String, Char, Digits, Digits0}

-- the printed bytes. A STRING's lie in the block's bytes, or in the kept text
unfoldable pub bytes_of : List ℕ → List ℕ → Token → List ℕ
bytes_of bytes text (String t) = part (pick t.kept text bytes) t.start t.end
bytes_of bytes text (Char b) = b ∷ []
bytes_of bytes text (Digits n) = printed n
bytes_of bytes text (Digits0 p) = padded p.number p.width

-- kind (1, 2, 4 or 7)
unfoldable pub kind_of : Token → ℕ
kind_of (String t) = 1
kind_of (Char b) = 2
kind_of (Digits n) = 7
kind_of (Digits0 p) = 4

-- number is 0 for kinds 1 and 2
unfoldable pub number_of : Token → ℕ
number_of (String t) = 0
number_of (Char b) = 0
number_of (Digits n) = n
number_of (Digits0 p) = p.number

-- width is 0 except for kind 4
unfoldable pub width_of : Token → ℕ
width_of (String t) = 0
width_of (Char b) = 0
width_of (Digits n) = 0
width_of (Digits0 p) = p.width

-- how many bytes are printed
unfoldable pub length_of : Token → ℕ
length_of (String t) = t.end - t.start
length_of (Char b) = 1
length_of (Digits n) = length (printed n)
length_of (Digits0 p) = p.width

-- its row, the printed bytes standing at a place
unfoldable pub row_of : Token → ℕ → Row
row_of t at = record { kind = kind_of t; number = number_of t; width = width_of t; start = at; length = length_of t }
