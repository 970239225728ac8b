-- The writing rule, "Split from the left": the token that begins at a place of a name. Position p is 1 to 127.
use Rattle.std.specs.Prelude.{ℕ, ◌+◌, ◌-◌, ◌≤◌, ◌<◌, List, eqb, length, get_or}
use Rattle.base.specs.Choice.{pick}
use Rattle.base.specs.Memory.{part}
use Rattle.digits.specs.Digits.{value_of}
use Rattle.classes.specs.declared.Class.TheVariants.{Digit}
use Rattle.classes.specs.Classes.{class_of, same_class}
use Rattle.pieces.specs.declared.Piece.{Piece}
use Rattle.pieces.specs.declared.Piece.TheVariants.{String, Char, Digits, Digits0}
use Rattle.splitting.specs.Split.{run_at}

-- CHAR if it is one byte, else STRING
unfoldable pub text_piece : List ℕ → ℕ → ℕ → Piece
text_piece s at end = pick (eqb end (at + 1)) (Char (get_or s at 0)) (String at end)

-- DIGITS0 if it begins with 0 (width is its length), else DIGITS
unfoldable pub number_piece : List ℕ → ℕ → ℕ → Piece
number_piece s at end =
    pick (eqb (get_or s at 0) 48)
    (Digits0 (record { number = value_of (part s at end); width = end - at }))
    (Digits (value_of (part s at end)))

-- the token: a number where a run of digits begins, but not at position 127
unfoldable pub piece_at : List ℕ → ℕ → ℕ → Piece
piece_at s p at =
    pick (eqb p 127) (text_piece s at (length s))
    (pick (same_class (class_of (get_or s at 0)) Digit) (number_piece s at (run_at s at)) (text_piece s at (run_at s at)))

-- a token whose bytes, if it is a STRING, lie in the name, and whose width, if it has one, is a byte
abbrev pub Within : List ℕ → Piece → Type 0
Within s (String a e) = (a ≤ e) × (e ≤ length s)
Within s (Char b) = Unit
Within s (Digits n) = Unit
Within s (Digits0 x) = x.width < 256
