-- The rows of a name's own split: what each of its tokens prints, and its row where the name's text stands at a place.
use Rattle.std.specs.Prelude.{ℕ, zero, suc, ◌+◌, List, [], ◌∷◌, ltb, length}
use Rattle.base.specs.Choice.{pick}
use Rattle.base.specs.Memory.{part}
use Rattle.digits.specs.Digits.{printed, padded}
use Rattle.tables.specs.declared.Row.{Row}
use Rattle.pieces.specs.declared.Piece.{Piece}
use Rattle.pieces.specs.declared.Piece.TheVariants.{String, Char, Digits, Digits0}
use Rattle.splitting.specs.Split.{cut_at}
use Rattle.pieces.specs.Pieces.{piece_at}

-- the printed bytes of a token of s
unfoldable pub piece_bytes : List ℕ → Piece → List ℕ
piece_bytes s (String a e) = part s a e
piece_bytes s (Char b) = b ∷ []
piece_bytes s (Digits n) = printed n
piece_bytes s (Digits0 x) = padded x.number x.width

unfoldable pub piece_kind : Piece → ℕ
piece_kind (String a e) = 1
piece_kind (Char b) = 2
piece_kind (Digits n) = 7
piece_kind (Digits0 x) = 4

unfoldable pub piece_number : Piece → ℕ
piece_number (String a e) = 0
piece_number (Char b) = 0
piece_number (Digits n) = n
piece_number (Digits0 x) = x.number

unfoldable pub piece_width : Piece → ℕ
piece_width (String a e) = 0
piece_width (Char b) = 0
piece_width (Digits n) = 0
piece_width (Digits0 x) = x.width

-- its row
unfoldable pub piece_row : List ℕ → Piece → ℕ → Row
piece_row s x at = record { kind = piece_kind x; number = piece_number x; width = piece_width x; start = at; length = length (piece_bytes s x) }

-- the rows of the tokens from the one at position p on, which begins at a; f tokens at most
unfoldable pub rows_from : List ℕ → ℕ → ℕ → ℕ → ℕ → List Row
rows_from s at zero p a = []
rows_from s at (suc f) p a = pick (ltb a (length s)) (piece_row s (piece_at s p a) (at + a) ∷ rows_from s at f (p + 1) (cut_at s p a)) []

-- how many they are
unfoldable pub count_from : List ℕ → ℕ → ℕ → ℕ → ℕ
count_from s zero p a = 0
count_from s (suc f) p a = pick (ltb a (length s)) (1 + count_from s f (p + 1) (cut_at s p a)) 0

-- all rows of s, its text standing at a place
unfoldable pub split_rows : List ℕ → ℕ → List Row
split_rows s at = rows_from s at 127 1 0

-- how many tokens s has, not counting END
unfoldable pub tokens_in : List ℕ → ℕ
tokens_in s = count_from s 127 1 0
