-- "Each token as written, its type and its text or number."
use Rattle.std.specs.Prelude.{ℕ, List, [], ◌∷◌, ◌++◌}
use Rattle.base.specs.Memory.{part}
use Rattle.digits.specs.Digits.{printed}
use Rattle.tokens.specs.declared.Padded.{Padded}
use Rattle.pieces.specs.declared.Piece.{Piece}
use Rattle.pieces.specs.declared.Piece.TheVariants.{String, Char, Digits, Digits0}
use Rattle.choices.specs.declared.Choice.{Choice}
use Rattle.choices.specs.declared.Choice.TheVariants.{Itself, Delta, Delta0, Match, End}
use Rattle.texts.specs.Words.{string_word, char_word, digits_word, digits0_word, slash, delta_word, delta0_word, match_word, end_word}

-- a STRING of s, from one place to another
unfoldable pub string_text : List ℕ → ℕ → ℕ → List ℕ
string_text s a e = string_word ++ part s a e

unfoldable pub char_text : ℕ → List ℕ
char_text b = char_word ++ b ∷ []

-- DIGITS0 as number/width
unfoldable pub padded_text : Padded → List ℕ
padded_text x = (digits0_word ++ printed x.number) ++ (slash ++ printed x.width)

-- a token of s that is written itself
unfoldable pub piece_text : List ℕ → Piece → List ℕ
piece_text s (String a e) = string_text s a e
piece_text s (Char b) = char_text b
piece_text s (Digits n) = digits_word ++ printed n
piece_text s (Digits0 x) = padded_text x

-- MATCH and END alone
unfoldable pub choice_text : List ℕ → Choice → List ℕ
choice_text s (Itself t) = piece_text s t
choice_text s (Delta d) = delta_word ++ printed d
choice_text s (Delta0 d) = delta0_word ++ printed d
choice_text s Match = match_word
choice_text s End = end_word
