-- Which token begins at a place of a name, in the papers' own words, document 01's and C-14's, beside the definition (Pieces). Where it ends, splitting says (Rule).
use Rattle.std.specs.Prelude.{ℕ, ◌+◌, ◌-◌, ◌<◌, ◌≡◌, true, false, ◌⊎◌, List, length, get_or}
use Rattle.base.specs.Memory.{part}
use Rattle.digits.specs.Digits.{is_digit, value_of}
use Rattle.classes.specs.Classes.{is_letter}
use Rattle.splitting.specs.Split.{cut_at}
use Rattle.pieces.specs.declared.Piece.TheVariants.{String, Char, Digits, Digits0}
use Rattle.pieces.specs.Pieces.{piece_at}

-- the token at position p, by its first byte and where it is cut
pub record Becomes (s : List ℕ) (p at : ℕ) : Type 0 where
  -- a run of digits "is DIGITS0 if it begins with 0 (width is its length), else DIGITS"
  pub digits0 : (p ≡ 127 → ⊥) → get_or s at 0 ≡ 48 → piece_at s p at ≡ Digits0 (record { number = value_of (part s at (cut_at s p at)); width = cut_at s p at - at })
  pub digits : (p ≡ 127 → ⊥) → is_digit (get_or s at 0) ≡ true → (get_or s at 0 ≡ 48 → ⊥) → piece_at s p at ≡ Digits (value_of (part s at (cut_at s p at)))
  -- what begins with no digit, and all that remains at position 127, "is CHAR if it is one byte, else STRING"
  pub char : (p ≡ 127) ⊎ (is_digit (get_or s at 0) ≡ false) → cut_at s p at ≡ at + 1 → piece_at s p at ≡ Char (get_or s at 0)
  pub string : (p ≡ 127) ⊎ (is_digit (get_or s at 0) ≡ false) → (cut_at s p at ≡ at + 1 → ⊥) → piece_at s p at ≡ String at (cut_at s p at)
  -- C-14: "every other byte is a CHAR of its own"
  pub alone : is_digit (get_or s at 0) ≡ false → is_letter (get_or s at 0) ≡ false → (p ≡ 127 → ⊥) → piece_at s p at ≡ Char (get_or s at 0)

-- at each place of each name
abbrev pub EachBecomes : Type 0
EachBecomes = (s : List ℕ) (p at : ℕ) → at < length s → Becomes s p at
