-- The writing rule's split in the papers' own words, document 01's and C-14's, beside the definition of where a token ends (Split). Which token it is then, pieces says (Becomes).
use Rattle.std.specs.Prelude.{ℕ, ◌+◌, ◌≤◌, ◌<◌, ◌≡◌, Bool, true, false, ◌⊎◌, List, length, get_or}
use Rattle.base.specs.Choice.{pick}
use Rattle.digits.specs.Digits.{is_digit}
use Rattle.classes.specs.Classes.{is_letter}
use Rattle.splitting.specs.Split.{cut_at}

-- a longest run of bytes that pass a test, so many at most, from a place of a name on
pub record Longest (test : ℕ → Bool) (most : ℕ) (s : List ℕ) (at end : ℕ) : Type 0 where
  pub some : at < end
  pub within : (end ≤ length s) × (end ≤ at + most)
  pub all : (i : ℕ) → at ≤ i → i < end → test (get_or s i 0) ≡ true
  pub stops : end < length s → end < at + most → test (get_or s end 0) ≡ false

-- document 01's other bytes, those that are no digits
abbrev pub no_digit : ℕ → Bool
no_digit b = pick (is_digit b) false true

-- where the token ends that begins at a place of a name, before position 127
pub record Splits (s : List ℕ) (at end : ℕ) : Type 0 where
  -- "a longest run of digits, cut after 9"
  pub digits : is_digit (get_or s at 0) ≡ true → Longest is_digit 9 s at end
  -- C-14: "a longest run of the letters A to Z and a to z stays one token"
  pub letters : is_letter (get_or s at 0) ≡ true → Longest is_letter (length s) s at end
  -- C-14: every other byte is one of its own
  pub alone : is_digit (get_or s at 0) ≡ false → is_letter (get_or s at 0) ≡ false → end ≡ at + 1
  -- what stays: document 01's longest run of other bytes is one token still if it is one byte, or letters only
  pub stays : (e : ℕ) → Longest no_digit (length s) s at e → (e ≡ at + 1) ⊎ ((i : ℕ) → at ≤ i → i < e → is_letter (get_or s i 0) ≡ true) → end ≡ e

-- at each place of each name
pub record Rule : Type 0 where
  pub split : (s : List ℕ) (p at : ℕ) → at < length s → (p ≡ 127 → ⊥) → Splits s at (cut_at s p at)
  -- "If bytes remain at position 127, all of them are one CHAR or STRING"
  pub rest : (s : List ℕ) (at : ℕ) → at < length s → cut_at s 127 at ≡ length s
