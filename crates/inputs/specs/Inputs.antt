-- The writer's input: names, each ended by byte 10.
use Rattle.std.specs.Prelude.{ℕ, ◌+◌, ◌-◌, ◌≤◌, ◌<◌, ◌≡◌, Bool, true, false, List, [], ◌∷◌, ◌++◌, leb, eqb, length, get_or, drop, Option, Some, None}
use Rattle.base.specs.Choice.{pick, both, either}
use Rattle.base.specs.Memory.{part}
use Rattle.classes.specs.Classes.{is_allowed, all_allowed}

-- the first name that SAM does not allow, if there is one
abbrev pub Judged : Type 0
Judged = Option ℕ

-- the names in the bytes that follow, `so` being the bytes of the first so far
unfoldable pub names_after : List ℕ → List ℕ → List (List ℕ)
names_after so [] = []
names_after so (b ∷ l) = pick (eqb b 10) (so ∷ names_after [] l) (names_after (so ++ b ∷ []) l)

-- the names of an input
unfoldable pub names_of : List ℕ → List (List ℕ)
names_of input = names_after [] input

-- a name of an input: from a place up to its byte 10, behind which the next one starts
pub record NameAt (input : List ℕ) (at end : ℕ) : Type 0 where
  pub low : at ≤ end
  pub high : end < length input
  pub first : names_after [] (drop at input) ≡ part input at end ∷ names_after [] (drop (end + 1) input)

-- bytes of an input that are allowed, from a place up to one that isn't
pub record AllowedTo (input : List ℕ) (at end : ℕ) : Type 0 where
  pub low : at ≤ end
  pub high : end < length input
  pub allowed : all_allowed (part input at end) ≡ true
  pub barred : is_allowed (get_or input end 0) ≡ false

-- no byte, or the last one is 10
unfoldable pub ended : List ℕ → Bool
ended input = either (eqb (length input) 0) (eqb (get_or input (length input - 1) 0) 10)

-- SAM: 1 to 254 bytes, each of them allowed
unfoldable pub good_name : List ℕ → Bool
good_name s = both (leb 1 (length s)) (both (leb (length s) 254) (all_allowed s))

-- the first bad name, the first one here being name n
unfoldable pub judged_from : ℕ → List (List ℕ) → Judged
judged_from n [] = None
judged_from n (s ∷ ss) = pick (good_name s) (judged_from (n + 1) ss) (Some n)
