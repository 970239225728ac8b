-- The room that suffices to read names back.
use Rattle.std.specs.Prelude.{ℕ, ◌+◌, List, [], ◌∷◌, ◌++◌, length}
use Rattle.base.specs.Choice.{pick}
use Rattle.comparing.specs.Same.{same}
use Rattle.references.specs.References.{anew}
use Rattle.roundtrip.specs.Rows.{tokens_in}

-- each name with its byte 10
unfoldable pub listed : List (List ℕ) → List ℕ
listed [] = []
listed (s ∷ ss) = (s ++ 10 ∷ []) ++ listed ss

-- bytes of text
unfoldable pub text_wanted : List (List ℕ) → ℕ
text_wanted [] = 0
text_wanted (s ∷ ss) = length s + 1 + text_wanted ss

-- rows that name n adds, after the name before it: none if it is a DUP, else one for each token
unfoldable pub rows_added : ℕ → List ℕ → List ℕ → ℕ
rows_added n before s = pick (anew n) (tokens_in s) (pick (same before s) 0 (tokens_in s))

-- rows of the names from name n on
unfoldable pub rows_for : ℕ → List ℕ → List (List ℕ) → ℕ
rows_for n before [] = 0
rows_for n before (s ∷ ss) = rows_added n before s + rows_for (n + 1) s ss

-- rows of all names
unfoldable pub rows_wanted : List (List ℕ) → ℕ
rows_wanted names = rows_for 0 [] names
