-- "A line a name: its number, DIFF or DUP with the distance, then each token as written, its type and its text or number."
use Rattle.std.specs.Prelude.{ℕ, ◌+◌, List, [], ◌∷◌, ◌++◌}
use Rattle.digits.specs.Digits.{printed}
use Rattle.choices.specs.declared.Choice.{Choice}
use Rattle.distances.specs.declared.Reference.{Reference}
use Rattle.distances.specs.declared.Reference.TheVariants.{Dup, Diff}
use Rattle.choices.specs.Choices.{choices_of}
use Rattle.references.specs.References.{reference_of, leans_on}
use Rattle.texts.specs.Words.{dup_word, diff_word, newline}
use Rattle.texts.specs.Texts.{choice_text}

unfoldable pub tokens_text : List ℕ → List Choice → List ℕ
tokens_text s [] = []
tokens_text s (c ∷ cs) = choice_text s c ++ tokens_text s cs

-- DUP or DIFF with the distance; the tokens of a DIFF, which lean on the rows of r
unfoldable pub reference_text : List ℕ → List ℕ → Reference → List ℕ
reference_text r s (Dup d) = dup_word ++ printed d.0
reference_text r s (Diff d) = (diff_word ++ printed d.0) ++ tokens_text s (choices_of r s)

-- name n, which is s, after the name before it
unfoldable pub name_text : ℕ → List ℕ → List ℕ → List ℕ
name_text n before s = reference_text (leans_on n before) s (reference_of n before s)

unfoldable pub line_of : ℕ → List ℕ → List ℕ → List ℕ
line_of n before s = printed n ++ (name_text n before s ++ newline)

-- the names from name n on
unfoldable pub lines_from : ℕ → List ℕ → List (List ℕ) → List ℕ
lines_from n before [] = []
lines_from n before (s ∷ ss) = line_of n before s ++ lines_from (n + 1) s ss

-- all names
unfoldable pub lines_of : List (List ℕ) → List ℕ
lines_of names = lines_from 0 [] names
