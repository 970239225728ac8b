-- What each name puts into which span: DUP or DIFF and the distance at position 0, its tokens from position 1 on.
use Rattle.std.specs.Prelude.{ℕ, ◌+◌, List, [], ◌∷◌, ◌++◌}
use Rattle.spans.specs.Spans.{four_bytes}
use Rattle.block.specs.Block.{span_of}
use Rattle.block.specs.Streams.{type_stream, dup_stream, diff_stream}
use Rattle.numbering.specs.Types.{Rules}
use Rattle.distances.specs.declared.Reference.{Reference}
use Rattle.distances.specs.declared.Reference.TheVariants.{Dup, Diff}
use Rattle.choices.specs.Choices.{choices_of}
use Rattle.references.specs.References.{reference_of, leans_on}
use Rattle.laying.specs.Puts.{Put, put}
use Rattle.tokenputs.specs.TokenPuts.{token_puts}

-- at position 0 the number of the type, and the distance in its stream
unfoldable pub head_puts : ℕ → ℕ → ℕ → List Put
head_puts number stream distance = put (span_of 0 type_stream) (number ∷ []) ∷ put (span_of 0 stream) (four_bytes distance) ∷ []

-- DIFF and the tokens, which lean on the rows of r
abbrev pub diff_puts : Rules → ℕ → List ℕ → List ℕ → List Put
diff_puts rules distance r s = head_puts rules.numbers.diff diff_stream distance ++ token_puts rules s 1 (choices_of r s)

-- DUP, or DIFF and the tokens
unfoldable pub reference_puts : Rules → List ℕ → List ℕ → Reference → List Put
reference_puts rules r s (Dup d) = head_puts rules.numbers.dup dup_stream d.0
reference_puts rules r s (Diff d) = diff_puts rules d.0 r s

-- name n, which is s, after the name before it
unfoldable pub name_puts : Rules → ℕ → List ℕ → List ℕ → List Put
name_puts rules n before s = reference_puts rules (leans_on n before) s (reference_of n before s)

-- the names from name n on
unfoldable pub puts_from : Rules → ℕ → List ℕ → List (List ℕ) → List Put
puts_from rules n before [] = []
puts_from rules n before (s ∷ ss) = name_puts rules n before s ++ puts_from rules (n + 1) s ss

-- all that the names put
unfoldable pub puts_of : Rules → List (List ℕ) → List Put
puts_of rules names = puts_from rules 0 [] names
