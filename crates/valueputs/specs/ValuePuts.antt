-- What the value of a token puts into which span.
use Rattle.std.specs.Prelude.{ℕ, List, [], ◌∷◌, ◌++◌}
use Rattle.base.specs.Memory.{part}
use Rattle.spans.specs.Spans.{four_bytes}
use Rattle.block.specs.Block.{span_of}
use Rattle.block.specs.Streams.{string_stream, char_stream, digits0_stream, dzlen_stream, digits_stream, ddelta_stream, ddelta0_stream}
use Rattle.pieces.specs.declared.Piece.{Piece}
use Rattle.pieces.specs.declared.Piece.TheVariants.{String, Char, Digits, Digits0}
use Rattle.choices.specs.declared.Choice.{Choice}
use Rattle.choices.specs.declared.Choice.TheVariants.{Itself, Delta, Delta0, Match, End}
use Rattle.laying.specs.Puts.{Put, put}

-- the value of a token of s at position p
unfoldable pub piece_puts : List ℕ → ℕ → Piece → List Put
piece_puts s p (String a e) = put (span_of p string_stream) (part s a e ++ 0 ∷ []) ∷ []
piece_puts s p (Char b) = put (span_of p char_stream) (b ∷ []) ∷ []
piece_puts s p (Digits n) = put (span_of p digits_stream) (four_bytes n) ∷ []
piece_puts s p (Digits0 x) = put (span_of p digits0_stream) (four_bytes x.number) ∷ put (span_of p dzlen_stream) (x.width ∷ []) ∷ []

unfoldable pub value_puts : List ℕ → ℕ → Choice → List Put
value_puts s p (Itself t) = piece_puts s p t
value_puts s p (Delta d) = put (span_of p ddelta_stream) (d ∷ []) ∷ []
value_puts s p (Delta0 d) = put (span_of p ddelta0_stream) (d ∷ []) ∷ []
value_puts s p Match = []
value_puts s p End = []
