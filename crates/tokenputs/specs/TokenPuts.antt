-- What a name's tokens put into which span: each its type, then its value.
use Rattle.std.specs.Prelude.{ℕ, ◌+◌, List, [], ◌∷◌, ◌++◌}
use Rattle.block.specs.Block.{span_of}
use Rattle.block.specs.Streams.{type_stream}
use Rattle.numbering.specs.declared.TokenType.{TokenType}
use Rattle.numbering.specs.Types.{Rules, type_number}
use Rattle.pieces.specs.declared.Piece.{Piece}
use Rattle.pieces.specs.declared.Piece.TheVariants.{String, Char, Digits, Digits0}
use Rattle.choices.specs.declared.Choice.{Choice}
use Rattle.choices.specs.declared.Choice.TheVariants.{Itself, Delta, Delta0, Match, End}
use Rattle.laying.specs.Puts.{Put, put}
use Rattle.numbering.specs.declared.TokenType.TheVariants as type
use Rattle.valueputs.specs.ValuePuts.{value_puts}

unfoldable pub piece_type : Piece → TokenType
piece_type (String a e) = type.String
piece_type (Char b) = type.Char
piece_type (Digits n) = type.Digits
piece_type (Digits0 x) = type.Digits0

unfoldable pub choice_type : Choice → TokenType
choice_type (Itself t) = piece_type t
choice_type (Delta d) = type.Delta
choice_type (Delta0 d) = type.Delta0
choice_type Match = type.Match
choice_type End = type.End

-- its type, then its value
unfoldable pub choice_puts : Rules → List ℕ → ℕ → Choice → List Put
choice_puts rules s p c = put (span_of p type_stream) (type_number rules.numbers (choice_type c) ∷ []) ∷ value_puts s p c

-- the choices for a name's tokens, from position p on
unfoldable pub token_puts : Rules → List ℕ → ℕ → List Choice → List Put
token_puts rules s p [] = []
token_puts rules s p (c ∷ cs) = choice_puts rules s p c ++ token_puts rules s (p + 1) cs
