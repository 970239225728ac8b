-- How many bytes a name takes from each of the 1,290 spans.
use Rattle.std.specs.Prelude.{ℕ, zero, suc, ◌+◌, ◌-◌, eqb}
use Rattle.base.specs.Choice.{pick}
use Rattle.spans.specs.Spans.{text_end}
use Rattle.block.specs.Block.{span_of, end_of, cursor_of}
use Rattle.block.specs.Streams.{type_stream, string_stream, char_stream, digits0_stream, dzlen_stream, digits_stream, ddelta_stream, ddelta0_stream}
use Rattle.numbering.specs.declared.TokenType.{TokenType}
use Rattle.numbering.specs.declared.TokenType.TheVariants as type
use Rattle.sources.specs.Source.{Source}
use Rattle.names.specs.Names.{type_at}

-- n bytes from span i and none from the others, for span j
unfoldable pub from : ℕ → ℕ → ℕ → ℕ
from i n j = pick (eqb j i) n 0

-- a STRING takes its bytes and the zero byte
unfoldable pub text_takes : Source → ℕ → ℕ
text_takes s p = text_end s.bytes (cursor_of s.cur (span_of p string_stream)) (end_of s.dir (span_of p string_stream)) + 1 - cursor_of s.cur (span_of p string_stream)

-- what the value of each type takes from span j
unfoldable pub value_takes : Source → ℕ → TokenType → ℕ → ℕ
value_takes s p type.String j = from (span_of p string_stream) (text_takes s p) j
value_takes s p type.Char j = from (span_of p char_stream) 1 j
value_takes s p type.Digits j = from (span_of p digits_stream) 4 j
value_takes s p type.Digits0 j = from (span_of p digits0_stream) 4 j + from (span_of p dzlen_stream) 1 j
value_takes s p type.Delta j = from (span_of p ddelta_stream) 1 j
value_takes s p type.Delta0 j = from (span_of p ddelta0_stream) 1 j
value_takes s p type.Match j = 0
value_takes s p type.End j = 0
value_takes s p type.Other j = 0

-- what position p takes: the type, and the value
unfoldable pub position_takes : Source → ℕ → ℕ → ℕ
position_takes s p j = from (span_of p type_stream) 1 j + value_takes s p (type_at s p) j

-- so many positions from p on
unfoldable pub takes_from : Source → ℕ → ℕ → ℕ → ℕ
takes_from s p zero j = 0
takes_from s p (suc n) j = position_takes s p j + takes_from s (p + 1) n j

-- position 0: the type, and the four bytes of the distance from the DUP or the DIFF span
unfoldable pub head_takes : ℕ → ℕ → ℕ
head_takes stream j = from (span_of 0 type_stream) 1 j + from (span_of 0 stream) 4 j
