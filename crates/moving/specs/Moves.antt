-- Cursors past what was read, and what moving them asks for.
use Rattle.std.specs.Prelude.{ℕ, ◌+◌, ◌^◌, ◌<◌, List, set, ◌≡◌}
use Rattle.block.specs.Block.{span_of, cursor_of}
use Rattle.block.specs.Streams.{string_stream, char_stream, digits0_stream, dzlen_stream, digits_stream, ddelta_stream, ddelta0_stream}
use Rattle.numbering.specs.declared.TokenType.{TokenType}
use Rattle.numbering.specs.declared.TokenType.TheVariants as type

-- a cursor moved so many bytes on
unfoldable pub past : List ℕ → ℕ → ℕ → List ℕ
past cur span n = set cur span (cursor_of cur span + n)

-- the cursor of the span that a value was read from, moved to where the step says; a DZLEN is one byte
unfoldable pub value_past : TokenType → ℕ → ℕ → List ℕ → List ℕ
value_past type.String p c cur = set cur (span_of p string_stream) c
value_past type.Char p c cur = set cur (span_of p char_stream) c
value_past type.Digits p c cur = set cur (span_of p digits_stream) c
value_past type.Digits0 p c cur = past (set cur (span_of p digits0_stream) c) (span_of p dzlen_stream) 1
value_past type.Delta p c cur = set cur (span_of p ddelta_stream) c
value_past type.Delta0 p c cur = set cur (span_of p ddelta0_stream) c
value_past type.Match p c cur = cur
value_past type.End p c cur = cur
value_past type.Other p c cur = cur

-- a DZLEN is one byte on, and a cursor has 32 bits
abbrev pub Movable : TokenType → ℕ → List ℕ → Type 0
Movable t p cur = t ≡ type.Digits0 → cursor_of cur (span_of p dzlen_stream) + 1 < 2 ^ 32
