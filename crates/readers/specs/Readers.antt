-- What the reader of one span gives: what stands at the first of the bytes left to it. Cursors count from that byte.
use Rattle.std.specs.Prelude.{ℕ, List, length, leb}
use Rattle.spans.specs.Spans.{Next}
use Rattle.spans.specs.declared.Bytes.{Bytes}
use Rattle.std.specs.Prelude.{Option}
use Rattle.base.specs.Choice.{pick}
use Rattle.spans.specs.Spans.{byte_at, four_at, text_at}

-- as far as a cursor counts: all of them, where a cursor can
unfoldable pub left_end : List ℕ → ℕ
left_end left = pick (leb (length left) 4294967295) (length left) 4294967295

-- the next byte of those left
unfoldable pub byte_of : List ℕ → Next
byte_of left = byte_at left 0 (left_end left)

-- the next four as a number
unfoldable pub four_of : List ℕ → Next
four_of left = four_at left 0 (left_end left)

-- the text up to a zero byte
unfoldable pub text_of : List ℕ → Option Bytes
text_of left = text_at left 0 (left_end left)
