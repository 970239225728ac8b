-- What a step looks at: the rules that the block is read by, its bytes, its directory and the cursors, and the rows of the earlier name.
use Rattle.std.specs.Prelude.{ℕ, List}
use Rattle.spans.specs.Spans.{Next}
use Rattle.spans.specs.declared.Bytes.{Bytes}
use Rattle.std.specs.Prelude.{Option}
use Rattle.spans.specs.Spans.{byte_at, four_at, text_at}
use Rattle.block.specs.Block.{span_of, end_of, cursor_of}
use Rattle.block.specs.declared.Setting.{Setting}
use Rattle.numbering.specs.Types.{Rules, rules_of}
use Rattle.base.specs.Lent.{Buffer}
use Rattle.tables.specs.Tables.{Table}

pub record Source : Type 0 where
  pub rules : Rules
  pub bytes : List ℕ
  pub dir : List ℕ
  pub cur : List ℕ

abbrev pub source : Rules → List ℕ → List ℕ → List ℕ → Source
source r b d c = record { rules = r; bytes = b; dir = d; cur = c }

-- what the span of position p and stream i gives next
unfoldable pub byte_in : Source → ℕ → ℕ → Next
byte_in s p i = byte_at s.bytes (cursor_of s.cur (span_of p i)) (end_of s.dir (span_of p i))

unfoldable pub four_in : Source → ℕ → ℕ → Next
four_in s p i = four_at s.bytes (cursor_of s.cur (span_of p i)) (end_of s.dir (span_of p i))

unfoldable pub text_in : Source → ℕ → ℕ → Option Bytes
text_in s p i = text_at s.bytes (cursor_of s.cur (span_of p i)) (end_of s.dir (span_of p i))

-- the earlier name: the kept text and row table, its first row and number of rows (0 where there is no earlier name)
pub record Earlier : Type 0 where
  pub text : List ℕ
  pub rows : Table
  pub first : ℕ
  pub count : ℕ

abbrev pub earlier : List ℕ → Table → ℕ → ℕ → Earlier
earlier t r f n = record { text = t; rows = r; first = f; count = n }

-- the block that a call is lent
abbrev pub block_lent : Setting → Buffer → Buffer → Buffer → Source
block_lent set bytes dir cursors = source (rules_of set) bytes dir cursors
