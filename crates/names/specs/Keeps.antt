-- A name kept: what is written, and where. Keeping asks for a name that was judged, and for room.
use Rattle.std.specs.Prelude.{ℕ, ◌+◌, ◌^◌, ◌≤◌, ◌<◌, List, [], ◌∷◌, ◌++◌, ◌≡◌, length}
use Rattle.base.specs.Memory.{written}
use Rattle.block.specs.Block.{span_of}
use Rattle.numbering.specs.declared.TokenType.{TokenType}
use Rattle.tokens.specs.declared.Token.{Token}
use Rattle.tokens.specs.Tokens.{bytes_of, row_of}
use Rattle.names.specs.Names.{Draft, Named, named}
use Rattle.moving.specs.Moves.{past, value_past}
use Rattle.names.specs.Judge.{draft_of}
use Rattle.base.specs.Lent.{Buffer}
use Rattle.block.specs.Streams.{type_stream}
use Rattle.tables.specs.Tables.{Table, row_room, put_rows, rows_lent, rows_left}

-- the memory that a name is kept in
pub record Memory : Type 0 where
  pub text : List ℕ
  pub rows : Table
  pub cur : List ℕ

abbrev pub memory : List ℕ → Table → List ℕ → Memory
memory t r c = record { text = t; rows = r; cur = c }

-- a token's bytes at a place of the text, its row at a place of the table, the cursors past it
unfoldable pub put_token : List ℕ → Memory → Token → TokenType → ℕ → ℕ → ℕ → ℕ → Memory
put_token bytes m t ty p c at row = memory
    (written m.text at (bytes_of bytes m.text t))
    (put_rows m.rows row (row_of t at ∷ []))
    (value_past ty p c (past m.cur (span_of p type_stream) 1))

-- a name followed by byte 10, its rows, and the cursors past it
unfoldable pub put_name : ℕ → ℕ → List ℕ → Table → Draft → Memory
put_name used row text rows d = memory (written text used (d.text ++ (10 ∷ []))) (put_rows rows row d.rows) d.cur

-- a name, and room for it behind the rows that it leans on
pub record Roomy (n : Named) (below used row : ℕ) (text : List ℕ) (rows : Table) : Type 0 where
  pub whole : n ≡ named (draft_of n)
  pub bytes : used + length (draft_of n).text + 1 ≤ length text
  pub table : row + (draft_of n).count ≤ row_room rows
  pub behind : below ≤ row
  pub near : used < 2 ^ 31
  pub few : row < 2 ^ 31

-- the memory that a call is lent, and the memory that it leaves
abbrev pub memory_lent : Buffer → Buffer → Buffer → Memory
memory_lent text rows cursors = memory text (rows_lent rows) cursors

abbrev pub memory_left : Buffer → Buffer → Buffer → Memory
memory_left text rows cursors = memory text (rows_left rows) cursors
