-- What an exported read and an exported whole block leave: the number, the cursors, the buffers and the state.
-- Of its buffers a call has the rows as numbers, and the definitions have them as a table: `.._lent` and `.._left` lie between the two.
use Rattle.std.specs.Prelude.{ℕ, List}
use Rattle.base.specs.Lent.{Buffer}
use Rattle.numbering.specs.Types.{Rules}
use Rattle.tables.specs.Tables.{keeping, Table, rows_lent, rows_left}
use Rattle.sources.specs.Source.{source}
use Rattle.outcomes.specs.Outcomes.{Outcome}
use Rattle.reads.specs.Reads.{read_of}
use Rattle.reading.specs.Blocks.{block_of}
use Rattle.codes.specs.Codes.{state_in, state_out}
use Rattle.answers.specs.Answers.{read_number}

pub record Reads : Type 0 where
  pub number : ℕ
  pub cursors : List ℕ
  pub text : List ℕ
  pub names : List ℕ
  pub rows : Table
  pub state : List ℕ

abbrev pub reads : ℕ → List ℕ → List ℕ → List ℕ → Table → List ℕ → Reads
reads n c t e r s = record { number = n; cursors = c; text = t; names = e; rows = r; state = s }

abbrev pub reads_left : ℕ → Buffer → Buffer → Buffer → Buffer → Buffer → Reads
reads_left n cursors text names rows state = reads n cursors text names (rows_left rows) state

unfoldable pub reads_of : Outcome → Reads
reads_of o = reads
    (read_number o.kept.state.names o.answer)
    o.cur
    o.kept.text
    o.kept.names
    o.kept.rows
    (state_out o.kept.state)

unfoldable pub read_call : Rules → List ℕ → List ℕ → List ℕ → List ℕ → List ℕ → Table → List ℕ → Reads
read_call rules bytes dir cursors text names rows state = reads_of (read_of (source rules bytes dir cursors) (keeping (state_in state) text names rows))

abbrev pub read_call_lent : Rules → Buffer → Buffer → Buffer → Buffer → Buffer → Buffer → Buffer → Reads
read_call_lent rules bytes dir cursors text names rows state =
    read_call rules bytes dir cursors text names (rows_lent rows) state

unfoldable pub block_call : Rules → List ℕ → List ℕ → ℕ → List ℕ → List ℕ → List ℕ → Table → List ℕ → Reads
block_call rules bytes dir count cursors text names rows state = reads_of (block_of (source rules bytes dir cursors) (keeping (state_in state) text names rows) count)

abbrev pub block_call_lent : Rules → Buffer → Buffer → ℕ → Buffer → Buffer → Buffer → Buffer → Buffer → Reads
block_call_lent rules bytes dir count cursors text names rows state =
    block_call rules bytes dir count cursors text names (rows_lent rows) state
