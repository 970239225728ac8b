-- A name that is a copy of an earlier one.
use Rattle.std.specs.Prelude.{ℕ, ◌+◌, []}
use Rattle.base.specs.Memory.{part}
use Rattle.base.specs.Lent.{Buffer}
use Rattle.block.specs.Streams.{dup_stream}
use Rattle.tables.specs.declared.Entry.{Entry}
use Rattle.tables.specs.Tables.{Kept, keeping, rows_lent}
use Rattle.sources.specs.Source.{Source}
use Rattle.names.specs.Names.{draft}
use Rattle.entries.specs.declared.Reading.{Reading}
use Rattle.outcomes.specs.Outcomes.{Outcome, outcome}
use Rattle.outcomes.specs.Keeping.{keep_of}
use Rattle.heads.specs.Heads.{head_past}

-- rule 3: the name, its first row and its row count are the earlier name's; the text is copied, no rows are added
unfoldable pub dup_of : Source → Kept → ℕ → Entry → Outcome
dup_of s m distance e =
    keep_of s m (draft (part m.text e.start (e.start + e.length)) [] 0 (head_past s.cur dup_stream)) e.first e.rows distance

-- what a read leaves that is lent the rows to look at only
abbrev pub leaves_rows : Reading → Buffer → Buffer → Buffer → Buffer → Outcome
leaves_rows r cursors text names rows = outcome r.answer cursors (keeping r.state text names (rows_lent rows))
