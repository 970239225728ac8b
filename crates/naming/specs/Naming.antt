-- A name read over the rows of an earlier one.
use Rattle.std.specs.Prelude.{ℕ}
use Rattle.base.specs.Lent.{Buffer}
use Rattle.block.specs.declared.Setting.{Setting}
use Rattle.block.specs.declared.State.{State}
use Rattle.block.specs.Streams.{diff_stream}
use Rattle.tables.specs.Tables.{Kept, tables_lent, rows_lent}
use Rattle.sources.specs.Source.{Source, Earlier, earlier, block_lent}
use Rattle.names.specs.Names.{Named, named, refused, name_of}
use Rattle.outcomes.specs.Outcomes.{Outcome, at_name}
use Rattle.outcomes.specs.Keeping.{keep_of}
use Rattle.heads.specs.Heads.{head_past}

-- rule 4
unfoldable pub named_of : Source → Kept → ℕ → Named → Outcome
named_of s m distance (named d) = keep_of s m d m.state.rows d.count distance
named_of s m distance (refused r) = at_name s m r

unfoldable pub diff_of : Source → Kept → ℕ → Earlier → Outcome
diff_of s m distance e = named_of s m distance (name_of s e m.state.text (head_past s.cur diff_stream))

-- the same over what a call is lent
abbrev pub diff_of_lent : Setting → Buffer → Buffer → Buffer → Buffer → Buffer → Buffer → State → ℕ → ℕ → ℕ → Outcome
diff_of_lent set bytes dir cursors text entries rows state distance first count =
    diff_of (block_lent set bytes dir cursors) (tables_lent state text entries rows) distance (earlier text (rows_lent rows) first count)
