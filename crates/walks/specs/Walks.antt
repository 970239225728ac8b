-- A walk over what it is lent: the name that it comes to, and what it puts down.
use Rattle.std.specs.Prelude.{ℕ, Bool}
use Rattle.base.specs.Choice.{pick}
use Rattle.base.specs.Lent.{Buffer}
use Rattle.block.specs.declared.Setting.{Setting}
use Rattle.numbering.specs.Types.{rules_of}
use Rattle.tables.specs.Tables.{in_rows}
use Rattle.sources.specs.Source.{source, earlier}
use Rattle.names.specs.Names.{Named, name_of}
use Rattle.names.specs.Judge.{draft_of}
use Rattle.names.specs.Keeps.{Memory, put_name}

-- the name in the block from its cursors on, over the earlier name's rows
abbrev pub name_lent : Setting → Buffer → Buffer → Buffer → Buffer → Buffer → ℕ → ℕ → ℕ → Named
name_lent set bytes dir cursors text rows first count used =
    name_of (source (rules_of set) bytes dir cursors) (earlier text (in_rows rows) first count) used cursors

-- all of it where the name is being kept, and nothing where it is judged
abbrev pub walk_put : Bool → ℕ → ℕ → Named → Memory → Memory
walk_put keeping used row n m = pick keeping (put_name used row m.text m.rows (draft_of n)) m
