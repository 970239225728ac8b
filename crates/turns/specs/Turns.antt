-- One turn of the walk over a name's positions, which is taken twice: the name is judged, and then kept.
use Rattle.std.specs.Prelude.{ℕ, ◌+◌, ◌-◌, ◌≤◌, ◌<◌, Bool, List, length, Some, None, Ok, Err}
use Rattle.values.specs.Values.{Step}
use Rattle.base.specs.Lent.{Buffer}
use Rattle.block.specs.declared.Setting.{Setting}
use Rattle.tables.specs.Tables.{Table, in_rows, row_room}
use Rattle.numbering.specs.declared.TokenType.{TokenType}
use Rattle.numbering.specs.Types.{rules_of}
use Rattle.tokens.specs.Tokens.{length_of}
use Rattle.sources.specs.Source.{source, earlier, block_lent}
use Rattle.steps.specs.Steps.{step_at}
use Rattle.names.specs.Names.{type_at}
use Rattle.names.specs.Keeps.{Memory, memory_lent}
use Rattle.taking.specs.declared.Place.{Place}
use Rattle.taking.specs.Taking.{take_put}

-- what stands at a place of the block, over the earlier name's rows
abbrev pub step_lent : Setting → Buffer → Buffer → Buffer → Buffer → Buffer → ℕ → ℕ → Place → Step
step_lent set bytes dir cursors text rows first count at =
    step_at (source (rules_of set) bytes dir cursors) (earlier text (in_rows rows) first count) at.p.0

-- what a turn puts down
unfoldable pub turn_put : Bool → List ℕ → Step → TokenType → Place → Memory → Memory
turn_put keeping bytes (Ok (Some (t, c))) ty at m = take_put keeping bytes t ty c at m
turn_put keeping bytes (Ok None) ty at m = m
turn_put keeping bytes (Err r) ty at m = m

abbrev pub turn_put_lent : Setting → Bool → Buffer → Buffer → Buffer → Buffer → Buffer → ℕ → ℕ → Place → Memory
turn_put_lent set keeping bytes dir cursors text rows first count at =
    turn_put keeping bytes (step_lent set bytes dir cursors text rows first count at) (type_at (block_lent set bytes dir cursors) at.p.0) at (memory_lent text rows cursors)

-- room for a token and its row
abbrev pub RoomAt : Step → Place → List ℕ → Table → Type 0
RoomAt (Ok (Some (t, c))) at text rows = (at.used + at.len + length_of t ≤ length text) × (at.row + (at.p.0 - 1) < row_room rows)
RoomAt (Ok None) at text rows = Unit
RoomAt (Err r) at text rows = Unit
