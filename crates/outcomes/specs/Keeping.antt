-- A name kept, with room for it: its text, its entry, its rows and the state after it.
use Rattle.std.specs.Prelude.{ℕ, ◌*◌, Bool, [], ◌∷◌, ◌++◌, length, Some, Ok}
use Rattle.refusals.specs.declared.Reason.TheVariants as reason
use Rattle.base.specs.Choice.{pick}
use Rattle.base.specs.Memory.{written}
use Rattle.tables.specs.Tables.{Kept, keeping, entry_size, put_rows}
use Rattle.sources.specs.Source.{Source}
use Rattle.names.specs.Names.{Draft}
use Rattle.entries.specs.Entries.{room_of, state_after, entry_of}
use Rattle.outcomes.specs.Outcomes.{Outcome, outcome, at_name}

-- 9: room for the name
unfoldable pub room_for : Kept → Draft → Bool
room_for m d = room_of m (length d.text) d.count

-- a read that keeps a name answers its number and writes only its text and byte 10, its entry, its rows, the state and the cursors it moved
unfoldable pub kept : Kept → Draft → ℕ → ℕ → ℕ → Outcome
kept m d first rows distance = outcome
    (Ok (Some m.state.names))
    d.cur
    (keeping
    (state_after m.state (length d.text) d.count)
    (written m.text m.state.text (d.text ++ (10 ∷ [])))
    (written m.names (entry_size * m.state.names) (entry_of m.state (length d.text) first rows distance))
    (put_rows m.rows m.state.rows d.rows))

-- 9 last
unfoldable pub keep_of : Source → Kept → Draft → ℕ → ℕ → ℕ → Outcome
keep_of s m d first rows distance = pick (room_for m d) (kept m d first rows distance) (at_name s m reason.NoRoom)
