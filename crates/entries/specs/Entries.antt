-- Room for a name, its entry, and the state after it.
use Rattle.std.specs.Prelude.{ℕ, ◌+◌, Bool, List, leb, length, Result, Option, Some, Ok}
use Rattle.refusals.specs.declared.Refusal.{Refusal}
use Rattle.base.specs.Choice.{both}
use Rattle.block.specs.declared.State.{State}
use Rattle.block.specs.Block.{state}
use Rattle.tables.specs.Tables.{Kept, entry_size, room, row_room, entry_numbers}
use Rattle.entries.specs.declared.Reading.{Reading}

-- the answer of a read: the number of the name that it keeps, none at the end of the block, or its refusal
abbrev pub Answer : Type 0
Answer = Result (Option ℕ) Refusal

-- 9: room for a text of so many bytes with its byte 10, the name's numbers and so many rows
abbrev pub room_of : Kept → ℕ → ℕ → Bool
room_of m bytes added =
    both (leb (m.state.text + bytes + 1) (length m.text))
    (both (leb (m.state.names + 1) (room entry_size m.names))
    (leb (m.state.rows + added) (row_room m.rows)))

-- the answer of a read with the state after it
abbrev pub reading : Answer → State → Reading
reading a s = record { answer = a; state = s }

-- the state with one name more
abbrev pub state_after : State → ℕ → ℕ → State
state_after s bytes added = state s.count (s.names + 1) (s.text + bytes + 1) (s.rows + added)

unfoldable pub keeping_name : State → ℕ → ℕ → Reading
keeping_name s bytes added = reading (Ok (Some s.names)) (state_after s bytes added)

-- the numbers of a name's entry
abbrev pub entry_of : State → ℕ → ℕ → ℕ → ℕ → List ℕ
entry_of s bytes first rows distance = entry_numbers (record { start = s.text; length = bytes; first = first; rows = rows; distance = distance })
