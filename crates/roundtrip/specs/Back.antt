-- What it means that names were read back.
use Rattle.std.specs.Prelude.{ℕ, zero, suc, ◌+◌, ◌*◌, ◌≤◌, ◌<◌, ◌≡◌, List, [], ◌∷◌, length, get_or, Some, None, Ok}
use Rattle.base.specs.Memory.{part}
use Rattle.tables.specs.declared.Row.{Row}
use Rattle.tables.specs.Tables.{Table, entry_size, Kept, entry_at, row_room, row_at}
use Rattle.sources.specs.Source.{source}
use Rattle.outcomes.specs.Outcomes.{Outcome}
use Rattle.reads.specs.Reads.{read_of}
use Rattle.inputs.specs.Inputs.{names_of}
use Rattle.roundtrip.specs.Rows.{split_rows, tokens_in}
use Rattle.roundtrip.specs.Room.{listed, text_wanted, rows_wanted}
use Rattle.numbering.specs.Types.{Rules}

-- there is room for names: their text with the byte 10 of each, an entry a name, and a row for each that they add
pub record Roomy (names : List (List ℕ)) (m : Kept) : Type 0 where
  pub text : text_wanted names ≤ length m.text
  pub entries : entry_size * length names ≤ length m.names
  pub rows : rows_wanted names ≤ row_room m.rows

-- kept name i is s: its entry's text is s, no more and no less
pub record NameIs (m : Kept) (i : ℕ) (s : List ℕ) : Type 0 where
  pub size : (entry_at m.names i).length ≡ length s
  pub text : part m.text (entry_at m.names i).start ((entry_at m.names i).start + (entry_at m.names i).length) ≡ s

-- n rows of a table, from row i on
unfoldable pub rows_at : Table → ℕ → ℕ → List Row
rows_at t i zero = []
rows_at t i (suc n) = row_at t i ∷ rows_at t (i + 1) n

-- kept name i's rows are those of s's own split, their texts in a text that is s: its own, or for a DUP that of the name it repeats
pub record RowsAre (m : Kept) (i : ℕ) (s : List ℕ) : Type 0 where
  pub many : (entry_at m.names i).rows ≡ tokens_in s
  pub origin : ℕ
  pub text : part m.text origin (origin + length s) ≡ s
  pub inside : (entry_at m.names i).first + (entry_at m.names i).rows ≤ row_room m.rows
  pub rows : rows_at m.rows (entry_at m.names i).first (entry_at m.names i).rows ≡ split_rows s origin

-- a whole-block read that is done, has kept these names in order and no others; its used text is all of them, each with its byte 10
pub record Back (names : List (List ℕ)) (o : Outcome) : Type 0 where
  pub answer : o.answer ≡ Ok None
  pub count : o.kept.state.names ≡ length names
  pub each : (i : ℕ) → i < length names → NameIs o.kept i (get_or names i [])
  pub tokens : (i : ℕ) → i < length names → RowsAre o.kept i (get_or names i [])
  pub text : part o.kept.text 0 o.kept.state.text ≡ listed names
  pub used : o.kept.state.text ≡ text_wanted names
  pub rows : o.kept.state.rows ≡ rows_wanted names

-- an input whose names were read back; the used text is the input
pub record InputBack (input : List ℕ) (o : Outcome) : Type 0 where
  pub names : Back (names_of input) o
  pub text : part o.kept.text 0 o.kept.state.text ≡ input
  pub used : o.kept.state.text ≡ length input

-- n reads, one after another
unfoldable pub read_times : Rules → List ℕ → List ℕ → ℕ → Outcome → Outcome
read_times rules bytes dir zero o = o
read_times rules bytes dir (suc n) o = read_times rules bytes dir n (read_of (source rules bytes dir o.cur) o.kept)

-- names read one a call: read i, from 0 on, answers i and keeps name i, and one more read is done, with all of them kept and no others
pub record OneByOne (rules : Rules) (names : List (List ℕ)) (bytes dir : List ℕ) (o : Outcome) : Type 0 where
  pub answers : (i : ℕ) → i < length names → (read_times rules bytes dir (i + 1) o).answer ≡ Ok (Some i)
  pub keeps : (i : ℕ) → i < length names → NameIs (read_times rules bytes dir (i + 1) o).kept i (get_or names i [])
  pub done : (read_times rules bytes dir (length names + 1) o).answer ≡ Ok None
  pub count : (read_times rules bytes dir (length names + 1) o).kept.state.names ≡ length names
