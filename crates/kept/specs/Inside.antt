-- What a judgement that passed tells: the kept numbers point inside. Each is the judgement of its name, said as inequalities.
use Rattle.std.specs.Prelude.{ℕ, ◌+◌, ◌*◌, ◌≤◌, ◌<◌, true, List, ◌⊎◌, ◌≡◌, length}
use Rattle.digits.specs.Digits.{fits_width}
use Rattle.block.specs.declared.State.{State}
use Rattle.tables.specs.declared.Entry.{Entry}
use Rattle.tables.specs.declared.Row.{Row}
use Rattle.tables.specs.Tables.{Table, Kept, entry_size, row_room, entry_at, row_at}

-- text_counts, of a text buffer and a table of names
pub record TextCounted (s : State) (text names : List ℕ) : Type 0 where
  pub kept : s.names ≤ s.count
  pub limit : s.count ≤ 65536
  pub entries : entry_size * s.names ≤ length names
  pub used : s.text ≤ length text
  pub most : s.text ≤ 255 * s.names

-- row_counts, of a table of rows
pub record RowCounted (s : State) (rows : Table) : Type 0 where
  pub rows_used : s.rows ≤ row_room rows
  pub rows_most : s.rows ≤ 127 * s.names

-- counts
pub record Counted (m : Kept) : Type 0 where
  pub kept : m.state.names ≤ m.state.count
  pub limit : m.state.count ≤ 65536
  pub entries : entry_size * m.state.names ≤ length m.names
  pub used : m.state.text ≤ length m.text
  pub most : m.state.text ≤ 255 * m.state.names
  pub rows_used : m.state.rows ≤ row_room m.rows
  pub rows_most : m.state.rows ≤ 127 * m.state.names

-- entry_text
pub record TextInside (s : State) (e : Entry) : Type 0 where
  pub some : 1 ≤ e.length
  pub most : e.length ≤ 254
  pub ends : e.start + e.length ≤ s.text

-- entryRows
pub record RowsInside (s : State) (e : Entry) : Type 0 where
  pub some : 1 ≤ e.rows
  pub most : e.rows ≤ 127
  pub ends : e.first + e.rows ≤ s.rows

-- rowKind
pub record KindInside (r : Row) : Type 0 where
  pub kinds : (r.kind ≡ 1) ⊎ ((r.kind ≡ 2) ⊎ ((r.kind ≡ 4) ⊎ (r.kind ≡ 7)))
  pub char : r.kind ≡ 2 → r.length ≡ 1
  pub width : r.kind ≡ 4 → r.width ≤ 254
  pub number : r.kind ≡ 4 → fits_width r.number r.width ≡ true

-- row_fits
pub record RowInside (used : ℕ) (r : Row) : Type 0 where
  pub ends : r.start + r.length ≤ used
  pub kind : KindInside r

-- an entry and all its rows
pub record EntryInside (s : State) (table : Table) (e : Entry) : Type 0 where
  pub text : TextInside s e
  pub rows : RowsInside s e
  pub each : (j : ℕ) → e.first ≤ j → j < e.first + e.rows → RowInside s.text (row_at table j)

-- earlier_fits
abbrev pub Earlier : Kept → ℕ → Type 0
Earlier m i = EntryInside m.state m.rows (entry_at m.names i)
