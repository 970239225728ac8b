-- The kept tables: so many numbers per name and per row, and the text buffer; the state says how much of each is used.
use Rattle.std.specs.Prelude.{ℕ, ◌+◌, ◌*◌, ◌/◌, List, [], ◌∷◌, ◌++◌, length, get_or, drop}
use Rattle.block.specs.declared.State.{State}
use Rattle.tables.specs.declared.Entry.{Entry}
use Rattle.tables.specs.declared.Row.{Row}
use Rattle.base.specs.Lent.{Buffer}
use Rattle.base.specs.Memory.{written}

-- the table of rows, as memory lays it out: rows one behind the other, each its numbers. All above this crate looks rows up by their number
-- and puts them by their number, through the laws of proofs/Rows; only code that reads and puts one knows the layout
pub data Table : Type 0 where
  in_rows : List ℕ → Table

-- what is kept of the names read so far
pub record Kept : Type 0 where
  pub state : State
  pub text : List ℕ
  pub names : List ℕ
  pub rows : Table

abbrev pub keeping : State → List ℕ → List ℕ → Table → Kept
keeping s t n r = record { state = s; text = t; names = n; rows = r }

-- five numbers per name, and five per row
abbrev pub entry_size : ℕ
entry_size = 5

abbrev pub row_size : ℕ
row_size = 5

-- how many of a size a table has room for: a trailing part too short for one is unused
unfoldable pub room : ℕ → List ℕ → ℕ
room size table = length table / size

-- text start, text length, first row, number of rows, distance
unfoldable pub entry_at : List ℕ → ℕ → Entry
entry_at names i = record {
  start = get_or names (entry_size * i) 0;
  length = get_or names (entry_size * i + 1) 0;
  first = get_or names (entry_size * i + 2) 0;
  rows = get_or names (entry_size * i + 3) 0;
  distance = get_or names (entry_size * i + 4) 0;
}

-- the numbers of an entry and of a row as a table has them
abbrev pub entry_numbers : Entry → List ℕ
entry_numbers e = e.start ∷ e.length ∷ e.first ∷ e.rows ∷ e.distance ∷ []

abbrev pub row_numbers : Row → List ℕ
row_numbers r = r.kind ∷ r.number ∷ r.width ∷ r.start ∷ r.length ∷ []

-- rows one behind the other
unfoldable pub all_numbers : List Row → List ℕ
all_numbers [] = []
all_numbers (r ∷ rs) = row_numbers r ++ all_numbers rs

-- how many rows a table has room for
unfoldable pub row_room : Table → ℕ
row_room (in_rows l) = room row_size l

-- the row of a number: kind, number, width, text start, text length
unfoldable pub row_at : Table → ℕ → Row
row_at (in_rows l) i = record {
  kind = get_or l (row_size * i) 0;
  number = get_or l (row_size * i + 1) 0;
  width = get_or l (row_size * i + 2) 0;
  start = get_or l (row_size * i + 3) 0;
  length = get_or l (row_size * i + 4) 0;
}

-- rows put from row i on, in the place of those that stood there
unfoldable pub put_rows : Table → ℕ → List Row → Table
put_rows (in_rows l) i rs = in_rows (written l (row_size * i) (all_numbers rs))

-- what lies behind the last row that there is room for, too short for one
unfoldable pub unused_part : Table → List ℕ
unused_part (in_rows l) = drop (row_size * room row_size l) l

-- the table of rows that a call is lent, and the one that it leaves
abbrev pub rows_lent : Buffer → Table
rows_lent rows = in_rows rows

abbrev pub rows_left : Buffer → Table
rows_left rows = in_rows rows

-- the tables that a call is lent
abbrev pub tables_lent : State → Buffer → Buffer → Buffer → Kept
tables_lent s text names rows = keeping s text names (rows_lent rows)
