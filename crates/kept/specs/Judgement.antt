-- "13 in full": kept numbers that point outside.
use Rattle.std.specs.Prelude.{ℕ, ◌+◌, ◌*◌, Bool, true, leb, eqb, length}
use Rattle.base.specs.Choice.{pick, both}
use Rattle.base.specs.Every.{each}
use Rattle.digits.specs.Digits.{fits_width}
use Rattle.block.specs.declared.State.{State}
use Rattle.tables.specs.declared.Entry.{Entry}
use Rattle.tables.specs.declared.Row.{Row}
use Rattle.tables.specs.Tables.{Table, Kept, entry_size, room, row_room, entry_at, row_at}

-- k above the count or the entries of its table, the count above 65,536,
-- text used above its buffer or above 255 times k: the counts that a claim is judged by too
unfoldable pub text_counts : State → ℕ → ℕ → Bool
text_counts s text entries =
    both (leb s.names s.count)
    (both (leb s.names entries)
    (both (leb s.count 65536)
    (both (leb s.text text)
    (leb s.text (255 * s.names)))))

-- rows used above its table or above 127 times k
unfoldable pub row_counts : State → ℕ → Bool
row_counts s rows = both (leb s.rows rows) (leb s.rows (127 * s.names))

unfoldable pub counts : Kept → Bool
counts m = both (text_counts m.state (length m.text) (room entry_size m.names)) (row_counts m.state (row_room m.rows))

-- in an entry, a text of 0 or more than 254 bytes, text beyond the used part
unfoldable pub entry_text : State → Entry → Bool
entry_text s e = both (leb 1 e.length) (both (leb e.length 254) (leb (e.start + e.length) s.text))

-- 0 or more than 127 rows, rows beyond the used part
unfoldable pub entry_rows : State → Entry → Bool
entry_rows s e = both (leb 1 e.rows) (both (leb e.rows 127) (leb (e.first + e.rows) s.rows))

-- by kind: another kind, a CHAR text that isn't one byte, a DIGITS0 width of 0 or above 254 or a number that doesn't fit it
unfoldable pub row_kind : Row → Bool
row_kind r =
    pick (eqb r.kind 1) true
    (pick (eqb r.kind 2) (eqb r.length 1)
    (pick (eqb r.kind 4) (both (leb r.width 254) (fits_width r.number r.width))
    (eqb r.kind 7)))

-- for every kind a text beyond the used part
unfoldable pub row_fits : ℕ → Row → Bool
row_fits used r = both (leb (r.start + r.length) used) (row_kind r)

-- so many rows from one on
unfoldable pub rows_fit : ℕ → Table → ℕ → ℕ → Bool
rows_fit used rows first many = each (λ (i : ℕ). row_fits used (row_at rows i)) first many

-- an earlier name's entry and all its rows
unfoldable pub earlier_fits : Kept → ℕ → Bool
earlier_fits m i =
    both (entry_text m.state (entry_at m.names i))
    (both (entry_rows m.state (entry_at m.names i))
    (rows_fit m.state.text m.rows (entry_at m.names i).first (entry_at m.names i).rows))
