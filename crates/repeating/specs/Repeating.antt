-- What repeating a run of MATCHes puts down: rows once more, and the cursors past its types.
use Rattle.std.specs.Prelude.{ℕ, zero, suc, ◌+◌, ◌-◌, List, [], ◌∷◌}
use Rattle.base.specs.Memory.{written, part}
use Rattle.block.specs.Block.{span_of}
use Rattle.block.specs.Streams.{type_stream}
use Rattle.tables.specs.declared.Row.{Row}
use Rattle.tables.specs.Tables.{Table, row_at, put_rows}
use Rattle.moving.specs.Moves.{past}
use Rattle.names.specs.Keeps.{Memory, memory}
use Rattle.runs.specs.Runs.{text_start}

-- a row whose text stands at another place
abbrev pub moved_row : Row → ℕ → Row
moved_row r at = record { kind = r.kind; number = r.number; width = r.width; start = at; length = r.length }

-- n rows from row i on, with their texts at a place, one behind the other
unfoldable pub moved_rows : Table → ℕ → ℕ → ℕ → List Row
moved_rows rows i zero at = []
moved_rows rows i (suc n) at =
    moved_row (row_at rows i) at ∷ moved_rows rows (i + 1) n (at + (row_at rows i).length)

-- the cursors past the types of n positions from p on
unfoldable pub types_past : List ℕ → ℕ → ℕ → List ℕ
types_past cur p zero = cur
types_past cur p (suc n) = types_past (past cur (span_of p type_stream) 1) (p + 1) n

-- a run from position p up to q, of w bytes, repeated: its text at a place, its rows from row `row` on as the positions count them, and the cursors past its types
abbrev pub repeat_put : ℕ → ℕ → ℕ → ℕ → ℕ → ℕ → Memory → Memory
repeat_put first p q w at row m = memory
    (written m.text at (part m.text (text_start m.rows (first + (p - 1))) (text_start m.rows (first + (p - 1)) + w)))
    (put_rows m.rows (row + (p - 1)) (moved_rows m.rows (first + (p - 1)) (q - p) at))
    (types_past m.cur p (q - p))
