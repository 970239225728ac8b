-- What a step may go by: the earlier name's rows stand in the table and point inside, as the judgement of them found.
use Rattle.std.specs.Prelude.{ℕ, ◌+◌, ◌-◌, ◌^◌, ◌≤◌, ◌<◌, min, List, length}
use Rattle.tables.specs.Tables.{row_room, row_at}
use Rattle.kept.specs.Inside.{RowInside}
use Rattle.sources.specs.Source.{Earlier}

-- the rows' texts end at or below `used`, which is inside the kept text
pub record Rows (used : ℕ) (e : Earlier) : Type 0 where
  pub table : e.first + e.count ≤ row_room e.rows
  pub most : e.count ≤ 127
  pub room : used ≤ length e.text
  pub each : (j : ℕ) → e.first ≤ j → j < e.first + e.count → RowInside used (row_at e.rows j)

-- as far as a number of 32 bits reaches into a text
abbrev pub reach : List ℕ → ℕ
reach text = min (length text) (2 ^ 32 - 1)
