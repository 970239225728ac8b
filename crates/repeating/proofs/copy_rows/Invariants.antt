use Prim.Native.Nat.{◌+◌, ◌-◌, ◌<◌}
use mathlib.Core.Path.{◌≡◌}
use lib.ListN.{length}
use Rattle.tables.specs.Tables.{in_rows, row_at, put_rows}
use Rattle.tables.proofs.Rows.{SameRows}
use Rattle.repeating.specs.Repeating.{moved_rows}
use Rattle.repeating.proofs.copy_rows.Given as goal

abbrev pub invariant-loop-i : goal.invariant-loop-i
invariant-loop-i l = record {
  numbers : length l.rows ≡ length l.initial.rows;
  alike : SameRows (in_rows l.rows) (in_rows l.initial.rows) l.to;
  place : l.i < l.to → l.start + (row_at (in_rows l.initial.rows) l.from).start ≡ l.at + (row_at (in_rows l.initial.rows) l.i).start;
  puts : put_rows (in_rows l.rows) (l.row + (l.i - l.from)) (moved_rows (in_rows l.initial.rows) l.i (l.to - l.i) l.start) ≡ put_rows (in_rows l.initial.rows) l.row (moved_rows (in_rows l.initial.rows) l.from (l.to - l.from) l.at);
}
