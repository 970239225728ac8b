use Prim.Native.Nat.{ℕ, ◌-◌, ◌≤◌}
use mathlib.Core.Path.{◌≡◌}
use lib.ListN.{length}
use Rattle.block.specs.Block.{span_of, cursor_of}
use Rattle.repeating.specs.Repeating.{types_past}
use Rattle.repeating.proofs.move_types.Given as goal

abbrev pub invariant-loop-i : goal.invariant-loop-i
invariant-loop-i l = record {
  numbers : length l.cursors ≡ length l.initial.cursors;
  later : (j : ℕ) → l.i ≤ j → cursor_of l.cursors (span_of j 0) ≡ cursor_of l.initial.cursors (span_of j 0);
  moves : types_past l.cursors l.i (l.i-end - l.i) ≡ types_past l.initial.cursors l.initial.i (l.i-end - l.initial.i);
}
