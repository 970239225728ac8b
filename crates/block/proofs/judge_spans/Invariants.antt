use Prim.Native.Nat.{◌-◌}
use mathlib.Core.Path.{◌≡◌}
use Rattle.base.specs.Choice.{both}
use Rattle.base.specs.Every.{each}
use Rattle.block.proofs.Laws.{fine, all_fine}
use Rattle.block.proofs.judge_spans.Given as goal

abbrev pub invariant-loop-i : goal.invariant-loop-i
invariant-loop-i l = both l.fine (each (fine l.n l.dir l.cursors) l.i (1290 - l.i)) ≡ all_fine l.n l.dir l.cursors
