use Prim.Native.Nat.{◌-◌}
use mathlib.Core.Path.{◌≡◌}
use Rattle.base.specs.Choice.{both}
use Rattle.block.specs.Block.{at_end_from}
use Rattle.block.proofs.at_end.Given as goal

abbrev pub invariant-loop-i : goal.invariant-loop-i
invariant-loop-i l = both l.ok (at_end_from l.dir l.cursors l.i (1290 - l.i)) ≡ at_end_from l.dir l.cursors 0 1290
