use Prim.Native.Nat.{◌-◌}
use lib.ListN.{length}
use Rattle.inputs.proofs.Laws.{InName}
use Rattle.inputs.proofs.name_end.Given as goal

abbrev pub invariant-loop-i : goal.invariant-loop-i
invariant-loop-i l = InName l.input l.at l.i

abbrev pub decreases-loop-i : goal.decreases-loop-i
decreases-loop-i l = length l.input - l.i
