use mathlib.Core.Path.{◌≡◌}
use lib.Seq.{paste}
use Rattle.base.proofs.put_five.Given as goal

abbrev pub invariant-loop-i : goal.invariant-loop-i
invariant-loop-i l = l.table ≡ paste l.initial.table l.at l.numbers l.i
