use Rattle.std.proofs.Common.{◌≡◌, ◌+◌}
use lib.ListN.{drop}
use lib.Seq.{paste}
use Rattle.model.specs.Model.{halves, sum}
use Rattle.model.proofs.halve.Given as goal

abbrev pub invariant-loop-frequency : goal.invariant-loop-frequency
invariant-loop-frequency l = record {
  halved : l.frequencies ≡ paste l.initial.frequencies 0 (halves l.initial.frequencies) l.frequency-index;
  summed : l.total + sum (halves (drop l.frequency-index l.initial.frequencies)) ≡ sum (halves l.initial.frequencies);
}
