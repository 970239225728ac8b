use Rattle.std.proofs.Common.{◌≡◌, length}
use lib.Seq.{paste}
use Rattle.base.specs.Every.{numbers}
use Rattle.model.proofs.start.Given as goal

abbrev pub invariant-loop-at : goal.invariant-loop-at
invariant-loop-at l = l.symbols ≡ paste l.initial.symbols 0 (numbers 0 (length l.initial.symbols)) l.at
