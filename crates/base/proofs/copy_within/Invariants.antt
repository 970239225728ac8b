use mathlib.Core.Path.{◌≡◌}
use lib.Seq.{paste}
use Rattle.base.specs.Memory.{part}
use Rattle.base.proofs.copy_within.Given as goal

abbrev pub invariant-loop-j : goal.invariant-loop-j
invariant-loop-j l = l.buf ≡ paste l.initial.buf l.at (part l.initial.buf l.from l.to) l.j
