use mathlib.Core.Path.{◌≡◌}
use lib.Seq.{paste}
use Rattle.base.proofs.put_all.Given as goal

abbrev pub invariant-loop-j : goal.invariant-loop-j
invariant-loop-j l = l.buf ≡ paste l.initial.buf l.at l.text l.j
