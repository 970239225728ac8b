use mathlib.Core.Path.{◌≡◌}
use lib.Seq.{paste}
use Rattle.block.specs.Block.{starts}
use Rattle.block.proofs.set_starts.Given as goal

abbrev pub invariant-loop-i : goal.invariant-loop-i
invariant-loop-i l = l.cursors ≡ paste l.initial.cursors 0 (starts l.dir) l.i
