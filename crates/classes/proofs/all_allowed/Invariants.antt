use mathlib.Core.Path.{◌≡◌}
use lib.ListN.{length}
use Rattle.base.specs.Memory.{part}
use Rattle.classes.specs.Classes.{all_allowed}
use Rattle.classes.proofs.all_allowed.Given as goal

abbrev pub invariant-loop-b : goal.invariant-loop-b
invariant-loop-b l = all_allowed (part l.bytes l.b-index (length l.bytes)) ≡ all_allowed l.bytes
