use mathlib.Core.Path.{◌≡◌}
use lib.ListN.{drop}
use Rattle.base.specs.Choice.{both}
use Rattle.comparing.specs.Same.{same}
use Rattle.comparing.proofs.same.Given as goal

abbrev pub invariant-loop-i : goal.invariant-loop-i
invariant-loop-i l = both l.equal (same (drop l.i l.a) (drop l.i l.b)) ≡ same l.a l.b
