use Rattle.lines.proofs.Walks.{Naming}
use Rattle.pages.specs.Page.{page}
use lib.ListN.{length}
use Prim.Native.Nat.{◌-◌}
use mathlib.Core.Path.{◌≡◌}
use Rattle.lines.proofs.put_lines.Given as goal

abbrev pub invariant-loop-start : goal.invariant-loop-start
invariant-loop-start l = (length l.out ≡ length l.initial.out) × Naming l.input (page l.initial.out 0) (page l.out l.at) l.n l.before l.start

abbrev pub decreases-loop-start : goal.decreases-loop-start
decreases-loop-start l = length l.input - l.start
