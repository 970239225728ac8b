use Rattle.lines.proofs.Walks.{Walking}
use Rattle.pages.specs.Page.{page}
use lib.ListN.{length}
use Prim.Native.Nat.{◌-◌}
use mathlib.Core.Path.{◌≡◌}
use Rattle.lines.proofs.put_tokens.Given as goal

abbrev pub invariant-loop-a : goal.invariant-loop-a
invariant-loop-a l = (length l.out ≡ length l.initial.out) × Walking l.before l.name (page l.initial.out l.at) (page l.out l.next) l.p l.a l.b

abbrev pub decreases-loop-a : goal.decreases-loop-a
decreases-loop-a l = length l.name - l.a
