use Prim.Native.Nat.{◌-◌}
use mathlib.Core.Path.{◌≡◌}
use lib.ListN.{length}
use Rattle.numbering.specs.Types.{rules_of}
use Rattle.laying.specs.Passes.{world}
use Rattle.tokenputs.proofs.Walks.{Walking}
use Rattle.tokenputs.proofs.put_tokens.Given as goal

abbrev pub invariant-loop-a : goal.invariant-loop-a
invariant-loop-a l = (length l.directory ≡ length l.initial.directory) × ((length l.bytes ≡ length l.initial.bytes) × Walking (rules_of l.set) l.pass l.before l.name (world l.total l.initial.directory l.initial.bytes) (world l.sum l.directory l.bytes) l.p l.a l.b)

abbrev pub decreases-loop-a : goal.decreases-loop-a
decreases-loop-a l = length l.name - l.a
