use Prim.Native.Nat.{◌-◌}
use mathlib.Core.Path.{◌≡◌}
use lib.ListN.{length}
use Rattle.numbering.specs.Types.{rules_of}
use Rattle.laying.specs.Passes.{world}
use Rattle.nameputs.proofs.Walks.{Naming}
use Rattle.nameputs.proofs.put_names.Given as goal

abbrev pub invariant-loop-start : goal.invariant-loop-start
invariant-loop-start l = (length l.directory ≡ length l.initial.directory) × ((length l.bytes ≡ length l.initial.bytes) × Naming (rules_of l.set) l.pass l.input (world 0 l.initial.directory l.initial.bytes) (world l.total l.directory l.bytes) l.n l.before l.start)

abbrev pub decreases-loop-start : goal.decreases-loop-start
decreases-loop-start l = length l.input - l.start
