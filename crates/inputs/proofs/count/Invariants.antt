use Prim.Native.Nat.{◌+◌, ◌-◌, ◌≤◌}
use mathlib.Core.List.{[]}
use mathlib.Core.Path.{◌≡◌}
use lib.ListN.{length, drop}
use Rattle.inputs.specs.Inputs.{names_after, names_of}
use Rattle.inputs.proofs.count.Given as goal

abbrev pub invariant-loop-i : goal.invariant-loop-i
invariant-loop-i l = (l.i ≤ length l.input) × ((l.n ≤ l.i) × (l.n + length (names_after [] (drop l.i l.input)) ≡ length (names_of l.input)))

abbrev pub decreases-loop-i : goal.decreases-loop-i
decreases-loop-i l = length l.input - l.i
