use Prim.Native.Nat.{◌+◌, ◌-◌, ◌≤◌}
use mathlib.Core.List.{[]}
use mathlib.Core.Path.{◌≡◌}
use lib.ListN.{length, drop}
use Rattle.inputs.specs.Inputs.{names_after, names_of, judged_from}
use Rattle.inputs.proofs.judge.Given as goal

abbrev pub invariant-loop-start : goal.invariant-loop-start
invariant-loop-start l = (l.start ≤ length l.input) × ((l.n + length (names_after [] (drop l.start l.input)) ≡ length (names_of l.input)) × (judged_from l.n (names_after [] (drop l.start l.input)) ≡ judged_from 0 (names_of l.input)))

abbrev pub decreases-loop-start : goal.decreases-loop-start
decreases-loop-start l = length l.input - l.start
