use Prim.Native.Nat.{◌+◌, ◌≤◌}
use mathlib.Core.List.{[]}
use mathlib.Core.Path.{◌≡◌}
use lib.ListN.{length, drop}
use Rattle.inputs.specs.Inputs.{names_after}
use Rattle.inputs.proofs.ends_in.Given as goal

abbrev pub invariant-loop-b : goal.invariant-loop-b
invariant-loop-b l = (l.n ≤ l.b-index) × (l.n + length (names_after [] (drop (l.from + l.b-index) l.input)) ≡ length (names_after [] (drop l.from l.input)))
