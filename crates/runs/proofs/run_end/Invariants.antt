use Prim.Native.Nat.{◌-◌, ◌≤◌}
use mathlib.Core.Path.{◌≡◌}
use Rattle.sources.specs.Source.{source}
use Rattle.runs.specs.Runs.{run_end}
use Rattle.numbering.specs.Types.{rules_of}
use Rattle.runs.proofs.run_end.Given as goal

abbrev pub invariant-loop-q : goal.invariant-loop-q
invariant-loop-q l = (l.initial.q ≤ l.q) × (run_end (source (rules_of l.set) l.bytes l.dir l.cursors) l.q (l.stop - l.q) ≡ run_end (source (rules_of l.set) l.bytes l.dir l.cursors) l.initial.q (l.stop - l.initial.q))

abbrev pub decreases-loop-q : goal.decreases-loop-q
decreases-loop-q l = l.stop - l.q
