use mathlib.Core.Path.{◌≡◌}
use Rattle.laying.specs.Passes.{offset_in}
use Rattle.laying.proofs.Tables.{laid}
use Rattle.laying.proofs.lay_out.Given as goal

abbrev pub invariant-loop-i : goal.invariant-loop-i
invariant-loop-i l = record { at : l.at ≡ offset_in l.initial.directory l.i; laid : l.directory ≡ laid l.initial.directory l.i }
