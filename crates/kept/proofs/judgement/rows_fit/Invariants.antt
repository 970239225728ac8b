use Prim.Native.Nat.{◌-◌}
use mathlib.Core.Path.{◌≡◌}
use Rattle.base.specs.Choice.{both}
use Rattle.tables.specs.Tables.{in_rows}
use Rattle.kept.specs.Judgement.{rows_fit}
use Rattle.kept.proofs.judgement.rows_fit.Given as goal

abbrev pub invariant-loop-i : goal.invariant-loop-i
invariant-loop-i l = both l.ok (rows_fit l.used (in_rows l.rows) l.i (l.end - l.i)) ≡ rows_fit l.used (in_rows l.rows) l.first l.many
