use Rattle.naming.proofs.Walking.{Starts}
use Rattle.base.specs.Choice.{pick}
use Rattle.tables.specs.Tables.{in_rows}
use Rattle.numbering.specs.Types.{rules_of}
use mathlib.Core.Path.{◌≡◌}
use lib.ListN.{length}
use Rattle.naming.proofs.named.Given as goal

abbrev pub invariant-loop-size : goal.invariant-loop-size
invariant-loop-size l =
    Starts (rules_of l.set) l.bytes l.dir l.initial.cursors l.initial.text l.initial.entries (in_rows l.initial.rows) l.state l.distance.0 l.first l.count l.keeping l.cursors l.text l.entries (in_rows l.rows)
    × (length l.rows ≡ length l.initial.rows)

abbrev pub decreases-loop-size : goal.decreases-loop-size
decreases-loop-size l = pick l.keeping 0 1
