use Prim.Native.Nat.{◌-◌}
use mathlib.Core.Path.{◌≡◌}
use lib.ListN.{length}
use Rattle.numbering.specs.Types.{rules_of}
use Rattle.tables.specs.Tables.{in_rows}
use Rattle.names.specs.Keeps.{memory}
use Rattle.walks.proofs.Walks.{Walking}
use Rattle.walks.proofs.walk.Given as goal

abbrev pub invariant-loop-p : goal.invariant-loop-p
invariant-loop-p l =
    Walking
    (record { keeping = l.keep; rules = rules_of l.set; bytes = l.bytes; dir = l.dir; start = memory l.initial.text (in_rows l.initial.rows) l.initial.cursors; first = l.first; count = l.count; used = l.used; row = l.row; end = l.end.0 })
    (memory l.text (in_rows l.rows) l.cursors) l.p.0 l.len
    × (length l.rows ≡ length l.initial.rows)

abbrev pub decreases-loop-p : goal.decreases-loop-p
decreases-loop-p l = 129 - l.p.0
