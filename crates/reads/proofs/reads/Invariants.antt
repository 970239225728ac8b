use Rattle.reads.proofs.Loops.{Reads}
use Rattle.base.specs.Choice.{pick}
use Rattle.numbering.specs.Types.{rules_of}
use Rattle.sources.specs.Source.{source}
use Rattle.inner.specs.Next.{next_of}
use Rattle.reads.specs.Reads.{fresh, reads_from}
use Rattle.tables.specs.Tables.{keeping, in_rows}
use lib.ListN.{length}
use Prim.Native.Nat.{◌+◌, ◌-◌}
use mathlib.Core.Path.{◌≡◌}
use Rattle.reads.proofs.reads.Given as goal

abbrev pub invariant-loop-so_far : goal.invariant-loop-so_far
invariant-loop-so_far l =
    Reads (rules_of l.set) l.bytes l.dir l.whole
    (pick l.whole (reads_from (rules_of l.set) l.bytes l.dir (l.initial.so_far.count - l.initial.so_far.names + 1) (fresh l.initial.cursors (keeping l.initial.so_far l.initial.text l.initial.entries (in_rows l.initial.rows)))) (next_of (source (rules_of l.set) l.bytes l.dir l.initial.cursors) (keeping l.initial.so_far l.initial.text l.initial.entries (in_rows l.initial.rows))))
    l.cursors (keeping l.so_far l.text l.entries (in_rows l.rows))
    × ((length l.text ≡ length l.initial.text) × ((length l.entries ≡ length l.initial.entries) × (length l.rows ≡ length l.initial.rows)))

abbrev pub decreases-loop-so_far : goal.decreases-loop-so_far
decreases-loop-so_far l = l.so_far.count - l.so_far.names
