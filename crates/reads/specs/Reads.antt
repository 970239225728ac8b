-- Reads: one read, as the public call gives it, and reads one after another until "done" or a refusal.
use Rattle.std.specs.Prelude.{ℕ, zero, suc, ◌+◌, ◌-◌, Bool, true, false, List, length, Some, None, Ok, Err}
use Rattle.entries.specs.Entries.{Answer}
use Rattle.refusals.specs.declared.Reason.TheVariants as reason
use Rattle.base.specs.Choice.{pick}
use Rattle.block.specs.Block.{sound, all_inside}
use Rattle.numbering.specs.Types.{Rules}
use Rattle.tables.specs.Tables.{Kept}
use Rattle.kept.specs.Judgement.{counts}
use Rattle.sources.specs.Source.{Source, source}
use Rattle.outcomes.specs.Outcomes.{Outcome, outcome, plain}
use Rattle.inner.specs.Next.{next_of}

-- reading: 1; 13 for the counts and cursors; then the rest
unfoldable pub read_of : Source → Kept → Outcome
read_of s m =
    pick (sound (length s.bytes) s.dir s.cur)
    (pick (counts m)
    (pick (all_inside s.dir s.cur) (next_of s m) (plain s m reason.Outside))
    (plain s m reason.Outside))
    (plain s m reason.Unsound)

-- after one read: on with `rest` where it kept a name, else it is the last
unfoldable pub go_on : (Outcome → Outcome) → Outcome → Answer → Outcome
go_on rest o (Ok (Some n)) = rest o
go_on rest o (Ok None) = o
go_on rest o (Err r) = o

-- a read that keeps a name
unfoldable pub is_kept : Answer → Bool
is_kept (Ok (Some n)) = true
is_kept (Ok None) = false
is_kept (Err r) = false

-- what the reads start from
abbrev pub fresh : List ℕ → Kept → Outcome
fresh cur m = outcome (Ok None) cur m

-- at most f reads
unfoldable pub reads_from : Rules → List ℕ → List ℕ → ℕ → Outcome → Outcome
reads_from rules bytes dir zero o = o
reads_from rules bytes dir (suc f) o =
    let next = read_of (source rules bytes dir o.cur) o.kept in
    go_on (reads_from rules bytes dir f) next next.answer

-- the reads of a whole block that are left, which are at most one more than its names, or one read
abbrev pub whole_or_one : Bool → Source → Kept → Outcome
whole_or_one whole s m = pick whole (reads_from s.rules s.bytes s.dir (m.state.count - m.state.names + 1) (fresh s.cur m)) (next_of s m)
