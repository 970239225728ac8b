-- A whole-block read is opening, then reads until "done" or a refusal; what opening and the reads before it did, stays.
use Rattle.std.specs.Prelude.{ℕ, ◌+◌, List, length, Ok, Err}
use Rattle.block.specs.Block.{Opened, open_of}
use Rattle.tables.specs.Tables.{Kept, keeping}
use Rattle.sources.specs.Source.{Source}
use Rattle.outcomes.specs.Outcomes.{Outcome, outcome}
use Rattle.reads.specs.Reads.{fresh, reads_from}

-- every read keeps a name or is the last, so one more than the count are enough
unfoldable pub opened_of : Source → Kept → ℕ → List ℕ → Opened → Outcome
opened_of s m count cur (Ok st) =
    reads_from s.rules s.bytes s.dir (count + 1) (fresh cur (keeping st m.text m.names m.rows))
opened_of s m count cur (Err r) = outcome (Err r) cur m

unfoldable pub block_of : Source → Kept → ℕ → Outcome
block_of s m count =
    let o = open_of (length s.bytes) s.dir count s.cur in
    opened_of s m count o.cursors o.answer
