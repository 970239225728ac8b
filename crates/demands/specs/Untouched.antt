-- Demand 1: a refused call alters none of the lent memory, save that reading a whole block keeps what its steps before the refusal did,
-- and that a replay refused with 18 keeps what the symbols before the bad one did (C-22, specs/Replays).
use Rattle.std.specs.Prelude.{ℕ, ◌≡◌, List, length, Some, None, Ok, Err}
use Rattle.refusals.specs.declared.Refusal.{Refusal}
use Rattle.block.specs.declared.State.{State}
use Rattle.block.specs.Block.{Opening, open_of}
use Rattle.tables.specs.Tables.{Kept}
use Rattle.sources.specs.Source.{Source}
use Rattle.outcomes.specs.Outcomes.{Outcome}
use Rattle.reads.specs.Reads.{read_of}
use Rattle.reading.specs.Blocks.{block_of}
use Rattle.writing.specs.Writes.{Writing, write_of}
use Rattle.demands.specs.Runs.{Lent, read, left, Keeps, Accepts, fresh_over}
use Rattle.numbering.specs.Types.{Rules}

-- the cursors, the state and all buffers are as they were
pub record Untouched (s : Source) (m : Kept) (o : Outcome) : Type 0 where
  pub cursors : o.cur ≡ s.cur
  pub memory : o.kept ≡ m

-- a whole-block read, from what opening left: reads that keep a name, then one that doesn't. The answer is that one's, and what those before it did, stays
pub record Whole (rules : Rules) (bytes dir : List ℕ) (l : Lent) (o : Outcome) : Type 0 where
  pub names : ℕ
  pub last : Lent
  pub before : Keeps rules bytes dir names l last
  pub answers : o.answer ≡ (read rules bytes dir last).answer
  pub stops : (i : ℕ) → o.answer ≡ Ok (Some i) → ⊥
  pub stays : left o ≡ last

-- a write, if it is refused, leaves the directory and the bytes as they were
abbrev pub Unwritten : List ℕ → List ℕ → Writing → Type 0
Unwritten dir bytes w = (r : Refusal) → w.answer ≡ Err r → (w.directory ≡ dir) × (w.bytes ≡ bytes)

-- opening that is refused leaves the cursors as they were; it is handed no buffer
abbrev pub OpenRefused : Type 0
OpenRefused = (n : ℕ) (dir : List ℕ) (count : ℕ) (cur : List ℕ) (r : Refusal) → (open_of n dir count cur).answer ≡ Err r → (open_of n dir count cur).cursors ≡ cur

-- a read that is refused leaves everything as it was
abbrev pub ReadRefused : Type 0
ReadRefused = (s : Source) (m : Kept) (r : Refusal) → (read_of s m).answer ≡ Err r → Untouched s m (read_of s m)

-- and so does one that finds the block at its end
abbrev pub ReadDone : Type 0
ReadDone = (s : Source) (m : Kept) → (read_of s m).answer ≡ Ok None → Untouched s m (read_of s m)

-- a write that is refused leaves the directory and the bytes as they were
abbrev pub WriteRefused : Type 0
WriteRefused = (rules : Rules) (input dir bytes : List ℕ) → Unwritten dir bytes (write_of rules input dir bytes)

-- a whole-block read whose opening is refused leaves everything as it was
abbrev pub BlockRefused : Type 0
BlockRefused =
    (s : Source) (m : Kept) (count : ℕ) (r : Refusal) → (open_of (length s.bytes) s.dir count s.cur).answer ≡ Err r
    → ((block_of s m count).answer ≡ Err r) × Untouched s m (block_of s m count)

-- one that opens keeps what opening and the reads before the last did
abbrev pub BlockReads : Type 0
BlockReads =
    (s : Source) (m : Kept) (count : ℕ) (st : State) (cur : List ℕ) → Accepts s count st cur
    → Whole s.rules s.bytes s.dir (fresh_over m st cur) (block_of s m count)

-- The same of the code: of whatever meets a call's contract

abbrev pub OpeningUntouched : Type 0
OpeningUntouched =
    (len : ℕ) (dir : List ℕ) (count : ℕ) (cur : List ℕ) (o : Opening) → o ≡ open_of len dir count cur
    → (r : Refusal) → o.answer ≡ Err r → o.cursors ≡ cur

abbrev pub ReadUntouched : Type 0
ReadUntouched = (s : Source) (m : Kept) (o : Outcome) → o ≡ read_of s m → (r : Refusal) → o.answer ≡ Err r → Untouched s m o

abbrev pub WritingUntouched : Type 0
WritingUntouched = (rules : Rules) (input dir bytes : List ℕ) (w : Writing) → w ≡ write_of rules input dir bytes → Unwritten dir bytes w

abbrev pub BlockUntouched : Type 0
BlockUntouched =
    (s : Source) (m : Kept) (count : ℕ) (o : Outcome) → o ≡ block_of s m count
    → (r : Refusal) → (open_of (length s.bytes) s.dir count s.cur).answer ≡ Err r → (o.answer ≡ Err r) × Untouched s m o

abbrev pub BlockKeeps : Type 0
BlockKeeps =
    (s : Source) (m : Kept) (count : ℕ) (o : Outcome) → o ≡ block_of s m count
    → (st : State) (cur : List ℕ) → Accepts s count st cur → Whole s.rules s.bytes s.dir (fresh_over m st cur) o
