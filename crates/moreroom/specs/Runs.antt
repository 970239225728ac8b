-- C-18: two runs over one block, each from a fresh start of its own, the second with at least as much room. Nothing else tells them apart until the first has none.
use Rattle.std.specs.Prelude.{ℕ, suc, ◌*◌, ◌≤◌, ◌<◌, ◌≡◌, List, [], ◌∷◌, length, take, replicate, Some, Ok, Err}
use Rattle.entries.specs.Entries.{Answer}
use Rattle.refusals.specs.declared.Reason.TheVariants as reason
use Rattle.block.specs.declared.State.{State}
use Rattle.refusals.specs.declared.Refusal.TheVariants as refusal
use Rattle.block.specs.Block.{open_of, opening}
use Rattle.tables.specs.Tables.{Kept, entry_size, room, row_room, row_at}
use Rattle.numbering.specs.Types.{Rules}
use Rattle.outcomes.specs.Outcomes.{Outcome}
use Rattle.sources.specs.Source.{source}
use Rattle.reading.specs.Blocks.{block_of}
use Rattle.demands.specs.Runs.{Lent, read, left, Fresh, Call, reading, claiming, run, claimed}

-- each of text, names and rows is at least as large, any of them equal; names and rows by how many there is room for,
-- so that a table longer by less than one entry or row is both larger and smaller
pub record Larger (m w : Kept) : Type 0 where
  pub text : length m.text ≤ length w.text
  pub names : room entry_size m.names ≤ room entry_size w.names
  pub rows : row_room m.rows ≤ row_room w.rows

-- all that the one uses stands in the other too, at the same places: the used text, every number of the used entries, the used rows
pub record InBoth (m w : Kept) : Type 0 where
  pub text : take m.state.text m.text ≡ take m.state.text w.text
  pub names : take (entry_size * m.state.names) m.names ≡ take (entry_size * m.state.names) w.names
  pub rows : (j : ℕ) → j < m.state.rows → row_at m.rows j ≡ row_at w.rows j

-- what is used is the same, and how much of it; what lies behind may be anything
pub record SameUsed (m w : Kept) : Type 0 where
  pub state : m.state ≡ w.state
  pub parts : InBoth m w

-- two reads that can't be told apart: the answer, the cursors, the state and all that is used
pub record SameRead (o p : Outcome) : Type 0 where
  pub answer : o.answer ≡ p.answer
  pub cursors : o.cur ≡ p.cur
  pub used : SameUsed o.kept p.kept

-- a read with less room and the same read with more: the same, "done" and every refusal included, 9 too if there still is no room;
-- or 9 with less, and with more that very name is kept
pub data Further (o p : Outcome) : Type 0 where
  same : SameRead o p → Further o p
  on : (k : ℕ) → o.answer ≡ Err (refusal.At reason.NoRoom k) → p.answer ≡ Ok (Some k) → Further o p

-- read n of a run, counted from 0: the one that comes after n others
abbrev pub nth : Rules → List ℕ → List ℕ → Lent → ℕ → Outcome
nth rules bytes dir l n = read rules bytes dir (run rules bytes dir l (replicate n reading))

-- any answer but 9
abbrev pub NotNine : Answer → Type 0
NotNine a = (k : ℕ) → a ≡ Err (refusal.At reason.NoRoom k) → ⊥

-- how many of some calls are reads
unfoldable pub reads_among : List Call → ℕ
reads_among [] = 0
reads_among (reading ∷ calls) = suc (reads_among calls)
reads_among (claiming number claim ∷ calls) = reads_among calls

-- a claim on a name that both have kept, whatever each has called, gets the same reply
abbrev pub SameClaims : Rules → List ℕ → List ℕ → Lent → Lent → Type 0
SameClaims rules bytes dir l w =
    (calls others : List Call) (i : ℕ) (claim : List ℕ) → i < (run rules bytes dir l calls).kept.state.names → i < (run rules bytes dir w others).kept.state.names
    → claimed (run rules bytes dir l calls) i claim ≡ claimed (run rules bytes dir w others) i claim

-- C-18 of a run from l and one from w
pub record MoreRoom (rules : Rules) (bytes dir : List ℕ) (l w : Lent) : Type 0 where
  -- a read of one that doesn't answer 9 and the same read of the other can't be told apart: every name that it keeps, every other refusal and every "done"
  pub alike : (n : ℕ) → NotNine (nth rules bytes dir l n).answer → SameRead (nth rules bytes dir l n) (nth rules bytes dir w n)
  -- read n of one and read n of the other, as long as the first hasn't met 9 before; so at its first 9 too
  pub reads : (n : ℕ) → ((i : ℕ) → i < n → NotNine (nth rules bytes dir l i).answer) → Further (nth rules bytes dir l n) (nth rules bytes dir w n)
  -- once it has met 9, all its reads from there on answer and leave the same
  pub ever : (n k : ℕ) → (nth rules bytes dir l n).answer ≡ Err (refusal.At reason.NoRoom k) → (j : ℕ) → n ≤ j → nth rules bytes dir l j ≡ nth rules bytes dir l n
  -- claims in between are nothing to it: after any calls the memory is that after the reads among them
  pub between : (calls : List Call)
      → (run rules bytes dir l calls ≡ run rules bytes dir l (replicate (reads_among calls) reading)) × (run rules bytes dir w calls ≡ run rules bytes dir w (replicate (reads_among calls) reading))
  pub claims : SameClaims rules bytes dir l w

-- C-18: the same block, a fresh start each time, at least as much room the second time
abbrev pub RunsMoreRoom : Type 0
RunsMoreRoom =
    (rules : Rules) (bytes dir : List ℕ) (count : ℕ) (l w : Lent) → Fresh bytes dir count l → Fresh bytes dir count w → Larger l.kept w.kept → MoreRoom rules bytes dir l w

-- with the same room in both, so with a table longer by less than one entry or row, no read of one run can be told from that of the other, 9 included
abbrev pub RunsSameRoom : Type 0
RunsSameRoom =
    (rules : Rules) (bytes dir : List ℕ) (count : ℕ) (l w : Lent) → Fresh bytes dir count l → Fresh bytes dir count w → Larger l.kept w.kept → Larger w.kept l.kept
    → (n : ℕ) → SameRead (nth rules bytes dir l n) (nth rules bytes dir w n)

-- a whole block with less room and with more: the same; or 9 with less, at the first name that it doesn't keep, and with more that name is kept,
-- and those before it alike
pub data BlockFurther (o p : Outcome) : Type 0 where
  same : SameRead o p → BlockFurther o p
  on : o.answer ≡ Err (refusal.At reason.NoRoom o.kept.state.names) → o.kept.state.names < p.kept.state.names → InBoth o.kept p.kept → BlockFurther o p

pub record BlockMoreRoom (rules : Rules) (bytes dir : List ℕ) (o p : Outcome) : Type 0 where
  pub further : BlockFurther o p
  -- of the claims from there on, with any reads among them
  pub claims : SameClaims rules bytes dir (left o) (left p)

-- what a whole-block read is lent, with anything in it, and its opening accepts the block
pub record BlockStart (bytes dir : List ℕ) (count : ℕ) : Type 0 where
  pub old : List ℕ
  pub kept : Kept
  pub state : State
  pub cur : List ℕ
  pub opens : open_of (length bytes) dir count old ≡ opening (Ok state) cur

abbrev pub block_from : (rules : Rules) (bytes dir : List ℕ) (count : ℕ) → BlockStart bytes dir count → Outcome
block_from rules bytes dir count a = block_of (source rules bytes dir a.old) a.kept count

-- C-18 of whole blocks
abbrev pub BlocksMoreRoom : Type 0
BlocksMoreRoom =
    (rules : Rules) (bytes dir : List ℕ) (count : ℕ) (a b : BlockStart bytes dir count) → Larger a.kept b.kept
    → BlockMoreRoom rules bytes dir (block_from rules bytes dir count a) (block_from rules bytes dir count b)

-- with the same room in both
abbrev pub BlocksSameRoom : Type 0
BlocksSameRoom =
    (rules : Rules) (bytes dir : List ℕ) (count : ℕ) (a b : BlockStart bytes dir count) → Larger a.kept b.kept → Larger b.kept a.kept
    → SameRead (block_from rules bytes dir count a) (block_from rules bytes dir count b)
