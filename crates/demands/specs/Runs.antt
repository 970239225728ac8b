-- Calls one after another over one block, the memory handed on as each left it.
use Rattle.std.specs.Prelude.{ℕ, suc, ◌≡◌, List, [], ◌∷◌, length, Some, Ok}
use Rattle.claims.specs.Claims.{Claimed}
use Rattle.block.specs.declared.State.{State}
use Rattle.block.specs.Block.{open_of, opening}
use Rattle.tables.specs.Tables.{Kept, keeping, entry_at}
use Rattle.sources.specs.Source.{Source, source}
use Rattle.outcomes.specs.Outcomes.{Outcome}
use Rattle.reads.specs.Reads.{read_of}
use Rattle.claims.specs.Claims.{name_text, claim_of}
use Rattle.numbering.specs.Types.{Rules}

-- the memory that calls hand on: the cursors, and the state with the text buffer and both tables
pub record Lent : Type 0 where
  pub cur : List ℕ
  pub kept : Kept

abbrev pub lent : List ℕ → Kept → Lent
lent c m = record { cur = c; kept = m }

-- a read over what is lent
unfoldable pub read : Rules → List ℕ → List ℕ → Lent → Outcome
read rules bytes dir l = read_of (source rules bytes dir l.cur) l.kept

-- the memory that it leaves
unfoldable pub left : Outcome → Lent
left o = lent o.cur o.kept

-- so many reads in a row, each of which keeps a name, lead from one memory to another
pub data Keeps (rules : Rules) (bytes dir : List ℕ) : ℕ → Lent → Lent → Type 0 where
  none : (l : Lent) → Keeps rules bytes dir 0 l l
  next : (n i : ℕ) (l z : Lent) → (read rules bytes dir l).answer ≡ Ok (Some i) → Keeps rules bytes dir n (left (read rules bytes dir l)) z → Keeps rules bytes dir (suc n) l z

-- some number of reads, each of which keeps a name
pub record Reads (rules : Rules) (bytes dir : List ℕ) (l z : Lent) : Type 0 where
  pub names : ℕ
  pub reads : Keeps rules bytes dir names l z

-- a fresh start: opening accepts the block, whatever the cursors and the buffers held
pub record Fresh (bytes dir : List ℕ) (count : ℕ) (l : Lent) : Type 0 where
  pub old : List ℕ
  pub state : State
  pub opens : open_of (length bytes) dir count old ≡ opening (Ok state) l.cur
  pub begins : l.kept.state ≡ state

-- a whole-block read whose opening accepts the block, with the state and the cursors that it leaves
abbrev pub Accepts : Source → ℕ → State → List ℕ → Type 0
Accepts s count st cur = open_of (length s.bytes) s.dir count s.cur ≡ opening (Ok st) cur

-- what its reads begin with: these, and the buffers as they were lent
abbrev pub fresh_over : Kept → State → List ℕ → Lent
fresh_over m st cur = lent cur (keeping st m.text m.names m.rows)

-- a call on the open block: a read, or a claim that a name has these bytes
pub data Call : Type 0 where
  reading : Call
  claiming : ℕ → List ℕ → Call

-- the memory after a call, refused or not
unfoldable pub after : Rules → List ℕ → List ℕ → Lent → Call → Lent
after rules bytes dir l reading = left (read rules bytes dir l)
after rules bytes dir l (claiming number claim) = l

-- the memory after any calls, each handed what the one before left
unfoldable pub run : Rules → List ℕ → List ℕ → Lent → List Call → Lent
run rules bytes dir l [] = l
run rules bytes dir l (c ∷ cs) = run rules bytes dir (after rules bytes dir l c) cs

-- what a claim answers over what is lent
unfoldable pub claimed : Lent → ℕ → List ℕ → Claimed
claimed l number claim = claim_of number claim l.kept.state l.kept.text l.kept.names

-- the bytes of a kept name
unfoldable pub name_at : Lent → ℕ → List ℕ
name_at l i = name_text l.kept.text (entry_at l.kept.names i)
