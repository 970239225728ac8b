-- What was seen of programs that meet the contracts: calls with the outcomes that they had, one after another over one block.
use Rattle.std.specs.Prelude.{◌≡◌, List, [], ◌∷◌, ℕ, ◌≤◌, ◌<◌, Some, None, Ok, Err}
use Rattle.entries.specs.Entries.{Answer}
use Rattle.claims.specs.Claims.{Claimed}
use Rattle.refusals.specs.declared.Reason.TheVariants as reason
use Rattle.claims.specs.declared.Verdict.TheVariants as verdict
use Rattle.block.specs.declared.State.{State}
use Rattle.refusals.specs.declared.Refusal.{Refusal}
use Rattle.refusals.specs.declared.Refusal.TheVariants as refusal
use Rattle.tables.specs.Tables.{Kept}
use Rattle.sources.specs.Source.{Source}
use Rattle.outcomes.specs.Outcomes.{Outcome}
use Rattle.reading.specs.Blocks.{block_of}
use Rattle.demands.specs.Runs.{Lent, left, read, claimed, name_at, Fresh, Accepts, fresh_over, Call, reading, claiming}
use Rattle.demands.specs.Right.{Sane, Demand3}
use Rattle.demands.specs.Done.{AtEnd}
use Rattle.numbering.specs.Types.{Rules}

-- each call was handed the memory that the one before left, and its outcome meets its contract
pub data Seen (rules : Rules) (bytes dir : List ℕ) : Lent → List Call → Lent → Type 0 where
  nothing : (l : Lent) → Seen rules bytes dir l [] l
  a_read : (l z : Lent) (o : Outcome) (calls : List Call) → o ≡ read rules bytes dir l → Seen rules bytes dir (left o) calls z → Seen rules bytes dir l (reading ∷ calls) z
  a_claim : (l z : Lent) (number : ℕ) (claim : List ℕ) (v : Claimed) (calls : List Call) → v ≡ claimed l number claim
      → Seen rules bytes dir l calls z → Seen rules bytes dir l (claiming number claim ∷ calls) z

-- what a read answers over a memory: the number of the next name; "done" at the end of the block;
-- or a refusal that is no fault of the memory, so 10 or, with the number of the name being read, 2 to 9, and never 1 or 13
pub data ReadSays (dir : List ℕ) (l : Lent) : Answer → Type 0 where
  next_name : l.kept.state.names < l.kept.state.count → ReadSays dir l (Ok (Some l.kept.state.names))
  all_read : l.kept.state.names ≡ l.kept.state.count → AtEnd dir l.cur → ReadSays dir l (Ok None)
  stops : (r : Refusal) → Sane l r → ReadSays dir l (Err r)

-- what a claim answers over a memory: of a name already read, yes if its bytes are all of that name's bytes and nothing else, no otherwise;
-- of a later one that it isn't read yet
pub data ClaimSays (l : Lent) (number : ℕ) (claim : List ℕ) : Claimed → Type 0 where
  is_name : number < l.kept.state.names → claim ≡ name_at l number → ClaimSays l number claim (Ok verdict.Confirmed)
  is_other : number < l.kept.state.names → (claim ≡ name_at l number → ⊥) → ClaimSays l number claim (Ok verdict.Denied)
  not_read : l.kept.state.names ≤ number → ClaimSays l number claim (Err (refusal.At reason.NoSuchName number))

-- demand 3 of all that was seen from a fresh start f on: it holds of every memory on the way and of the last, and each answer is as it has to be over the memory
-- that its call was handed
unfoldable pub EachSeen : (rules : Rules) (bytes dir : List ℕ) (f l z : Lent) (calls : List Call) → Seen rules bytes dir l calls z → Type 0
EachSeen rules bytes dir f l z [] (nothing a) = Demand3 rules bytes dir f l
EachSeen rules bytes dir f l z (c ∷ cs) (a_read a b o calls e t) = Demand3 rules bytes dir f l × (ReadSays dir l o.answer × EachSeen rules bytes dir f (left o) z cs t)
EachSeen rules bytes dir f l z (c ∷ cs) (a_claim a b number claim v calls e t) = Demand3 rules bytes dir f l × (ClaimSays l number claim v × EachSeen rules bytes dir f l z cs t)

-- demand 3 of the code, of each call that was seen from a fresh start on
abbrev pub Demand3Seen : Type 0
Demand3Seen =
    (rules : Rules) (bytes dir : List ℕ) (count : ℕ) (l z : Lent) → Fresh bytes dir count l
    → (calls : List Call) (t : Seen rules bytes dir l calls z) → EachSeen rules bytes dir l l z calls t

-- and from a whole-block read on
abbrev pub BlockDemand3Seen : Type 0
BlockDemand3Seen =
    (s : Source) (m : Kept) (count : ℕ) (st : State) (cur : List ℕ) → Accepts s count st cur
    → (o : Outcome) → o ≡ block_of s m count → (z : Lent) (calls : List Call) (t : Seen s.rules s.bytes s.dir (left o) calls z)
    → EachSeen s.rules s.bytes s.dir (fresh_over m st cur) (left o) z calls t
