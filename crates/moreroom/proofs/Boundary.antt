-- C-18 at the C boundary.
use Prim.Native.Nat.{ℕ, zero, suc}
use Rattle.entries.specs.Entries.{Answer}
use Rattle.std.specs.Prelude.{Some, None, Ok, Err}
use Rattle.refusals.specs.declared.Reason.TheVariants as reason
use mathlib.Core.Path.{◌≡◌, refl, sym, ap, ◌∙◌}
use mathlib.Core.List.{List, [], ◌∷◌}
use native.Mathlib.Omega.{arith}
use native.Mathlib.Numerals.{add-one}
use lib.ListN.{replicate}
use Rattle.block.specs.declared.State.{State}
use Rattle.refusals.specs.declared.Refusal.{Refusal}
use Rattle.refusals.specs.declared.Refusal.TheVariants as refusal
use Rattle.block.specs.Block.{starts, state}
use Rattle.tables.specs.Tables.{keeping, entry_size, in_rows, room, row_room}
use Rattle.tables.proofs.Room.{room_holds, room_of_law}
use Rattle.tables.proofs.Rows.{room_numbers, numbers_room}
use Rattle.numbering.specs.Types.{Rules}
use Rattle.outcomes.specs.Outcomes.{Outcome}
use Rattle.codes.specs.Codes.{packed, refusal_number, state_in, state_out}
use Rattle.answers.specs.Answers.{read_number, verdict_number}
use Rattle.readcalls.specs.Calls.{Reads, reads_of, read_call, block_call}
use Rattle.claimcalls.specs.Calls.{claim_call}
use Rattle.demands.specs.Runs.{Lent, read, Fresh, Call, reading, claiming, after, run, claimed}
use Rattle.demands.specs.Boundary.{lent_from, call_on, calls_on, Demand3Call}
use Rattle.demands.proofs.Boundary.{call_after, accepts, fresh_start, calls_demand_3, block_calls_demand_3}
use Rattle.moreroom.specs.Runs as runs
use Rattle.moreroom.specs.Runs.{Larger, SameRead, Further, nth, reads_among, MoreRoom, BlockFurther, BlockStart}
use Rattle.moreroom.specs.Calls.{SameCall, FurtherCall, nth_call, SameReplies, BlockFurtherCall, Start, Longer, NoLonger, opened, block, CallsMoreRoom, CallsSameRoom, BlockCallMoreRoom, BlockCallSameRoom}
use Rattle.moreroom.specs.Calls as calls
use Rattle.moreroom.proofs.MoreRoom.{begins, same_claims, more_room, same_room, refused_ever, block_more_room, block_same_room}

module _ (rules : Rules) (bytes dir : List ℕ) (count : ℕ) (a : Start bytes dir count) where
  is_fresh : Fresh bytes dir count (lent_from (opened bytes dir count a))
  is_fresh = fresh_start rules bytes dir count a.cursors a.text a.names (in_rows a.rows) a.state a.value a.opens

  -- what a whole block is lent
  abbrev lends : BlockStart bytes dir count
  lends = record {
    old = a.cursors;
    kept = keeping (state_in a.state) a.text a.names (in_rows a.rows);
    state = state count 0 0 0;
    cur = starts dir;
    opens = accepts rules bytes dir count a.cursors a.text a.names (in_rows a.rows) a.state a.value a.opens;
  }

-- The calls' numbers and buffers

module _ (rules : Rules) (bytes dir : List ℕ) where
  so_many : (n : ℕ) (r : Reads) → calls_on rules bytes dir r (replicate (suc n) reading) ≡ reads_of (nth rules bytes dir (lent_from r) n)
  unfolding calls_on call_on read_call lent_from read run after
  so_many zero r = refl
  so_many (suc n) r = so_many n (call_on rules bytes dir r reading) ∙ ap (λ (l : Lent). reads_of (nth rules bytes dir l n)) (call_after rules bytes dir r reading)

  nth_call_law : (r : Reads) (n : ℕ) → nth_call rules bytes dir r n ≡ reads_of (nth rules bytes dir (lent_from r) n)
  nth_call_law r n = rw add-one (so_many n r)

  -- claims leave no mark
  aside : (cs : List Call) (r : Reads) → calls_on rules bytes dir r cs ≡ calls_on rules bytes dir r (replicate (reads_among cs) reading)
  unfolding calls_on call_on reads_among
  aside [] r = refl
  aside (reading ∷ cs) r = aside cs (call_on rules bytes dir r reading)
  aside (claiming number claim ∷ cs) r = aside cs r

same_call : (o p : Outcome) → SameRead o p → SameCall (reads_of o) (reads_of p)
unfolding reads_of lent_from state_in state_out
same_call o p e = record {
  number = ap (λ (a : Answer). read_number o.kept.state.names a) e.answer ∙ ap (λ (s : State). read_number s.names p.answer) e.used.state;
  cursors = e.cursors;
  state = ap state_out e.used.state;
  used = e.used;
}

further_call : (o p : Outcome) → Further o p → FurtherCall (reads_of o) (reads_of p)
unfolding reads_of read_number refusal_number
further_call o p (runs.same e) = calls.same (same_call o p e)
further_call o p (runs.on k e q) = calls.on k (ap (read_number _) e) (ap (read_number _) q)

block_further : (o p : Outcome) → BlockFurther o p → BlockFurtherCall (reads_of o) (reads_of p)
unfolding reads_of read_number refusal_number lent_from state_in state_out
block_further o p (runs.same e) = calls.same (same_call o p e)
block_further o p (runs.on e l f) = calls.on (ap (read_number _) e) l f

-- longer buffers have more room
module _ (bytes dir : List ℕ) (count : ℕ) (a b : Start bytes dir count) where
  abbrev Roomier : State → State → Type 0
  Roomier s t = Larger (keeping s a.text a.names (in_rows a.rows)) (keeping t b.text b.names (in_rows b.rows))

  longer_larger : (s t : State) → Longer a b → Roomier s t
  longer_larger s t h =
      let n : ℕ = room entry_size a.names in
      let r : ℕ = row_room (in_rows a.rows) in
      record {
        text = h.text;
        names = room_of_law entry_size (omega arith) b.names n (omega (arith, room_holds entry_size (omega arith) a.names n (omega arith), h.names));
        rows = numbers_room b.rows r (omega (arith, room_numbers a.rows r (omega arith), h.rows));
      }

  same_larger : (s t : State) → NoLonger a b → Roomier s t
  same_larger s t h = record { text = omega (arith, h.text); names = omega (arith, h.names); rows = omega (arith, h.rows) }

  no_longer_back : NoLonger a b → NoLonger b a
  no_longer_back h = record { text = sym h.text; names = sym h.names; rows = sym h.rows }

-- a number with code 9 is that of a refusal
nine_refused : {P : Type 0} (k v : ℕ) (a : Answer) → read_number k a ≡ packed 9 v → ((q : Refusal) → a ≡ Err q → P) → P
unfolding read_number packed
nine_refused k v (Ok (Some n)) e f = absurd (omega (arith, e))
nine_refused k v (Ok None) e f = absurd (omega (arith, e))
nine_refused k v (Err q) e f = f q refl

nine_number : (o : Outcome) (k : ℕ) → o.answer ≡ Err (refusal.At reason.NoRoom k) → (reads_of o).number ≡ packed 9 k
unfolding reads_of read_number refusal_number
nine_number o k e = ap (read_number _) e

nine_answer : {P : Type 0} (o : Outcome) (k : ℕ) → (reads_of o).number ≡ packed 9 k → ((q : Refusal) → o.answer ≡ Err q → P) → P
unfolding reads_of
nine_answer o k e f = nine_refused _ k o.answer e f

module _ (rules : Rules) (bytes dir : List ℕ) (count : ℕ) (a b : Start bytes dir count) where
  abbrev r : Reads
  r = opened bytes dir count a

  abbrev q : Reads
  q = opened bytes dir count b

  beside : Longer a b → MoreRoom rules bytes dir (lent_from r) (lent_from q)
  unfolding lent_from
  beside h = more_room rules bytes dir count (lent_from r) (lent_from q) (is_fresh rules bytes dir count a) (is_fresh rules bytes dir count b) (longer_larger bytes dir count a b _ _ h)

  level : NoLonger a b → (n : ℕ) → SameRead (nth rules bytes dir (lent_from r) n) (nth rules bytes dir (lent_from q) n)
  unfolding lent_from
  level h =
      same_room rules bytes dir count (lent_from r) (lent_from q) (is_fresh rules bytes dir count a) (is_fresh rules bytes dir count b) (same_larger bytes dir count a b _ _ h)
      (same_larger bytes dir count b a _ _ (no_longer_back bytes dir count a b h))

  -- after any calls that each leave what demand 3 says
  replies : (r' q' : Reads) → ((calls : List Call) → Demand3Call rules bytes dir (lent_from r) (calls_on rules bytes dir r' calls))
      → ((calls : List Call) → Demand3Call rules bytes dir (lent_from q) (calls_on rules bytes dir q' calls)) → SameReplies rules bytes dir r' q'
  unfolding claim_call claimed lent_from
  replies r' q' d f calls others i claim h k = ap verdict_number (same_claims rules bytes dir (lent_from r) (lent_from q) _ _ (begins bytes dir count _ (is_fresh rules bytes dir count a) ∙ sym (begins bytes dir count _ (is_fresh rules bytes dir count b))) (d calls).inside (f others).inside i claim h k)

  call_claims : SameReplies rules bytes dir r q
  call_claims =
      replies r q (calls_demand_3 rules bytes dir count a.cursors a.text a.names (in_rows a.rows) a.state a.value a.opens)
      (calls_demand_3 rules bytes dir count b.cursors b.text b.names (in_rows b.rows) b.state b.value b.opens)

  block_claims : SameReplies rules bytes dir (block rules bytes dir count a) (block rules bytes dir count b)
  block_claims =
      replies _ _ (block_calls_demand_3 rules bytes dir count a.cursors a.text a.names (in_rows a.rows) a.state a.value a.opens)
      (block_calls_demand_3 rules bytes dir count b.cursors b.text b.names (in_rows b.rows) b.state b.value b.opens)

-- C-18, the calls one by one
pub calls_more_room : CallsMoreRoom
calls_more_room rules bytes dir count a b h =
    let r : Reads = opened bytes dir count a in
    let q : Reads = opened bytes dir count b in
    let m : MoreRoom rules bytes dir (lent_from r) (lent_from q) = beside rules bytes dir count a b h in
    let numbered : (i k : ℕ) → (nth rules bytes dir (lent_from r) i).answer ≡ Err (refusal.At reason.NoRoom k) → (nth_call rules bytes dir r i).number ≡ packed 9 k =
    λ i k e. ap (λ (x : Reads). x.number) (nth_call_law rules bytes dir r i) ∙ nine_number _ k e in
    record {
      alike = λ n h. rw (nth_call_law rules bytes dir r n, nth_call_law rules bytes dir q n) (same_call _ _ (m.alike n (λ k e. h k (numbered n k e))));
      reads = λ n unmet. rw (nth_call_law rules bytes dir r n, nth_call_law rules bytes dir q n) (further_call _ _ (m.reads n (λ i l k e. unmet i l k (numbered i k e))));
      ever = λ n k e j l.
          nine_answer _ k (sym (ap (λ (x : Reads). x.number) (nth_call_law rules bytes dir r n)) ∙ e)
          (λ z y. nth_call_law rules bytes dir r j ∙ ap reads_of (refused_ever rules bytes dir (lent_from r) n z y j l) ∙ sym (nth_call_law rules bytes dir r n));
      between = λ cs. (aside rules bytes dir cs r, aside rules bytes dir cs q);
      claims = call_claims rules bytes dir count a b;
    }

pub calls_same_room : CallsSameRoom
calls_same_room rules bytes dir count a b h n =
    rw (nth_call_law rules bytes dir (opened bytes dir count a) n, nth_call_law rules bytes dir (opened bytes dir count b) n) (same_call _ _ (level rules bytes dir count a b h n))

-- and the whole block
pub block_call_more_room : BlockCallMoreRoom
unfolding block_call
block_call_more_room rules bytes dir count a b h = record {
  further = block_further _ _ (block_more_room rules bytes dir count (lends rules bytes dir count a) (lends rules bytes dir count b) (longer_larger bytes dir count a b _ _ h)).further;
  claims = block_claims rules bytes dir count a b;
}

pub block_call_same_room : BlockCallSameRoom
unfolding block_call
block_call_same_room rules bytes dir count a b h =
    same_call _ _
    (block_same_room rules bytes dir count (lends rules bytes dir count a) (lends rules bytes dir count b) (same_larger bytes dir count a b _ _ h)
    (same_larger bytes dir count b a _ _ (no_longer_back bytes dir count a b h)))
