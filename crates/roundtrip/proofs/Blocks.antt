-- Read after read: from what is reached, the reads keep all names that are left, and then the block is done.
use Prim.Native.Nat.{ℕ, zero, suc, ◌+◌, ◌≤◌, ◌<◌}
use Rattle.entries.specs.Entries.{Answer}
use Rattle.std.specs.Prelude.{Some, None, Ok}
use mathlib.Core.Path.{◌≡◌, refl, sym, ap, ◌∙◌, subst}
use mathlib.Core.List.{List, [], ◌∷◌, ◌++◌}
use native.Mathlib.Omega.{arith}
use native.Mathlib.Nat.{add-zero}
use lib.ListN.{length, get_or, length-append}
use Rattle.base.proofs.Holding.{Holds, holds_none, holds_join, holds_same}
use Rattle.block.specs.declared.State.{State}
use Rattle.block.specs.Block.{state, end_of}
use Rattle.tables.specs.Tables.{Kept, row_room}
use Rattle.kept.proofs.Later.{Later, later_same, later_then}
use Rattle.sources.specs.Source.{source}
use Rattle.outcomes.specs.Outcomes.{Outcome, outcome}
use Rattle.reads.specs.Reads.{read_of, go_on, reads_from}
use Rattle.roundtrip.specs.Room.{listed, text_wanted, rows_added, rows_for}
use Rattle.roundtrip.specs.Back.{NameIs, RowsAre, read_times}
use Rattle.roundtrip.proofs.Keeping.{stays_name, stays_rows}
use Rattle.roundtrip.proofs.Reading.{Reached, ReadBack, done_back, read_back}
use Rattle.numbering.specs.Types.{Rules}

-- kept name i and those after it are these
unfoldable pub NamesAre : Kept → ℕ → List (List ℕ) → Type 0
NamesAre m i [] = Unit
NamesAre m i (s ∷ ss) = (NameIs m i s × RowsAre m i s) × NamesAre m (i + 1) ss

pub names_at : (m : Kept) (ss : List (List ℕ)) (i : ℕ) → NamesAre m i ss → (j : ℕ) → j < length ss → NameIs m (i + j) (get_or ss j []) × RowsAre m (i + j) (get_or ss j [])
unfolding NamesAre
names_at m [] i a j h = absurd (omega arith)
names_at m (s ∷ ss) i a zero h = rw add-zero a.0
names_at m (s ∷ ss) i a (suc j) h =
    let e : i + 1 + j ≡ i + suc j = omega arith in
    subst (λ (n : ℕ). NameIs m n (get_or ss j []) × RowsAre m n (get_or ss j [])) e (names_at m ss (i + 1) a.1 j (omega arith))

-- all names that were left are kept
pub record Whole (m : Kept) (before : List ℕ) (coming : List (List ℕ)) (o : Outcome) : Type 0 where
  pub answer : o.answer ≡ Ok None
  pub stays : Later m o.kept
  pub room : o.kept.state.rows ≤ row_room o.kept.rows
  pub each : NamesAre o.kept m.state.names coming
  pub text : Holds o.kept.text m.state.text (listed coming)
  pub counts : o.kept.state
      ≡ state m.state.count (m.state.names + length coming) (m.state.text + text_wanted coming) (m.state.rows + rows_for m.state.names before coming)

whole_none : (cur : List ℕ) (m : Kept) (before : List ℕ) → m.state.rows ≤ row_room m.rows → Whole m before [] (outcome (Ok None) cur m)
unfolding NamesAre listed text_wanted rows_for
whole_none cur m before room =
    record {
      answer = refl;
      stays = later_same m;
      room = room;
      each = tt;
      text = holds_none m.text m.state.text;
      counts = rw (add-zero m.state.names, add-zero m.state.text, add-zero m.state.rows) refl;
    }

whole_more : (rules : Rules) (bytes dir cur : List ℕ) (m : Kept) (before s : List ℕ) (ss : List (List ℕ)) (b : ReadBack rules bytes dir cur m before s ss) (o : Outcome)
    → Whole b.next s ss o → Whole m before (s ∷ ss) o
unfolding NamesAre listed text_wanted rows_for
whole_more rules bytes dir cur m before s ss b o w =
    let k : ℕ = m.state.names in
    let t : ℕ = m.state.text in
    let names : b.next.state.names ≡ k + 1 = ap (λ (x : State). x.names) b.counts in
    let used : b.next.state.text ≡ t + (length s + 1) = ap (λ (x : State). x.text) b.counts in
    let ten : length (s ++ 10 ∷ []) ≡ length s + 1 = length-append s (10 ∷ []) in
    let place : b.next.state.text ≡ t + length (s ++ 10 ∷ []) = omega arith in
    let p : k + 1 + length ss ≡ k + suc (length ss) = omega arith in
    let q : t + (length s + 1) + text_wanted ss ≡ t + (length s + 1 + text_wanted ss) = omega arith in
    let r : m.state.rows + rows_added k before s + rows_for (k + 1) s ss ≡ m.state.rows + (rows_added k before s + rows_for (k + 1) s ss) = omega arith in
    record {
      answer = w.answer;
      stays = later_then m b.next o.kept b.stays w.stays;
      room = w.room;
      each = (
        (stays_name b.next o.kept k s w.stays (omega arith) b.entry, stays_rows b.next o.kept k s w.stays w.room (omega arith) b.entry),
        subst (λ (i : ℕ). NamesAre o.kept i ss) names w.each,
      );
      text =
          holds_join o.kept.text t (s ++ 10 ∷ []) (listed ss)
          (holds_same b.next.text o.kept.text t (s ++ 10 ∷ []) b.next.state.text (sym w.stays.in_text) (omega arith) b.text)
          (subst (λ (i : ℕ). Holds o.kept.text i (listed ss)) place w.text);
      counts =
          w.counts
          ∙ ap (λ (x : State). state x.count (x.names + length ss) (x.text + text_wanted ss) (x.rows + rows_for x.names s ss)) b.counts
          ∙ rw (p, q, r) refl;
    }

module _ (rules : Rules) (bytes dir : List ℕ) (directory : length dir ≡ 2580) (within : (i : ℕ) → i < 1290 → end_of dir i ≤ length bytes) where
  reads_done : (f : ℕ) (a : Answer) (cur : List ℕ) (m : Kept) (before : List ℕ) → Reached rules bytes dir cur m before []
      → reads_from rules bytes dir (suc f) (outcome a cur m) ≡ outcome (Ok None) cur m
  unfolding reads_from go_on
  reads_done f a cur m before r = ap (λ (x : Outcome). go_on (reads_from rules bytes dir f) x x.answer) (done_back rules bytes dir cur m before directory within r)

  reads_more : (f : ℕ) (a : Answer) (cur : List ℕ) (m : Kept) (before s : List ℕ) (ss : List (List ℕ)) (b : ReadBack rules bytes dir cur m before s ss)
      → reads_from rules bytes dir (suc f) (outcome a cur m) ≡ reads_from rules bytes dir f (outcome (Ok (Some m.state.names)) b.now b.next)
  unfolding reads_from go_on
  reads_more f a cur m before s ss b = ap (λ (x : Outcome). go_on (reads_from rules bytes dir f) x x.answer) b.is

  pub reads_back : (coming : List (List ℕ)) (f : ℕ) (a : Answer) (cur : List ℕ) (m : Kept) (before : List ℕ) → length coming < f → Reached rules bytes dir cur m before coming
      → Whole m before coming (reads_from rules bytes dir f (outcome a cur m))
  reads_back [] zero a cur m before h r = absurd (omega arith)
  reads_back [] (suc f) a cur m before h r = rw (reads_done f a cur m before r) (whole_none cur m before r.counted.rows_used)
  reads_back (s ∷ ss) zero a cur m before h r = absurd (omega arith)
  reads_back (s ∷ ss) (suc f) a cur m before h r =
      let b : ReadBack rules bytes dir cur m before s ss = read_back rules bytes dir cur m before directory within s ss r in
      rw (reads_more f a cur m before s ss b)
      (whole_more rules bytes dir cur m before s ss b (reads_from rules bytes dir f (outcome (Ok (Some m.state.names)) b.now b.next))
      (reads_back ss f (Ok (Some m.state.names)) b.now b.next s (omega arith) b.reached))

  -- the same reads, one a call
  once : (n : ℕ) (a : Answer) (cur : List ℕ) (m : Kept) (o : Outcome) → read_of (source rules bytes dir cur) m ≡ o → read_times rules bytes dir (suc n) (outcome a cur m) ≡ read_times rules bytes dir n o
  unfolding read_times
  once n a cur m o e = ap (read_times rules bytes dir n) e

  -- the read after i others keeps name i
  pub calls_back : (coming : List (List ℕ)) (i : ℕ) (a : Answer) (cur : List ℕ) (m : Kept) (before : List ℕ) → i < length coming → Reached rules bytes dir cur m before coming
      → ((read_times rules bytes dir (suc i) (outcome a cur m)).answer ≡ Ok (Some (m.state.names + i)))
      × NameIs (read_times rules bytes dir (suc i) (outcome a cur m)).kept (m.state.names + i) (get_or coming i [])
  unfolding read_times
  calls_back [] i a cur m before h r = absurd (omega arith)
  calls_back (s ∷ ss) zero a cur m before h r =
      let b : ReadBack rules bytes dir cur m before s ss = read_back rules bytes dir cur m before directory within s ss r in
      let names : b.next.state.names ≡ m.state.names + 1 = ap (λ (x : State). x.names) b.counts in
      rw (b.is, add-zero m.state.names) (refl, stays_name b.next b.next m.state.names s (later_same b.next) (omega arith) b.entry)
  calls_back (s ∷ ss) (suc i) a cur m before h r =
      let b : ReadBack rules bytes dir cur m before s ss = read_back rules bytes dir cur m before directory within s ss r in
      let names : b.next.state.names ≡ m.state.names + 1 = ap (λ (x : State). x.names) b.counts in
      let e : b.next.state.names + i ≡ m.state.names + suc i = omega arith in
      let o : Outcome = outcome (Ok (Some m.state.names)) b.now b.next in
      let q = calls_back ss i (Ok (Some m.state.names)) b.now b.next s (omega arith) b.reached in
      rw (once (suc i) a cur m o b.is)
      (q.0 ∙ ap (λ (k : ℕ). Ok (Some k)) e, subst (λ (n : ℕ). NameIs (read_times rules bytes dir (suc i) o).kept n (get_or ss i [])) e q.1)

  -- and one more is done, with all of them kept
  pub calls_done : (coming : List (List ℕ)) (a : Answer) (cur : List ℕ) (m : Kept) (before : List ℕ) → Reached rules bytes dir cur m before coming
      → ((read_times rules bytes dir (suc (length coming)) (outcome a cur m)).answer ≡ Ok None)
      × ((read_times rules bytes dir (suc (length coming)) (outcome a cur m)).kept.state.names ≡ m.state.names + length coming)
  unfolding read_times
  calls_done [] a cur m before r = rw (done_back rules bytes dir cur m before directory within r) (refl, sym (add-zero m.state.names))
  calls_done (s ∷ ss) a cur m before r =
      let b : ReadBack rules bytes dir cur m before s ss = read_back rules bytes dir cur m before directory within s ss r in
      let names : b.next.state.names ≡ m.state.names + 1 = ap (λ (x : State). x.names) b.counts in
      let q = calls_done ss (Ok (Some m.state.names)) b.now b.next s b.reached in
      rw (once (suc (length ss)) a cur m (outcome (Ok (Some m.state.names)) b.now b.next) b.is)
      (q.0, q.1 ∙ omega arith)
