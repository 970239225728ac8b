-- C-18 over the definitions: reads one after another, the whole block, and claims.
use Prim.Native.Nat.{ℕ, zero, suc, ◌+◌, ◌≤◌, ◌<◌}
use Rattle.entries.specs.Entries.{Answer}
use Rattle.std.specs.Prelude.{Some, None, Ok, Err}
use Rattle.refusals.specs.declared.Reason.TheVariants as reason
use mathlib.Core.Path.{◌≡◌, refl, sym, ap, ◌∙◌, subst}
use mathlib.Core.List.{List, [], ◌∷◌}
use native.Mathlib.Omega.{arith}
use lib.ListN.{length, replicate}
use Rattle.base.proofs.Choice.{by_test}
use Rattle.comparing.specs.Same.{same}
use Rattle.comparing.proofs.Equal.{same_equal, differ_same}
use Rattle.block.specs.declared.State.{State}
use Rattle.refusals.specs.declared.Refusal.{Refusal}
use Rattle.refusals.specs.declared.Refusal.TheVariants as refusal
use Rattle.block.specs.Block.{state}
use Rattle.block.proofs.Laws.{Accepted, accepted}
use Rattle.tables.specs.Tables.{Kept, keeping}
use Rattle.kept.proofs.Later.{Later, later_same, later_then}
use Rattle.numbering.specs.Types.{Rules}
use Rattle.words.specs.Words.{telling}
use Rattle.claims.specs.Claims.{name_text}
use Rattle.sources.specs.Source.{source}
use Rattle.outcomes.specs.Outcomes.{Outcome, outcome}
use Rattle.reads.specs.Reads.{go_on, reads_from}
use Rattle.reading.specs.Blocks.{opened_of, block_of}
use Rattle.demands.specs.Runs.{Lent, lent, read, left, Fresh, Call, reading, claiming, after, run, claimed, name_at}
use Rattle.demands.specs.Right.{Judged, Demand3}
use Rattle.demands.specs.ByWords.{ByWords}
use Rattle.demands.specs.Untouched.{Untouched}
use Rattle.demands.proofs.Untouched.{read_refused}
use Rattle.demands.proofs.Refusals.{carries_number}
use Rattle.demands.proofs.Demand3.{read_or_not, one_later, one_name, demand_3, block_demand_3}
use Rattle.demands.proofs.Lemmas.Keeping.{Sure, fresh_sure, after_sure}
use Rattle.moreroom.specs.Runs as statement
use Rattle.moreroom.specs.Runs.{Larger, InBoth, SameUsed, SameRead, Further, nth, NotNine, reads_among, RunsMoreRoom, RunsSameRoom, BlockFurther, BlockStart, BlocksMoreRoom, BlocksSameRoom}
use Rattle.moreroom.proofs.Fates.{Fares, alike, on, further}
use Rattle.moreroom.proofs.OneRead.{read_fares}

-- what holds of two runs before each read
pub record Beside (bytes dir : List ℕ) (l w : Lent) : Type 0 where
  pub less : Sure bytes dir l
  pub more : Sure bytes dir w
  pub cursors : l.cur ≡ w.cur
  pub used : SameUsed l.kept w.kept
  pub larger : Larger l.kept w.kept

never_kept : {r : Refusal} {n : ℕ} → Err r ≡ Ok (Some n) → ⊥
never_kept q = cc

-- at a fresh start nothing is used
pub begins : (bytes dir : List ℕ) (count : ℕ) (l : Lent) → Fresh bytes dir count l → l.kept.state ≡ state count 0 0 0
begins bytes dir count l f = f.begins ∙ (accepted _ _ _ _ f.opens).state

pub fresh_beside : (bytes dir : List ℕ) (count : ℕ) (l w : Lent) → Fresh bytes dir count l → Fresh bytes dir count w → Larger l.kept w.kept → Beside bytes dir l w
fresh_beside bytes dir count l w f g h =
    let a : Accepted (length bytes) dir count f.old f.state l.cur = accepted _ _ _ _ f.opens in
    let b : Accepted (length bytes) dir count g.old g.state w.cur = accepted _ _ _ _ g.opens in
    let e : l.kept.state ≡ state count 0 0 0 = begins bytes dir count l f in
    record {
      less = fresh_sure bytes dir count l f;
      more = fresh_sure bytes dir count w g;
      cursors = a.cursors ∙ sym b.cursors;
      used = record {
        state = e ∙ sym (begins bytes dir count w g);
        parts = record { text = rw e refl; names = rw e refl; rows = λ j i. absurd (omega (arith, i, ap (λ (s : State). s.rows) e)) };
      };
      larger = h;
    }

-- claims on a name that both have kept, over memories that came from fresh starts of one block
module _ (z y : Lent) (i : ℕ) (claim : List ℕ) (h : i < z.kept.state.names) (k : i < y.kept.state.names) (e : name_at z i ≡ name_at y i) where
  same_verdict : Judged z i claim → Judged y i claim → claimed z i claim ≡ claimed y i claim
  same_verdict a b =
      by_test (same claim (name_at z i))
      (λ t. let q : claim ≡ name_at z i = same_equal _ _ t in a.confirmed h q ∙ sym (b.confirmed k (q ∙ e)))
      (λ t. let n : claim ≡ name_at z i → ⊥ = differ_same _ _ t in a.denied h n ∙ sym (b.denied k (λ q. n (q ∙ sym e))))

pub same_claims : (rules : Rules) (bytes dir : List ℕ) (l w z y : Lent) → l.kept.state ≡ w.kept.state → Demand3 rules bytes dir l z → Demand3 rules bytes dir w y
    → (i : ℕ) (claim : List ℕ) → i < z.kept.state.names → i < y.kept.state.names → claimed z i claim ≡ claimed y i claim
unfolding name_at name_text
same_claims rules bytes dir l w z y e d f i claim h k =
    let t : ByWords rules bytes dir (telling rules bytes dir w.kept.state.count) z =
    subst (λ (x : State). ByWords rules bytes dir (telling rules bytes dir x.count) z) e d.right.told in
    same_verdict z y i claim h k ((t.each i h).text ∙ sym (f.right.told.each i k).text) (d.claims i claim) (f.claims i claim)

module _ (rules : Rules) (bytes dir : List ℕ) where
  beside_fares : (l w : Lent) → Beside bytes dir l w → Fares (read rules bytes dir l) (read rules bytes dir w)
  beside_fares l w b = read_fares rules bytes dir l w b.less b.more b.cursors b.used b.larger

  -- and after it, where both left the same
  beside_next : (l w : Lent) → Beside bytes dir l w → (read rules bytes dir l).cur ≡ (read rules bytes dir w).cur → SameUsed (read rules bytes dir l).kept (read rules bytes dir w).kept
      → Larger (read rules bytes dir l).kept (read rules bytes dir w).kept → Beside bytes dir (left (read rules bytes dir l)) (left (read rules bytes dir w))
  unfolding left after
  beside_next l w b c u g =
      record { less = after_sure rules bytes dir l reading b.less; more = after_sure rules bytes dir w reading b.more; cursors = c; used = u; larger = g }

  -- n reads before, none of which met 9
  abbrev Unmet : Lent → ℕ → Type 0
  Unmet l n = (i : ℕ) → i < n → NotNine (nth rules bytes dir l i).answer

  abbrev Reads : ℕ → Type 0
  Reads n = (l w : Lent) → Beside bytes dir l w → Unmet l n → Further (nth rules bytes dir l n) (nth rules bytes dir w n)

  one_more : (n : ℕ) → Reads n → (l w : Lent) → Beside bytes dir l w → Unmet l (suc n) → Fares (read rules bytes dir l) (read rules bytes dir w)
      → Further (nth rules bytes dir l (suc n)) (nth rules bytes dir w (suc n))
  unfolding run after
  one_more n rest l w b h (alike e c u g) = rest (left (read rules bytes dir l)) (left (read rules bytes dir w)) (beside_next l w b c u g) (λ i k. h (suc i) (omega (arith, k)))
  one_more n rest l w b h (on k e q) = absurd (h 0 (omega arith) k e)

  reads_further : (n : ℕ) → Reads n
  unfolding run
  reads_further zero l w b h = further _ _ (beside_fares l w b)
  reads_further (suc n) l w b h = one_more n (reads_further n) l w b h (beside_fares l w b)

  -- claims leave no mark
  aside : (calls : List Call) (l : Lent) → run rules bytes dir l calls ≡ run rules bytes dir l (replicate (reads_among calls) reading)
  unfolding run after reads_among
  aside [] l = refl
  aside (reading ∷ cs) l = aside cs (left (read rules bytes dir l))
  aside (claiming number claim ∷ cs) l = aside cs l

  -- a read that leaves everything as it was is made again and again
  again : (n : ℕ) (l : Lent) → left (read rules bytes dir l) ≡ l → run rules bytes dir l (replicate n reading) ≡ l
  unfolding run after
  again zero l e = refl
  again (suc n) l e = ap (λ (z : Lent). run rules bytes dir z (replicate n reading)) e ∙ again n l e

  ever : (n : ℕ) (l : Lent) → left (nth rules bytes dir l n) ≡ run rules bytes dir l (replicate n reading) → (j : ℕ) → n ≤ j → run rules bytes dir l (replicate j reading) ≡ run rules bytes dir l (replicate n reading)
  unfolding run after
  ever zero l e j h = again j l e
  ever (suc n) l e zero h = absurd (omega arith)
  ever (suc n) l e (suc j) h = ever n (left (read rules bytes dir l)) e j (omega (arith, h))

  refused_stays : (l : Lent) (q : Refusal) → (read rules bytes dir l).answer ≡ Err q → left (read rules bytes dir l) ≡ l
  unfolding read left
  refused_stays l q e =
      let t : Untouched (source rules bytes dir l.cur) l.kept (read rules bytes dir l) = read_refused (source rules bytes dir l.cur) l.kept q e in
      ap (λ (c : List ℕ). lent c (read rules bytes dir l).kept) t.cursors ∙ ap (lent l.cur) t.memory

  pub refused_ever : (l : Lent) (n : ℕ) (q : Refusal) → (nth rules bytes dir l n).answer ≡ Err q → (j : ℕ) → n ≤ j → nth rules bytes dir l j ≡ nth rules bytes dir l n
  refused_ever l n q e j i = ap (read rules bytes dir) (ever n l (refused_stays _ q e) j i)

  -- a read that doesn't meet 9 comes after none that does
  never_nine : (o p : Outcome) → Further o p → NotNine o.answer → SameRead o p
  never_nine o p (statement.same e) h = e
  never_nine o p (statement.on k e q) h = absurd (h k e)

  reads_alike : (n : ℕ) (l w : Lent) → Beside bytes dir l w → NotNine (nth rules bytes dir l n).answer → SameRead (nth rules bytes dir l n) (nth rules bytes dir w n)
  reads_alike n l w b h =
      never_nine _ _ (reads_further n l w b (λ i k j e. h j (ap (λ (o : Outcome). o.answer) (refused_ever l i (refusal.At reason.NoRoom j) e n (omega (arith, k))) ∙ e))) h

  -- the same room in both
  used_back : (m w : Kept) → SameUsed m w → SameUsed w m
  used_back m w u =
      let e : m.state ≡ w.state = u.state in
      record {
        state = sym e;
        parts = record { text = rw (← e) (sym u.parts.text); names = rw (← e) (sym u.parts.names); rows = λ j i. sym (u.parts.rows j (rw e i)) };
      }

  beside_back : (l w : Lent) → Beside bytes dir l w → Larger w.kept l.kept → Beside bytes dir w l
  beside_back l w b g = record { less = b.more; more = b.less; cursors = sym b.cursors; used = used_back l.kept w.kept b.used; larger = g }

  record Level (o p : Outcome) : Type 0 where
    same : SameRead o p
    larger : Larger o.kept p.kept
    smaller : Larger p.kept o.kept

  level : (o p : Outcome) → Fares o p → Fares p o → Level o p
  level o p (alike e c u g) (alike e' c' u' g') = record { same = record { answer = e; cursors = c; used = u }; larger = g; smaller = g' }
  level o p (alike e c u g) (on k r q) = absurd (never_kept (sym r ∙ sym e ∙ q))
  level o p (on k r q) (alike e c u g) = absurd (never_kept (sym r ∙ sym e ∙ q))
  level o p (on k r q) (on k' r' q') = absurd (never_kept (sym r' ∙ q))

  beside_level : (l w : Lent) → Beside bytes dir l w → Larger w.kept l.kept → Level (read rules bytes dir l) (read rules bytes dir w)
  beside_level l w b g = level _ _ (beside_fares l w b) (beside_fares w l (beside_back l w b g))

  reads_level : (n : ℕ) (l w : Lent) → Beside bytes dir l w → Larger w.kept l.kept → SameRead (nth rules bytes dir l n) (nth rules bytes dir w n)
  unfolding run after left
  reads_level zero l w b g = (beside_level l w b g).same
  reads_level (suc n) l w b g =
      let v : Level (read rules bytes dir l) (read rules bytes dir w) = beside_level l w b g in
      reads_level n (left (read rules bytes dir l)) (left (read rules bytes dir w)) (beside_next l w b v.same.cursors v.same.used v.larger) v.smaller

  -- reads of a whole block: what is kept stays
  read_later : (l : Lent) → Later l.kept (read rules bytes dir l).kept
  unfolding read left
  read_later l =
      read_or_not rules bytes dir l (one_later rules bytes dir l) (λ e. subst (λ (z : Lent). Later l.kept z.kept) (sym e) (later_same l.kept))

  go_later : (rest : Outcome → Outcome) → ((o : Outcome) → Later o.kept (rest o).kept) → (o : Outcome) (a : Answer) → Later o.kept (go_on rest o a).kept
  unfolding go_on
  go_later rest h o (Ok (Some n)) = h o
  go_later rest h o (Ok None) = later_same o.kept
  go_later rest h o (Err r) = later_same o.kept

  reads_later : (f : ℕ) (o : Outcome) → Later o.kept (reads_from rules bytes dir f o).kept
  unfolding reads_from read left
  reads_later zero o = later_same o.kept
  reads_later (suc f) o =
      later_then o.kept (read rules bytes dir (left o)).kept _ (read_later (left o)) (go_later (reads_from rules bytes dir f) (reads_later f) (read rules bytes dir (left o)) _)

  -- whole blocks side by side
  abbrev Blocks : (Outcome → Outcome) → Type 0
  Blocks rest = (o p : Outcome) → o.answer ≡ p.answer → Beside bytes dir (left o) (left p) → BlockFurther (rest o) (rest p)

  module _ (rest : Outcome → Outcome) (blocks : Blocks rest) (stays : (o : Outcome) → Later o.kept (rest o).kept) where
    go_alike : (o p : Outcome) → SameRead o p → Beside bytes dir (left o) (left p) → (a : Answer) → BlockFurther (go_on rest o a) (go_on rest p a)
    unfolding go_on
    go_alike o p e b (Ok (Some n)) = blocks o p e.answer b
    go_alike o p e b (Ok None) = statement.same e
    go_alike o p e b (Err r) = statement.same e

    -- where one has no room, the other goes on
    go_on_law : (l w : Lent) → Beside bytes dir l w → (k : ℕ) → (read rules bytes dir l).answer ≡ Err (refusal.At reason.NoRoom k) → (read rules bytes dir w).answer ≡ Ok (Some k)
        → BlockFurther (read rules bytes dir l) (rest (read rules bytes dir w))
    unfolding read left
    go_on_law l w b k e q =
        let o : Outcome = read rules bytes dir l in
        let p : Outcome = read rules bytes dir w in
        let same : o.kept ≡ l.kept = ap (λ (z : Lent). z.kept) (refused_stays l _ e) in
        let is : k ≡ l.kept.state.names = carries_number (source rules bytes dir l.cur) l.kept reason.NoRoom k e in
        let one : p.kept.state.names ≡ w.kept.state.names + 1 = one_name rules bytes dir w k q in
        let t : Later w.kept (rest p).kept = later_then w.kept p.kept (rest p).kept (read_later w) (stays p) in
        let u : InBoth l.kept w.kept = b.used.parts in
        let st : l.kept.state ≡ w.kept.state = b.used.state in
        statement.on (e ∙ ap (λ (i : ℕ). Err (refusal.At reason.NoRoom i)) (is ∙ sym (ap (λ (m : Kept). m.state.names) same)))
        (rw (same, st) (omega (arith, one, (stays p).names)))
        (rw same (record {
          text = u.text ∙ rw st (sym t.in_text);
          names = u.names ∙ rw st (sym t.in_names);
          rows = λ j i. u.rows j i ∙ sym (t.in_rows_law j (rw (← st) i));
        }))

    go_fares : (l w : Lent) → Beside bytes dir l w → Fares (read rules bytes dir l) (read rules bytes dir w)
        → BlockFurther (go_on rest (read rules bytes dir l) (read rules bytes dir l).answer) (go_on rest (read rules bytes dir w) (read rules bytes dir w).answer)
    unfolding go_on
    go_fares l w b (alike e c u g) =
        let o : Outcome = read rules bytes dir l in
        let p : Outcome = read rules bytes dir w in
        subst (λ (a : Answer). BlockFurther (go_on rest o a) (go_on rest p p.answer)) (sym e)
        (go_alike o p (record { answer = e; cursors = c; used = u }) (beside_next l w b c u g) p.answer)
    go_fares l w b (on k e q) =
        let o : Outcome = read rules bytes dir l in
        let p : Outcome = read rules bytes dir w in
        subst (λ (a : Answer). BlockFurther (go_on rest o a) (go_on rest p p.answer)) (sym e)
        (subst (λ (a : Answer). BlockFurther o (go_on rest p a)) (sym q) (go_on_law l w b k e q))

  blocks_further : (f : ℕ) → Blocks (reads_from rules bytes dir f)
  unfolding reads_from read left
  blocks_further zero o p e b = statement.same (record { answer = e; cursors = b.cursors; used = b.used })
  blocks_further (suc f) o p e b = go_fares (reads_from rules bytes dir f) (blocks_further f) (reads_later f) (left o) (left p) b (beside_fares (left o) (left p) b)

-- C-18
pub more_room : RunsMoreRoom
more_room rules bytes dir count l w f g h =
    let b : Beside bytes dir l w = fresh_beside bytes dir count l w f g h in
    record {
      alike = λ n. reads_alike rules bytes dir n l w b;
      reads = λ n. reads_further rules bytes dir n l w b;
      ever = λ n k e. refused_ever rules bytes dir l n (refusal.At reason.NoRoom k) e;
      between = λ calls. (aside rules bytes dir calls l, aside rules bytes dir calls w);
      claims = λ calls others. same_claims rules bytes dir l w _ _ b.used.state (demand_3 rules bytes dir count l f calls) (demand_3 rules bytes dir count w g others);
    }

pub same_room : RunsSameRoom
same_room rules bytes dir count l w f g h k n = reads_level rules bytes dir n l w (fresh_beside bytes dir count l w f g h) k

-- what a whole block's reads start from
module _ (bytes dir : List ℕ) (count : ℕ) (a : BlockStart bytes dir count) where
  abbrev starts_from_law : Lent
  starts_from_law = lent a.cur (keeping a.state a.kept.text a.kept.names a.kept.rows)

  fresh_block : Fresh bytes dir count starts_from_law
  fresh_block = record { old = a.old; state = a.state; opens = a.opens; begins = refl }

pub block_more_room : BlocksMoreRoom
unfolding block_of opened_of left
block_more_room rules bytes dir count a b h =
    let l : Lent = starts_from_law bytes dir count a in
    let w : Lent = starts_from_law bytes dir count b in
    let side : Beside bytes dir l w =
    fresh_beside bytes dir count l w (fresh_block bytes dir count a) (fresh_block bytes dir count b) (record { text = h.text; names = h.names; rows = h.rows }) in
    record {
      further = rw (a.opens, b.opens) (blocks_further rules bytes dir (count + 1) (outcome (Ok None) l.cur l.kept) (outcome (Ok None) w.cur w.kept) refl side);
      claims = λ calls others.
          same_claims rules bytes dir l w _ _ side.used.state (block_demand_3 (source rules bytes dir a.old) a.kept count a.state a.cur a.opens calls)
          (block_demand_3 (source rules bytes dir b.old) b.kept count b.state b.cur b.opens others);
    }

-- neither goes further than the other
block_level : (o p : Outcome) → BlockFurther o p → BlockFurther p o → SameRead o p
block_level o p (statement.same e) f = e
block_level o p (statement.on e l i) (statement.same f) = absurd (omega (arith, l, ap (λ (s : State). s.names) f.used.state))
block_level o p (statement.on e l i) (statement.on f k j) = absurd (omega (arith, l, k))

pub block_same_room : BlocksSameRoom
block_same_room rules bytes dir count a b h k = block_level _ _ (block_more_room rules bytes dir count a b h).further (block_more_room rules bytes dir count b a k).further
