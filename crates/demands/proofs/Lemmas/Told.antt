-- From a fresh start on, what is kept and what the words still say are together what they said at first.
use Prim.Native.Nat.{ℕ, suc, ◌+◌, ◌-◌, ◌≤◌, ◌<◌}
use Rattle.std.specs.Prelude.{Some, None, Ok, Err}
use Rattle.refusals.specs.declared.Reason.TheVariants as reason
use mathlib.Core.Path.{◌≡◌, refl, sym, ap, ◌∙◌, subst}
use mathlib.Core.Logic.{◌⊎◌, inl, inr, ⊎_elim}
use mathlib.Core.List.{List, [], ◌∷◌}
use native.Mathlib.Omega.{arith}
use native.Mathlib.Nat.{eq-or-lt_of_le}
use borrow.Author.Tests.{lt-ltb, le-ltb}
use lib.ListN.{length, get_or}
use Rattle.base.specs.Choice.{pick}
use Rattle.base.specs.Memory.{part}
use Rattle.base.proofs.Choice.{pick_true, pick_false, by_test}
use Rattle.block.specs.declared.State.{State}
use Rattle.refusals.specs.declared.Refusal.TheVariants as refusal
use Rattle.block.specs.Block.{start_of, end_of, cursor_of, state}
use Rattle.block.proofs.Laws.{Accepted, accepted, starts_cursor}
use Rattle.sources.specs.Source.{source}
use Rattle.outcomes.specs.Outcomes.{Outcome, outcome, plain, at_name}
use Rattle.inner.specs.Next.{next_of}
use Rattle.reads.proofs.Holding.{More}
use Rattle.words.specs.Fronts.{Spans, Said, said}
use Rattle.words.specs.Values.{Name, nobody}
use Rattle.words.specs.Words.{next, Ending, done, unread, stopped, Telling, tell, all_empty, go_on, names_from, telling}
use Rattle.standing.specs.Stands.{Stands, Tells}
use Rattle.standing.specs.Next.{ReadSaid, gives, full, keeps}
use Rattle.standing.proofs.Next.{next_said, ends_said}
use Rattle.demands.specs.Runs as runs
use Rattle.demands.specs.Runs.{Lent, read, left, after, reading, Keeps, Fresh}
use Rattle.demands.specs.ByWords.{ends_with, answer_at, ByWords}
use Rattle.demands.specs.Refusals.{Ready}
use Rattle.demands.proofs.Lemmas.Ways.{ready_reads, ready_holds}
use Rattle.demands.proofs.Lemmas.Keeping.{Sure, after_sure}
use Rattle.numbering.specs.Types.{Rules}

-- names, the newest first, put in their order before others
pub onto : List Name → List Name → List Name
onto [] l = l
onto (n ∷ b) l = onto b (n ∷ l)

onto_length : (b l : List Name) → length (onto b l) ≡ length b + length l
unfolding onto
onto_length [] l = omega arith
onto_length (n ∷ b) l = onto_length b (n ∷ l) ∙ omega arith

onto_next : (b l : List Name) (i : ℕ) → get_or (onto b l) (length b + i) nobody ≡ get_or l i nobody
unfolding onto
onto_next [] l i = let z : 0 + i ≡ i = omega arith in ap (λ (j : ℕ). get_or l j nobody) z
onto_next (n ∷ b) l i = let z : suc (length b) + i ≡ length b + suc i = omega arith in ap (λ (j : ℕ). get_or (onto b (n ∷ l)) j nobody) z ∙ onto_next b (n ∷ l) (suc i)

onto_at : (b l : List Name) (i : ℕ) → i < length b → get_or (onto b l) i nobody ≡ get_or b (length b - 1 - i) nobody
unfolding onto
onto_at [] l i h = absurd (omega (arith, h))
onto_at (n ∷ b) l i h =
    ⊎_elim
    (λ (e : i ≡ length b).
    let a : i ≡ length b + 0 = omega (arith, e) in
    let z : suc (length b) - 1 - i ≡ 0 = omega (arith, e) in
    ap (λ (j : ℕ). get_or (onto b (n ∷ l)) j nobody) a ∙ onto_next b (n ∷ l) 0 ∙ ap (λ (j : ℕ). get_or (n ∷ b) j nobody) (sym z))
    (λ (k : i < length b).
    let z : suc (length b) - 1 - i ≡ suc (length b - 1 - i) = omega (arith, k) in
    onto_at b (n ∷ l) i k ∙ ap (λ (j : ℕ). get_or (n ∷ b) j nobody) (sym z))
    (eq-or-lt_of_le {n = i} {m = length b} (omega (arith, h)))

-- what is kept in z, and what the words say of the rest
pub record Come (rules : Rules) (bytes dir : List ℕ) (b : Telling) (z : Lent) : Type 0 where
  pub sure : Sure bytes dir z
  pub before : List Name
  pub spans : Spans
  pub tells : Tells bytes dir z.cur z.kept before spans
  pub names : onto before (names_from rules (z.kept.state.count - z.kept.state.names) before spans).names ≡ b.names
  pub ending : (names_from rules (z.kept.state.count - z.kept.state.names) before spans).ending ≡ b.ending

-- a fresh start
pub fresh_reached : (rules : Rules) (bytes dir : List ℕ) (count : ℕ) (l : Lent) → Fresh bytes dir count l → Sure bytes dir l → Come rules bytes dir (telling rules bytes dir count) l
unfolding onto telling
fresh_reached rules bytes dir count l f s =
    let o : Accepted (length bytes) dir count f.old f.state l.cur = accepted _ _ _ _ f.opens in
    let e : l.kept.state ≡ state count 0 0 0 = f.begins ∙ o.state in
    let none : l.kept.state.names ≡ 0 = ap (λ (z : State). z.names) e in
    let all : l.kept.state.count - l.kept.state.names ≡ count = omega (arith, none, ap (λ (z : State). z.count) e) in
    record {
      sure = s;
      before = [];
      spans = λ j. part bytes (start_of dir j) (end_of dir j);
      tells = record {
        many = sym none;
        each = λ i h. absurd (omega (arith, h, none));
        left = λ j h. ap (λ (n : ℕ). part bytes n (end_of dir j)) (sym (starts_cursor dir j h) ∙ ap (λ (c : List ℕ). cursor_of c j) (sym o.cursors));
      };
      names = rw all;
      ending = rw all;
    }

module _ (rules : Rules) (bytes dir : List ℕ) (b : Telling) where
  module _ (l : Lent) (r : Come rules bytes dir b l) where
    abbrev k : ℕ
    k = l.kept.state.names

    abbrev count : ℕ
    count = l.kept.state.count

    ready : Ready (source rules bytes dir l.cur) l.kept
    ready = record { opened = r.sure.opened; counts = r.sure.counts }

    reads : read rules bytes dir l ≡ next_of (source rules bytes dir l.cur) l.kept
    unfolding read
    reads = ready_reads _ _ ready

    told_next : (k ≡ count → ⊥) → ReadSaid rules bytes dir l.cur l.kept r.before (read rules bytes dir l) (next rules r.before r.spans)
    told_next n = rw reads (next_said rules bytes dir l.cur l.kept r.before r.spans r.sure.opened r.sure.counts r.sure.fits r.tells n)

    -- a read that keeps a name
    module _ (i : ℕ) (kept : (read rules bytes dir l).answer ≡ Ok (Some i)) where
      more : More l.kept (read rules bytes dir l)
      unfolding read
      more = (ready_holds _ _ ready).more i kept

      kept_said : (o : Outcome) (w : Said Name) → ReadSaid rules bytes dir l.cur l.kept r.before o w → read rules bytes dir l ≡ o → next rules r.before r.spans ≡ w
          → Come rules bytes dir b (left (read rules bytes dir l))
      unfolding at_name left after onto names_from go_on
      kept_said o w (gives q) e f = cc
      kept_said o w (full n spans) e f = cc
      kept_said o w (keeps p n spans a t) e f =
          let left : ℕ = (read rules bytes dir l).kept.state.count - (read rules bytes dir l).kept.state.names in
          let one : count - k ≡ suc left = omega (arith, more.few, more.names, more.count) in
          let whole : names_from rules (count - k) r.before r.spans ≡ tell n (names_from rules left (n ∷ r.before) spans) =
          ap (λ (m : ℕ). names_from rules m r.before r.spans) one ∙ ap (go_on (λ x. names_from rules left (x ∷ r.before))) f in
          record {
            sure = after_sure rules bytes dir l reading r.sure;
            before = n ∷ r.before;
            spans = spans;
            tells = rw e t;
            names = ap (λ (x : Telling). onto r.before x.names) (sym whole) ∙ r.names;
            ending = ap (λ (x : Telling). x.ending) (sym whole) ∙ r.ending;
          }

      kept_reached : Come rules bytes dir b (left (read rules bytes dir l))
      kept_reached = kept_said _ _ (told_next (λ z. omega (arith, z, more.few))) refl refl

  -- so many reads that each keep a name
  pub keeps_reached : (n : ℕ) (l z : Lent) → Keeps rules bytes dir n l z → Come rules bytes dir b l → Come rules bytes dir b z
  keeps_reached n l z (runs.none x) r = r
  keeps_reached n l z (runs.next m i x y e h) r = keeps_reached m _ z h (kept_reached l r i e)

  -- what is kept is what the words say
  module _ (z : Lent) (r : Come rules bytes dir b z) where
    abbrev rest : Telling
    rest = names_from rules (z.kept.state.count - z.kept.state.names) r.before r.spans

    many : length b.names ≡ z.kept.state.names + length rest.names
    many = ap length (sym r.names) ∙ onto_length r.before rest.names ∙ ap (λ (n : ℕ). n + length rest.names) r.tells.many

    is_name : (i : ℕ) → i < z.kept.state.names → get_or r.before (z.kept.state.names - 1 - i) nobody ≡ get_or b.names i nobody
    is_name i h =
        ap (λ (n : ℕ). get_or r.before (n - 1 - i) nobody) (sym r.tells.many) ∙ sym (onto_at r.before rest.names i (omega (arith, h, r.tells.many)))
        ∙ ap (λ (l : List Name). get_or l i nobody) r.names

    abbrev Answers : Type 0
    Answers = ((read rules bytes dir z).answer ≡ answer_at b z.kept.state.names)
        ⊎ ((z.kept.state.names < length b.names) × ((read rules bytes dir z).answer ≡ Err (refusal.At reason.NoRoom z.kept.state.names)))

    -- at the end of the names
    at_ending : (x : Ending) → rest.names ≡ [] → rest.ending ≡ x → (read rules bytes dir z).answer ≡ ends_with z.kept.state.names x → Answers
    unfolding answer_at
    at_ending x e f a =
        let none : length rest.names ≡ 0 = ap length e in
        let last : length b.names ≤ z.kept.state.names = omega (arith, many, none) in
        inl (a ∙ ap (ends_with z.kept.state.names) (sym f ∙ r.ending) ∙ sym (pick_false _ _ (le-ltb _ _ last)))

    -- at a name
    at_name_law : z.kept.state.names < length b.names → (read rules bytes dir z).answer ≡ Ok (Some z.kept.state.names) → Answers
    unfolding answer_at
    at_name_law h a = inl (a ∙ sym (pick_true _ _ (lt-ltb _ _ h)))

    -- all names are read
    all_read : z.kept.state.names ≡ z.kept.state.count → Answers
    unfolding names_from ends_with plain
    all_read e =
        let no : z.kept.state.count - z.kept.state.names ≡ 0 = omega (arith, e) in
        let none : rest ≡ record { names = []; ending = pick (all_empty r.spans) done unread } = ap (λ (n : ℕ). names_from rules n r.before r.spans) no in
        let is : read rules bytes dir z ≡ pick (all_empty r.spans) (outcome (Ok None) z.cur z.kept) (plain (source rules bytes dir z.cur) z.kept reason.Unread) =
        reads z r ∙ ends_said rules bytes dir z.cur z.kept r.before r.spans r.sure.opened r.sure.counts r.sure.fits r.tells e in
        by_test (all_empty r.spans)
        (λ t. at_ending done (ap (λ (x : Telling). x.names) none) (ap (λ (x : Telling). x.ending) none ∙ pick_true _ _ t) (ap (λ (o : Outcome). o.answer) (is ∙ pick_true _ _ t)))
        (λ t. at_ending unread (ap (λ (x : Telling). x.names) none) (ap (λ (x : Telling). x.ending) none ∙ pick_false _ _ t) (ap (λ (o : Outcome). o.answer) (is ∙ pick_false _ _ t)))

    -- there is a name to read
    module _ (on : Name → Spans → Telling) where
      there : (n : Name) (spans : Spans) → rest ≡ go_on on (said n spans) → z.kept.state.names < length b.names
      unfolding go_on
      there n spans is = omega (arith, many, ap (λ (x : Telling). length x.names) is)

      by_said : (o : Outcome) (w : Said Name) → ReadSaid rules bytes dir z.cur z.kept r.before o w → read rules bytes dir z ≡ o → rest ≡ go_on on w → Answers
      unfolding go_on ends_with at_name
      by_said o w (gives q) e is =
          at_ending (stopped q) (ap (λ (x : Telling). x.names) is) (ap (λ (x : Telling). x.ending) is) (ap (λ (x : Outcome). x.answer) e)
      by_said o w (full n spans) e is = inr (there n spans is, ap (λ (x : Outcome). x.answer) e)
      by_said o w (keeps p n spans a t) e is = at_name_law (there n spans is) (ap (λ (x : Outcome). x.answer) e ∙ a)

    said_answers : z.kept.state.names < z.kept.state.count → (o : Outcome) (w : Said Name) → ReadSaid rules bytes dir z.cur z.kept r.before o w
        → read rules bytes dir z ≡ o → next rules r.before r.spans ≡ w → Answers
    unfolding names_from go_on ends_with at_name
    said_answers h o w x e f =
        let left : ℕ = z.kept.state.count - z.kept.state.names - 1 in
        let one : z.kept.state.count - z.kept.state.names ≡ suc left = omega (arith, h) in
        let is : rest ≡ go_on (λ y. names_from rules left (y ∷ r.before)) w =
        ap (λ (m : ℕ). names_from rules m r.before r.spans) one ∙ ap (go_on (λ y. names_from rules left (y ∷ r.before))) f in
        by_said (λ y. names_from rules left (y ∷ r.before)) o w x e is

    pub by_words : ByWords rules bytes dir b z
    by_words = record {
      few = omega (arith, many);
      each = λ i h. subst (Stands z.kept i) (is_name i h) (r.tells.each i h);
      answers =
          ⊎_elim all_read (λ (h : z.kept.state.names < z.kept.state.count). said_answers h _ _ (told_next z r (λ e. omega (arith, e, h))) refl refl)
          (eq-or-lt_of_le {n = z.kept.state.names} {m = z.kept.state.count} r.sure.counts.kept);
    }
