-- Each refusal is given exactly where the words apply: what a call comes to has its cause (`open_case`, `write_case`, `read_case` of Lemmas/Ways),
-- and the cause gives what it comes to (`case_opens`, `case_writes`, `case_reads`). The causes of refusals are in specs/Refusals;
-- those inside a name, 2, 3 and 5 to 8, are in specs/Stops and are proved in both directions in Lemmas/Stops.
use Prim.Native.Nat.{ℕ, zero, suc, ◌+◌, ◌-◌, ◌≤◌, ◌<◌}
use Rattle.inputs.specs.Inputs.{Judged}
use Rattle.std.specs.Prelude.{Some, None, Ok, Err}
use Rattle.refusals.specs.declared.Reason.{Reason}
use Rattle.refusals.specs.declared.Reason.TheVariants as reason
use Rattle.distances.specs.declared.Reference.TheVariants as reference
use mathlib.Core.Path.{◌≡◌, refl, sym, ap, ◌∙◌, subst}
use mathlib.Core.Bool.{true, false}
use mathlib.Core.List.{List, [], ◌∷◌}
use mathlib.Core.Logic.{⊎_elim}
use native.Mathlib.Omega.{arith}
use borrow.Author.Tests.{leb-true, leb-false, eqb-true, eqb-false, le-leb, lt-leb, eq-eqb, ne_eqb}
use lib.Dec.{leb, eqb}
use lib.ListN.{length, get_or}
use Rattle.base.specs.Choice.{pick}
use Rattle.base.proofs.Choice.{pick_true, pick_false, pick_holds, both_true, both_of, by_test, fails, never}
use Rattle.base.proofs.Numbers.{lt_or_ge}
use Rattle.refusals.specs.declared.Refusal.{Refusal}
use Rattle.refusals.specs.declared.Refusal.TheVariants as refusal
use Rattle.block.specs.Block.{Opening, sound}
use Rattle.block.proofs.Laws.{opens_unsound, opens_many, opens_fresh}
use Rattle.block.specs.Streams.{dup_stream, diff_stream}
use Rattle.tables.specs.Tables.{Kept}
use Rattle.kept.specs.Judgement.{earlier_fits}
use Rattle.kept.proofs.Laws.{earlier_fits_of}
use Rattle.numbering.specs.Types.{Rules}
use Rattle.numbering.proofs.Laws.{dup_not_diff}
use Rattle.sources.specs.Source.{Source, Earlier}
use Rattle.names.specs.Names.{Draft, refused}
use Rattle.outcomes.specs.Outcomes.{Outcome, outcome, plain, at_name}
use Rattle.outcomes.specs.Keeping.{kept, keep_of}
use Rattle.distances.specs.Distances.{dup_fits, diff_fits, dup_head, diff_head}
use Rattle.heads.specs.Heads.{typed_head, head_of}
use Rattle.copying.specs.Copies.{dup_of}
use Rattle.naming.specs.Naming.{named_of, diff_of}
use Rattle.earlier.specs.Back.{entry_back}
use Rattle.inner.specs.Next.{headed_of, next_of}
use Rattle.reads.specs.Reads.{read_of}
use Rattle.laying.specs.Puts.{total_of}
use Rattle.inputs.specs.Inputs.{names_of, ended, good_name, judged_from}
use Rattle.nameputs.specs.NamePuts.{puts_of}
use Rattle.writing.specs.Writes.{countable, laid_of, judged_of, write_of}
use Rattle.demands.specs.Refusals.{OpenCase, opens_1, opens_12, opens, OpenHasCase, CaseOpens, Countable, FirstBad, AllGood, WriteCase, writes_1, writes_12, writes_8, writes_9, writes, WriteHasCase, CaseWrites, Ready, is_dup, is_diff, Heads, Back, Rule2, dup_back, diff_none, diff_back, HeadStop, no_type, no_head, no_distance, off_rule, Leans, on_none, on_earlier, Origin, copied, walked, NameRefused, by_head, by_memory, by_token, by_room, Why, unsound, uncounted, outside, unread, unnamed, ReadCase, refuses, ends, keeps, CaseReads, CarriesNumber, ByRule, dup_in, diff_in}
use Rattle.demands.specs.Stops.{OneStop}
use Rattle.demands.proofs.Lemmas.Stops.{stops_name, stop_number}
use Rattle.demands.proofs.Lemmas.Ways.{back_of_law, of_back, rule_diff, diff_rule, ready_reads, read_case}

-- opening
pub open_case : OpenHasCase
open_case len dir count cur =
    let P : Opening → Type 0 = OpenCase len dir count cur in
    by_test (sound len dir cur)
    (λ a. ⊎_elim
    (λ (h : 65536 < count). subst P (opens_many len dir count cur a h) (opens_12 a h))
    (λ (h : count ≤ 65536). subst P (opens_fresh len dir count cur a h) (opens a h))
    (lt_or_ge 65536 count))
    (λ a. subst P (opens_unsound len dir count cur a) (opens_1 a))

pub case_opens : CaseOpens
case_opens len dir count cur o (opens_1 a) = sym (opens_unsound len dir count cur a)
case_opens len dir count cur o (opens_12 a h) = sym (opens_many len dir count cur a h)
case_opens len dir count cur o (opens a h) = sym (opens_fresh len dir count cur a h)

-- writing: the names from name k on
data NamesCase (k : ℕ) (names : List (List ℕ)) : Judged → Type 0 where
  all_fine_law : AllGood names → NamesCase k names None
  one_bad : (n i : ℕ) → FirstBad names n → i ≡ k + n → NamesCase k names (Some i)

all_good : (s : List ℕ) (ss : List (List ℕ)) → good_name s ≡ true → AllGood ss → AllGood (s ∷ ss)
all_good s ss g h zero l = g
all_good s ss g h (suc i) l = h i (omega arith)

good_before : (s : List ℕ) (ss : List (List ℕ)) (n : ℕ) → good_name s ≡ true → FirstBad ss n → (i : ℕ) → i < suc n → good_name (get_or (s ∷ ss) i []) ≡ true
good_before s ss n g b zero l = g
good_before s ss n g b (suc i) l = b.before i (omega arith)

next_names : (k : ℕ) (s : List ℕ) (ss : List (List ℕ)) (j : Judged) → good_name s ≡ true → NamesCase (k + 1) ss j → NamesCase k (s ∷ ss) j
next_names k s ss j g (all_fine_law h) = all_fine_law (all_good s ss g h)
next_names k s ss j g (one_bad n i b e) = one_bad (suc n) i (record { there = omega (arith, b.there); bad = b.bad; before = good_before s ss n g b }) (omega arith)

names_case : (names : List (List ℕ)) (k : ℕ) → NamesCase k names (judged_from k names)
unfolding judged_from
names_case [] k = all_fine_law (λ i h. absurd (omega arith))
names_case (s ∷ ss) k =
    pick_holds (NamesCase k (s ∷ ss)) (good_name s) _ _ (λ e. next_names k s ss _ e (names_case ss (k + 1)))
    (λ e. one_bad 0 k (record { there = omega arith; bad = e; before = λ i h. absurd (omega arith) }) (omega arith))

case_names : (names : List (List ℕ)) (k : ℕ) (j : Judged) → NamesCase k names j → judged_from k names ≡ j
unfolding judged_from
case_names [] k j (all_fine_law h) = refl
case_names [] k j (one_bad n i b e) = absurd (omega (arith, b.there))
case_names (s ∷ ss) k j (all_fine_law h) = pick_true _ _ (h 0 (omega arith)) ∙ case_names ss (k + 1) None (all_fine_law (λ i l. h (suc i) (omega arith)))
case_names (s ∷ ss) k j (one_bad zero i b e) = pick_false _ _ b.bad ∙ ap Some (omega arith)
case_names (s ∷ ss) k j (one_bad (suc n) i b e) =
    pick_true _ _ (b.before 0 (omega arith))
    ∙ case_names ss (k + 1) (Some i) (one_bad n i (record { there = omega (arith, b.there); bad = b.bad; before = λ a l. b.before (suc a) (omega arith) }) (omega arith))

counted : (input : List ℕ) → countable input ≡ true → Countable input
unfolding countable
counted input e = let h = both_true (ended input) (leb (length (names_of input)) 65536) e in (h.0, leb-true _ _ h.1)

counts_of : (input : List ℕ) → Countable input → countable input ≡ true
unfolding countable
counts_of input c = both_of c.0 (le-leb _ _ c.1)

module _ (rules : Rules) (input dir bytes : List ℕ) where
  judged_case : length dir ≡ 2580 → Countable input → (j : Judged) → NamesCase 0 (names_of input) j → WriteCase rules input dir bytes (judged_of rules j (names_of input) dir bytes)
  unfolding judged_of laid_of
  judged_case a c j (all_fine_law h) =
      pick_holds (WriteCase rules input dir bytes) (leb (total_of (puts_of rules (names_of input))) (length bytes)) _ _ (λ e. writes a c h (leb-true _ _ e)) (λ e. writes_9 a c h (leb-false _ _ e))
  judged_case a c j (one_bad n i b e) = writes_8 i a c (subst (FirstBad (names_of input)) (let z : n ≡ i = omega arith in z) b)

  judges : length dir ≡ 2580 → Countable input → (j : Judged) → NamesCase 0 (names_of input) j → write_of rules input dir bytes ≡ judged_of rules j (names_of input) dir bytes
  unfolding write_of
  judges a c j h =
      pick_true _ _ (eq-eqb _ _ a) ∙ pick_true _ _ (counts_of input c) ∙ ap (λ (x : Judged). judged_of rules x (names_of input) dir bytes) (case_names (names_of input) 0 j h)

pub write_case : WriteHasCase
unfolding write_of
write_case rules input dir bytes =
    pick_holds (WriteCase rules input dir bytes) (eqb (length dir) 2580) _ _
    (λ a. pick_holds (WriteCase rules input dir bytes) (countable input) _ _
    (λ b. judged_case rules input dir bytes (eqb-true _ _ a) (counted input b) _ (names_case (names_of input) 0))
    (λ b. writes_12 (eqb-true _ _ a) (λ c. never (sym b ∙ counts_of input c))))
    (λ a. writes_1 (eqb-false _ _ a))

pub case_writes : CaseWrites
unfolding write_of judged_of laid_of
case_writes rules input dir bytes w (writes_1 a) = pick_false _ _ (ne_eqb _ _ a)
case_writes rules input dir bytes w (writes_12 a n) = pick_true _ _ (eq-eqb _ _ a) ∙ pick_false _ _ (fails (λ t. n (counted input t)))
case_writes rules input dir bytes w (writes_8 n a c b) = judges rules input dir bytes a c (Some n) (one_bad n n b (omega arith))
case_writes rules input dir bytes w (writes_9 a c h l) = judges rules input dir bytes a c None (all_fine_law h) ∙ pick_false _ _ (lt-leb _ _ l)
case_writes rules input dir bytes w (writes a c h l) = judges rules input dir bytes a c None (all_fine_law h) ∙ pick_true _ _ (le-leb _ _ l)

-- reading inside a name
pub one_stop : OneStop
one_stop s e p a r q b t h c i d =
    let u : refused r ≡ refused t = sym (stops_name s e 0 [] p a r h c) ∙ stops_name s e 0 [] q b t i d in
    let z : r ≡ t = cc in
    z

-- reading: position 0
module _ (s : Source) (n : ℕ) where
  dup_typed : (d : ℕ) → Heads s (dup_in s) dup_stream d → head_of s n ≡ pick (dup_fits d n) (Ok (reference.Dup (record { 0 = d }))) (Err reason.BadDistance)
  unfolding head_of typed_head dup_head
  dup_typed d h = ap (typed_head s n) h.type ∙ pick_true _ _ (eq-eqb (dup_in s) (dup_in s) refl) ∙ ap (dup_head n) h.distance

  diff_typed : (d : ℕ) → Heads s (diff_in s) diff_stream d → head_of s n ≡ pick (diff_fits d n) (Ok (reference.Diff (record { 0 = d }))) (Err reason.BadDistance)
  unfolding head_of typed_head diff_head
  diff_typed d h = ap (typed_head s n) h.type ∙ pick_false _ _ (ne_eqb (diff_in s) (dup_in s) (dup_not_diff s.rules.numbers)) ∙ pick_true _ _ (eq-eqb (diff_in s) (diff_in s) refl) ∙ ap (diff_head n) h.distance

  head_stops : (r : Reason) → HeadStop s n r → head_of s n ≡ Err r
  unfolding head_of typed_head dup_head diff_head
  head_stops r (no_type e) = ap (typed_head s n) e
  head_stops r (no_head t c e a b) = ap (typed_head s n) e ∙ pick_false _ _ (ne_eqb t (dup_in s) a) ∙ pick_false _ _ (ne_eqb t (diff_in s) b)
  head_stops r (no_distance t i c e is_dup f) = ap (typed_head s n) e ∙ pick_true _ _ (eq-eqb (dup_in s) (dup_in s) refl) ∙ ap (dup_head n) f
  head_stops r (no_distance t i c e is_diff f) =
      ap (typed_head s n) e ∙ pick_false _ _ (ne_eqb (diff_in s) (dup_in s) (dup_not_diff s.rules.numbers)) ∙ pick_true _ _ (eq-eqb (diff_in s) (diff_in s) refl) ∙ ap (diff_head n) f
  head_stops r (off_rule t i d h is_dup q) = dup_typed d h ∙ pick_false _ _ (fails (λ e. q (dup_back refl (back_of_law n d e))))
  head_stops r (off_rule t i d h is_diff q) = diff_typed d h ∙ pick_false _ _ (fails (λ e. q (diff_rule s n d e)))

  head_dup : (d : ℕ) → Heads s (dup_in s) dup_stream d → Back n d → head_of s n ≡ Ok (reference.Dup (record { 0 = d }))
  head_dup d h b = dup_typed d h ∙ pick_true _ _ (of_back n d b)

  head_diff : (d : ℕ) → Heads s (diff_in s) diff_stream d → Rule2 s n (diff_in s) d → head_of s n ≡ Ok (reference.Diff (record { 0 = d }))
  head_diff d h b = diff_typed d h ∙ pick_true _ _ (rule_diff s n d b)

-- the name
module _ (s : Source) (m : Kept) where
  abbrev name_read : Outcome
  name_read = headed_of s m (head_of s m.state.names)

  leans_reads : (d : ℕ) (e : Earlier) → Leans s m d e → name_read ≡ diff_of s m d e
  unfolding headed_of entry_back
  leans_reads d e (on_none h) = ap (headed_of s m) (head_diff s _ 0 h (diff_none refl refl)) ∙ pick_true _ _ (eq-eqb 0 0 refl)
  leans_reads d e (on_earlier x h b f) =
      ap (headed_of s m) (head_diff s _ d h (diff_back refl b)) ∙ pick_false _ _ (ne_eqb d 0 (λ z. omega (arith, b.0))) ∙ pick_true _ _ (earlier_fits_of m _ f)

  origin_reads : (x : Draft) (first rows d : ℕ) → Origin s m x first rows d → name_read ≡ keep_of s m x first rows d
  unfolding headed_of entry_back dup_of diff_of named_of
  origin_reads x first rows d (copied y h b f) = ap (headed_of s m) (head_dup s _ d h b) ∙ pick_true _ _ (earlier_fits_of m _ f)
  origin_reads x first rows d (walked y z e l q) = leans_reads d e l ∙ ap (named_of s m d) q

  reason_reads : (r : Reason) → NameRefused s m r → name_read ≡ at_name s m r
  unfolding headed_of diff_of named_of keep_of
  reason_reads r (by_head x q) = ap (headed_of s m) (head_stops s _ r q)
  reason_reads r (by_memory t i d h is_dup b f) = ap (headed_of s m) (head_dup s _ d h b) ∙ pick_false _ _ f
  reason_reads r (by_memory t i d h is_diff b f) =
      ap (headed_of s m) (head_diff s _ d h (diff_back refl b)) ∙ pick_false _ _ (ne_eqb d 0 (λ z. omega (arith, b.0))) ∙ pick_false _ _ f
  reason_reads r (by_token x d p len e l h c) = leans_reads d e l ∙ ap (named_of s m d) (stops_name s e _ _ p len r h c)
  reason_reads r (by_room x first rows d o f) = origin_reads x first rows d o ∙ pick_false _ _ f

  name_reads : Ready s m → (m.state.names ≡ m.state.count → ⊥) → read_of s m ≡ name_read
  unfolding next_of
  name_reads a b = ready_reads s m a ∙ pick_false _ _ (ne_eqb _ _ b)

  -- a DIFF, by the rows that it goes by
  pub leans_read : Ready s m → (m.state.names ≡ m.state.count → ⊥) → (d : ℕ) (e : Earlier) → Leans s m d e → read_of s m ≡ diff_of s m d e
  leans_read a b d e l = name_reads a b ∙ leans_reads d e l

  why_reads : (r : Refusal) → Why s m r → read_of s m ≡ outcome (Err r) s.cur m
  unfolding read_of next_of plain at_name
  why_reads r (unsound a) = pick_false _ _ a
  why_reads r (uncounted a b) = pick_true _ _ a ∙ pick_false _ _ b
  why_reads r (outside a b c) = pick_true _ _ a ∙ pick_true _ _ b ∙ pick_false _ _ c
  why_reads r (unread a b c) = ready_reads s m a ∙ pick_true _ _ (eq-eqb _ _ b) ∙ pick_false _ _ c
  why_reads r (unnamed n a b c) = name_reads a b ∙ reason_reads n c

pub case_reads : CaseReads
unfolding next_of keep_of
case_reads s m o (refuses r y) = why_reads s m r y
case_reads s m o (ends a b c) = ready_reads s m a ∙ pick_true _ _ (eq-eqb _ _ b) ∙ pick_true _ _ c
case_reads s m o (keeps x first rows d a b g f) = name_reads s m a b ∙ origin_reads s m x first rows d g ∙ pick_true _ _ f

why_way : (s : Source) (m : Kept) (r : Refusal) (o : Outcome) → ReadCase s m o → o.answer ≡ Err r → Why s m r
unfolding kept
why_way s m r o (refuses q y) e = let z : q ≡ r = cc in subst (Why s m) z y
why_way s m r o (ends a b c) e = cc
why_way s m r o (keeps x first rows d a b c f) e = cc

-- a refusal's reason
pub read_why : (s : Source) (m : Kept) (r : Refusal) → (read_of s m).answer ≡ Err r → Why s m r
read_why s m r e = why_way s m r (read_of s m) (read_case s m) e

-- one that carries a name is of the name being read, and has its reason
why_named : (s : Source) (m : Kept) (r : Reason) (n : ℕ) (q : Refusal) → Why s m q → q ≡ refusal.At r n → (n ≡ m.state.names) × NameRefused s m r
why_named s m r n q (unsound a) e = cc
why_named s m r n q (uncounted a b) e = cc
why_named s m r n q (outside a b c) e = cc
why_named s m r n q (unread a b c) e = cc
why_named s m r n q (unnamed k a b c) e = let z : k ≡ r = cc in (cc, subst (NameRefused s m) z c)

pub read_named : (s : Source) (m : Kept) (r : Reason) (n : ℕ) → (read_of s m).answer ≡ Err (refusal.At r n) → (n ≡ m.state.names) × NameRefused s m r
read_named s m r n e = why_named s m r n (refusal.At r n) (read_why s m (refusal.At r n) e) refl

pub carries_number : CarriesNumber
carries_number s m r n e = (read_named s m r n e).0

-- the reason of a refusal of the name being read: 2 to 9, or 13 for the earlier name
head_rule : (s : Source) (n : ℕ) (r : Reason) → HeadStop s n r → ByRule r
head_rule s n r (no_type e) = (omega arith, omega arith)
head_rule s n r (no_head t c e a b) = (omega arith, omega arith)
head_rule s n r (no_distance t i c e h f) = (omega arith, omega arith)
head_rule s n r (off_rule t i d h is q) = (omega arith, omega arith)

pub by_reason : {P : Type 0} (s : Source) (m : Kept) (r : Reason) → NameRefused s m r → (ByRule r → P)
    → ((d : ℕ) → Back m.state.names d → earlier_fits m (m.state.names - d) ≡ false → r ≡ reason.Outside → P) → P
by_reason s m r (by_head x q) f g = f (head_rule s _ r q)
by_reason s m r (by_memory t i d h is b q) f g = g d b q refl
by_reason s m r (by_token x d p len e l h c) f g = let b = stop_number s e p len r c in f (b.0, omega (arith, b.1.0))
by_reason s m r (by_room x first rows d o q) f g = f (omega arith, omega arith)
