-- Demand 3: from a fresh start on one block, after any sequence of reads and claims, refused ones too.
use Prim.Native.Nat.{ℕ, suc, ◌+◌, ◌-◌, ◌≤◌, ◌<◌}
use Rattle.std.specs.Prelude.{Some, Ok, Err}
use Rattle.refusals.specs.declared.Reason.TheVariants as reason
use mathlib.Core.Path.{◌≡◌, refl, sym, ap, ◌∙◌, subst}
use mathlib.Core.Logic.{⊎_elim}
use mathlib.Core.List.{List, [], ◌∷◌, ◌++◌}
use native.Mathlib.Omega.{arith}
use native.Mathlib.Nat.{add-zero}
use borrow.Author.Tests.{ltb-false}
use lib.Dec.{ltb}
use lib.ListN.{length, replicate}
use Rattle.base.proofs.Choice.{never, pick_true, pick_false, by_test}
use Rattle.block.specs.declared.State.{State}
use Rattle.refusals.specs.declared.Refusal.{Refusal}
use Rattle.block.specs.Block.{state}
use Rattle.refusals.specs.declared.Refusal.TheVariants as refusal
use Rattle.block.proofs.Laws.{open_sound, open_inside, accepted}
use Rattle.words.specs.Words.{telling, Ending, done, unread, stopped, Telling}
use Rattle.demands.specs.ByWords.{ends_with, answer_at, ByWords, AlwaysTold, Ends, over, at, RefusedTold, SameNames}
use Rattle.demands.proofs.Lemmas.Told.{fresh_reached, keeps_reached, by_words}
use Rattle.tables.specs.declared.Entry.{Entry}
use Rattle.tables.specs.Tables.{Kept, entry_at}
use Rattle.kept.specs.Inside.{TextCounted}
use Rattle.kept.proofs.Laws.{counts_text, counts_of, earlier_fits_of}
use Rattle.kept.proofs.Later.{Later, later_same, later_then, entry_later}
use Rattle.sources.specs.Source.{Source, source}
use Rattle.outcomes.specs.Outcomes.{Outcome}
use Rattle.outcomes.specs.Keeping.{kept}
use Rattle.reads.specs.Reads.{read_of}
use Rattle.reading.specs.Blocks.{block_of}
use Rattle.claims.specs.Claims.{name_text}
use Rattle.claims.specs.Causes.{Answerable}
use Rattle.claims.proofs.Laws.{confirmed_of, denied_of, eleven_of, confirmed, thirteen, thirteen_at}
use Rattle.demands.specs.Runs.{Lent, lent, fresh_over, read, left, Reads, Keeps, none, next, Fresh, Call, reading, claiming, after, run, claimed, name_at}
use Rattle.demands.specs.Right.{Demand3, Right, NameRight, Judged, Sane, left_over, by_rules, AlwaysRight, AlwaysJudged, OnlyKept, PlainReads, FirstNames, AlwaysSane, AlwaysDemand3, BlockDemand3, BlockRight}
use Rattle.demands.specs.Refusals.{Why, unsound, uncounted, outside, unread, unnamed, ReadCase, refuses, ends, keeps}
use Rattle.demands.specs.Untouched.{Whole}
use Rattle.demands.proofs.Refusals.{read_why, by_reason}
use Rattle.demands.proofs.Lemmas.Ways.{read_case}
use Rattle.demands.proofs.Lemmas.Keeping.{Sure, sure_right, fresh_sure, after_sure}
use Rattle.demands.proofs.Lemmas.Later.{later_adds, text_later}
use Rattle.demands.proofs.Adds.{read_adds}
use Rattle.demands.proofs.Untouched.{block_reads}
use Rattle.numbering.specs.Types.{Rules}

run_sure : (rules : Rules) (bytes dir : List ℕ) (cs : List Call) (l : Lent) → Sure bytes dir l → Sure bytes dir (run rules bytes dir l cs)
unfolding run
run_sure rules bytes dir [] l s = s
run_sure rules bytes dir (c ∷ cs) l s = run_sure rules bytes dir cs (after rules bytes dir l c) (after_sure rules bytes dir l c s)

-- a read over what is lent keeps a name, or leaves everything as it was
by_way : {P : Type 0} (s : Source) (m : Kept) (o : Outcome) → ReadCase s m o → ((i : ℕ) → o.answer ≡ Ok (Some i) → P) → (left o ≡ lent s.cur m → P) → P
unfolding left kept
by_way s m o (refuses r y) f g = g refl
by_way s m o (ends a b c) f g = g refl
by_way s m o (keeps x first rows d a b c e) f g = f m.state.names refl

pub read_or_not : (rules : Rules) {P : Type 0} (bytes dir : List ℕ) (l : Lent) → ((i : ℕ) → (read rules bytes dir l).answer ≡ Ok (Some i) → P) → (left (read rules bytes dir l) ≡ l → P) → P
unfolding read
read_or_not rules bytes dir l f g = by_way (source rules bytes dir l.cur) l.kept (read_of (source rules bytes dir l.cur) l.kept) (read_case _ _) f g

pub only_kept : OnlyKept
unfolding run after
only_kept rules bytes dir [] l = record { names = 0; reads = none l }
only_kept rules bytes dir (reading ∷ cs) l =
    let h : Reads rules bytes dir (left (read rules bytes dir l)) (run rules bytes dir (left (read rules bytes dir l)) cs) = only_kept rules bytes dir cs (left (read rules bytes dir l)) in
    read_or_not rules bytes dir l
    (λ i e. record { names = suc h.names; reads = next h.names i l _ e h.reads })
    (λ e. subst (λ (z : Lent). Reads rules bytes dir z (run rules bytes dir (left (read rules bytes dir l)) cs)) e h)
only_kept rules bytes dir (claiming n b ∷ cs) l = only_kept rules bytes dir cs l

pub always_told : AlwaysTold
always_told rules bytes dir count l f calls =
    by_words rules bytes dir (telling rules bytes dir count) (run rules bytes dir l calls)
    (keeps_reached rules bytes dir (telling rules bytes dir count) _ l (run rules bytes dir l calls) (only_kept rules bytes dir calls l).reads (fresh_reached rules bytes dir count l f (fresh_sure bytes dir count l f)))

pub always_right : AlwaysRight
always_right rules bytes dir count l f calls =
    sure_right rules bytes dir (telling rules bytes dir count) (run rules bytes dir l calls) (run_sure rules bytes dir calls l (fresh_sure bytes dir count l f)) (always_told rules bytes dir count l f calls)

-- claims over tables that are right
right_judged : (rules : Rules) (bytes dir : List ℕ) (b : Telling) (l : Lent) → Right rules bytes dir b l → (number : ℕ) (claim : List ℕ) → Judged l number claim
unfolding claimed name_at
right_judged rules bytes dir b l r number claim =
    let m : Kept = l.kept in
    let c : TextCounted m.state m.text m.names = counts_text m r.counts in
    let a : number < m.state.names → Answerable number m.state m.text m.names =
    λ h. record { counts = c; below = h; inside = (r.names number h).text } in
    record {
      confirmed = λ h e. confirmed_of number claim m.state m.text m.names (a h) e;
      only = λ q. let y = confirmed number claim m.state m.text m.names q in (y.0.below, y.1);
      denied = λ h n. denied_of number claim m.state m.text m.names (a h) n;
      unread = λ h. eleven_of number claim m.state m.text m.names c h;
      never_13 = (
        λ q. thirteen number claim m.state m.text m.names q c,
        λ q. let y = thirteen_at number claim m.state m.text m.names q in y.1.1 (r.names number y.1.0).text,
      );
    }

pub always_judged : AlwaysJudged
always_judged rules bytes dir count l f calls number claim = right_judged rules bytes dir (telling rules bytes dir count) (run rules bytes dir l calls) (always_right rules bytes dir count l f calls) number claim

pub plain_reads : PlainReads
unfolding run after
plain_reads rules bytes dir n l z (none x) = refl
plain_reads rules bytes dir n l z (next k i x y e h) = plain_reads rules bytes dir k _ z h

module _ (rules : Rules) (bytes dir : List ℕ) where
  pub one_later : (l : Lent) (i : ℕ) → (read rules bytes dir l).answer ≡ Ok (Some i) → Later l.kept (left (read rules bytes dir l)).kept
  unfolding read left
  one_later l i e = later_adds (source rules bytes dir l.cur) l.kept i _ (read_adds (source rules bytes dir l.cur) l.kept i e)

  pub one_name : (l : Lent) (i : ℕ) → (read rules bytes dir l).answer ≡ Ok (Some i) → (left (read rules bytes dir l)).kept.state.names ≡ l.kept.state.names + 1
  unfolding read left
  one_name l i e = ap (λ (x : State). x.names) (read_adds (source rules bytes dir l.cur) l.kept i e).counts

  -- so many reads keep so many names, and what is kept stays
  pub so_many : (n : ℕ) (l z : Lent) → Keeps rules bytes dir n l z → z.kept.state.names ≡ l.kept.state.names + n
  so_many n l z (none x) = sym (add-zero _)
  so_many n l z (next k i x y e h) = so_many k _ z h ∙ omega (arith, one_name l i e)

  keeps_later : (n : ℕ) (l z : Lent) → Keeps rules bytes dir n l z → Later l.kept z.kept
  keeps_later n l z (none x) = later_same l.kept
  keeps_later n l z (next k i x y e h) = later_then l.kept _ z.kept (one_later l i e) (keeps_later k _ z h)

  -- reads that stop where no name is kept go through wherever other reads came
  reads_on : (n k : ℕ) (l z w : Lent) → Keeps rules bytes dir n l z → Keeps rules bytes dir k l w → ((i : ℕ) → (read rules bytes dir w).answer ≡ Ok (Some i) → ⊥) → Reads rules bytes dir z w
  reads_on n k l z w (none x) g s = record { names = k; reads = g }
  reads_on n k l z w (next a i x y e h) (none u) s = absurd (s i e)
  reads_on n k l z w (next a i x y e h) (next b j u v f g) s = reads_on a b _ z w h g s

  -- a name that is kept stays the same name
  name_later : (b : Telling) (n : ℕ) (l z : Lent) → Right rules bytes dir b l → Keeps rules bytes dir n l z → (i : ℕ) → i < l.kept.state.names → name_at l i ≡ name_at z i
  unfolding name_at
  name_later b n l z r k i h =
      let e : Entry = entry_at l.kept.names i in
      let t : Later l.kept z.kept = keeps_later n l z k in
      let n : NameRight l.kept i = r.names i h in
      sym (ap (name_text z.kept.text) (entry_later l.kept z.kept t i h)
      ∙ text_later l.kept z.kept t e n.text)

pub first_names : FirstNames
unfolding left
first_names s m count st cur e calls i h =
    let l : Lent = fresh_over m st cur in
    let z : Lent = run s.rules s.bytes s.dir l calls in
    let r : Right s.rules s.bytes s.dir (telling s.rules s.bytes s.dir count) z = always_right s.rules s.bytes s.dir count l (record { old = s.cur; state = st; opens = e; begins = refl }) calls in
    let b : Whole s.rules s.bytes s.dir l (block_of s m count) = block_reads s m count st cur e in
    let k : Reads s.rules s.bytes s.dir l z = only_kept s.rules s.bytes s.dir calls l in
    let g : Reads s.rules s.bytes s.dir z b.last = reads_on s.rules s.bytes s.dir _ _ l z b.last k.reads b.before (λ j q. b.stops j (b.answers ∙ q)) in
    let n : z.kept.state.names + g.names ≡ b.last.kept.state.names = sym (so_many s.rules s.bytes s.dir _ z b.last g.reads) in
    let u : left (block_of s m count) ≡ b.last = b.stays in (
      omega (arith, ap (λ (x : Lent). x.kept.state.names) u),
      name_later s.rules s.bytes s.dir _ g.names z b.last r g.reads i h ∙ ap (λ (x : Lent). name_at x i) (sym u),
    )

-- a refusal of a read over tables that are right: 10 for what is left unread, or one that the rules give for the name being read
refusal_right : (rules : Rules) (bytes dir : List ℕ) (t : Telling) (l : Lent) → Right rules bytes dir t l → (q : Refusal) → Why (source rules bytes dir l.cur) l.kept q → Sane l q
refusal_right rules bytes dir t l r q (unsound a) = absurd (never (sym a ∙ open_sound bytes dir l.cur r.opened))
refusal_right rules bytes dir t l r q (uncounted a b) = absurd (never (sym b ∙ counts_of l.kept r.counts))
refusal_right rules bytes dir t l r q (outside a b c) = absurd (never (sym c ∙ open_inside bytes dir l.cur r.opened))
refusal_right rules bytes dir t l r q (unread a b c) = left_over b
refusal_right rules bytes dir t l r q (unnamed k a b c) =
    by_reason (source rules bytes dir l.cur) l.kept k c (by_rules k)
    (λ d h f e.
    let i : ℕ = l.kept.state.names - d in
    let n : NameRight l.kept i = r.names i (omega (arith, h.0, h.1)) in
    absurd (never (sym f ∙ earlier_fits_of l.kept i (record {
      text = n.text;
      rows = n.rows;
      each = λ j a b. (r.rows j (omega (arith, n.rows.ends))).fits;
    }))))

-- the count that a fresh start notes
fresh_count : (bytes dir : List ℕ) (count : ℕ) (l : Lent) → Fresh bytes dir count l → l.kept.state.count ≡ count
fresh_count bytes dir count l f = ap (λ (x : State). x.count) (f.begins ∙ (accepted (length bytes) dir count f.old f.opens).state)

pub same_names : SameNames
unfolding name_at name_text
same_names rules bytes dir count l w f g calls others i h k =
    let a = (always_told rules bytes dir count l f calls).each i h in
    let b = (always_told rules bytes dir count w g others).each i k in
    record { name = _; one = a; other = b; bytes = a.text ∙ sym b.text }

-- how the words end a block is how the read that meets it is refused
module _ (b : Telling) (z : Lent) (all : z.kept.state.names ≡ length b.names) where
  ends_of : (x : Ending) → b.ending ≡ x → (q : Refusal) → ends_with z.kept.state.names x ≡ Err q → Ends b z q
  unfolding ends_with
  ends_of done e q a = cc
  ends_of unread e q a = let w : refusal.Plain reason.Unread ≡ q = cc in subst (Ends b z) w (over all e)
  ends_of (stopped r) e q a =
      let w : refusal.At r z.kept.state.names ≡ q = cc in
      subst (Ends b z) w (at r z.kept.state.names (record { all = all; number = all; ending = e }))

-- a read over what the words tell that is refused otherwise than with 9 is refused as they say that the block ends
pub ends_told : (rules : Rules) (bytes dir : List ℕ) (b : Telling) (z : Lent) → ByWords rules bytes dir b z → (q : Refusal) → ((n : ℕ) → q ≡ refusal.At reason.NoRoom n → ⊥)
    → (read rules bytes dir z).answer ≡ Err q → Ends b z q
unfolding answer_at
ends_told rules bytes dir b z t q h e =
    let k : ℕ = z.kept.state.names in
    ⊎_elim
    (λ (a : (read rules bytes dir z).answer ≡ answer_at b k).
    by_test (ltb k (length b.names))
    (λ y. let w : Ok (Some k) ≡ Err q = sym (pick_true _ _ y) ∙ sym a ∙ e in cc)
    (λ y.
    let last : length b.names ≤ k = ltb-false _ _ y in
    ends_of b z (omega (arith, last, t.few)) b.ending refl q (sym (pick_false _ _ y) ∙ sym a ∙ e)))
    (λ (a : (k < length b.names) × ((read rules bytes dir z).answer ≡ Err (refusal.At reason.NoRoom k))).
    let w : Err (refusal.At reason.NoRoom k) ≡ Err q = sym a.1 ∙ e in
    let x : q ≡ refusal.At reason.NoRoom k = cc in absurd (h k x))
    t.answers

pub refused_told : RefusedTold
refused_told rules bytes dir count l f calls =
    ends_told rules bytes dir (telling rules bytes dir count) (run rules bytes dir l calls) (always_told rules bytes dir count l f calls)

pub always_sane : AlwaysSane
unfolding read
always_sane rules bytes dir count l f calls q e =
    refusal_right rules bytes dir (telling rules bytes dir count) (run rules bytes dir l calls) (always_right rules bytes dir count l f calls) q (read_why _ _ q e)

pub demand_3 : AlwaysDemand3
demand_3 rules bytes dir count l f calls = record {
  right = subst (λ (n : ℕ). Right rules bytes dir (telling rules bytes dir n) (run rules bytes dir l calls)) (sym (fresh_count bytes dir count l f)) (always_right rules bytes dir count l f calls);
  claims = always_judged rules bytes dir count l f calls;
  reads = only_kept rules bytes dir calls l;
  refusals = always_sane rules bytes dir count l f calls;
}

-- calls after calls
run_then : (rules : Rules) (bytes dir : List ℕ) (before calls : List Call) (l : Lent) → run rules bytes dir l (before ++ calls) ≡ run rules bytes dir (run rules bytes dir l before) calls
unfolding run
run_then rules bytes dir [] calls l = refl
run_then rules bytes dir (c ∷ cs) calls l = run_then rules bytes dir cs calls (after rules bytes dir l c)

pub block_demand_3 : BlockDemand3
block_demand_3 s m count st cur e calls =
    let l : Lent = fresh_over m st cur in
    let b : Whole s.rules s.bytes s.dir l (block_of s m count) = block_reads s m count st cur e in
    let same : run s.rules s.bytes s.dir l (replicate b.names reading) ≡ left (block_of s m count) =
    plain_reads s.rules s.bytes s.dir b.names l b.last b.before ∙ sym b.stays in
    subst (Demand3 s.rules s.bytes s.dir l)
    (run_then s.rules s.bytes s.dir (replicate b.names reading) calls l ∙ ap (λ (z : Lent). run s.rules s.bytes s.dir z calls) same)
    (demand_3 s.rules s.bytes s.dir count l (record { old = s.cur; state = st; opens = e; begins = refl }) (replicate b.names reading ++ calls))

pub block_right : BlockRight
unfolding run
block_right s m count st cur e = (block_demand_3 s m count st cur e []).right
