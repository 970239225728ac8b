-- The public calls, way by way.
use Prim.Native.Nat.{ℕ, ◌+◌, ◌-◌, ◌<◌}
use Rattle.block.specs.Block.{Opened, opening, open_of, sound, all_inside, verdict, verdict_of}
use Rattle.std.specs.Prelude.{Ok, Err}
use Rattle.refusals.specs.declared.Reason.{Reason}
use Rattle.refusals.specs.declared.Reason.TheVariants as reason
use mathlib.Core.Path.{◌≡◌, sym, ap, ◌∙◌}
use mathlib.Core.Bool.{Bool, true, false}
use mathlib.Core.List.{List}
use mathlib.Core.Logic.{◌⊎◌, inl, inr, ⊎_elim}
use native.Mathlib.Omega.{arith}
use lib.ListN.{length}
use Rattle.base.proofs.Choice.{took, left, by_test, never}
use Rattle.block.specs.declared.State.{State}
use Rattle.refusals.specs.declared.Refusal.{Refusal}
use Rattle.base.specs.Choice.{pick}
use Rattle.block.specs.Open.{Open}
use Rattle.block.proofs.Laws.{judged_open, accepted, accepted_open, verdict_unsound, verdict_outside, verdict_inside}
use Rattle.numbering.specs.Types.{Rules}
use Rattle.tables.specs.Tables.{Kept, keeping, Table}
use Rattle.kept.specs.Judgement.{counts}
use Rattle.kept.specs.Inside.{Counted}
use Rattle.kept.proofs.Laws.{counted, fresh_counted}
use Rattle.sources.specs.Source.{source}
use Rattle.earlier.specs.Fits.{Known}
use Rattle.entries.specs.declared.Reading.{Reading}
use Rattle.outcomes.specs.Outcomes.{Outcome, outcome, refusing_plain, plain}
use Rattle.inner.specs.Next.{next_of}
use Rattle.reads.specs.Reads.{read_of, fresh, reads_from}
use Rattle.reads.proofs.Holding.{read_next}
use Rattle.reading.specs.Blocks.{opened_of, block_of}

-- where nothing is known, nothing is asked
pub unknown : (m : Kept) {b : Bool} → b ≡ false → Known b m
unknown m e q = absurd (never (sym e ∙ q))

-- what a block is refused for
refuses_by : (a b : Bool) {n : Reason} → verdict a b ≡ Err n → (n ≡ reason.Unsound) ⊎ (n ≡ reason.Outside)
unfolding pick
refuses_by true true e = cc
refuses_by true false e = inr (cc)
refuses_by false b e = inl (cc)

-- the public read
module _ (rules : Rules) (bytes dir cur text names : List ℕ) (rows : Table) (st : State) where
  plain_is : {r : Reading} (n : Reason) → r ≡ refusing_plain st n
      → outcome r.answer cur (keeping r.state text names rows) ≡ plain (source rules bytes dir cur) (keeping st text names rows) n
  unfolding refusing_plain plain
  plain_is n q = rw q

  pub read_unsound : {r : Reading} → verdict_of (length bytes) dir cur ≡ Err reason.Unsound → r ≡ refusing_plain st reason.Unsound
      → outcome r.answer cur (keeping r.state text names rows) ≡ read_of (source rules bytes dir cur) (keeping st text names rows)
  unfolding read_of
  read_unsound v q = left _ _ (verdict_unsound (length bytes) dir cur v) (plain_is reason.Unsound q)

  pub read_outside : {r : Reading} → verdict_of (length bytes) dir cur ≡ Err reason.Outside → r ≡ refusing_plain st reason.Outside
      → outcome r.answer cur (keeping r.state text names rows) ≡ read_of (source rules bytes dir cur) (keeping st text names rows)
  unfolding read_of
  read_outside v q =
      let w = verdict_outside (length bytes) dir cur v in
      took _ _ w.0
      (by_test (counts (keeping st text names rows))
      (λ a. took _ _ a (left _ _ w.1 (plain_is reason.Outside q)))
      (λ a. left _ _ a (plain_is reason.Outside q)))

  -- and these are the reasons that there are
  pub read_refused : {r : Reading} {n : Reason} → verdict_of (length bytes) dir cur ≡ Err n → r ≡ refusing_plain st n
      → outcome r.answer cur (keeping r.state text names rows) ≡ read_of (source rules bytes dir cur) (keeping st text names rows)
  unfolding verdict_of
  read_refused v q =
      ⊎_elim
      (λ w. read_unsound (rw w at v) (rw w at q))
      (λ w. read_outside (rw w at v) (rw w at q))
      (refuses_by (sound (length bytes) dir cur) (all_inside dir cur) v)

  module _ (v : verdict_of (length bytes) dir cur ≡ Ok tt) where
    pub read_miscounted : {r : Reading} → counts (keeping st text names rows) ≡ false → r ≡ refusing_plain st reason.Outside
        → outcome r.answer cur (keeping r.state text names rows) ≡ read_of (source rules bytes dir cur) (keeping st text names rows)
    unfolding read_of
    read_miscounted h q = took _ _ (verdict_inside (length bytes) dir cur v).0 (left _ _ h (plain_is reason.Outside q))

    pub read_judged : counts (keeping st text names rows) ≡ true → Open bytes dir cur × Counted (keeping st text names rows)
    read_judged h =
        let w = verdict_inside (length bytes) dir cur v in
        (judged_open bytes dir cur w.0 w.1, counted (keeping st text names rows) h)

    pub read_is : {o : Outcome} → counts (keeping st text names rows) ≡ true → o ≡ next_of (source rules bytes dir cur) (keeping st text names rows)
        → o ≡ read_of (source rules bytes dir cur) (keeping st text names rows)
    read_is h q = let b = read_judged h in q ∙ sym (read_next rules bytes dir cur text names rows st b.0 b.1)

-- a whole block
module _ (rules : Rules) (bytes dir cur text names : List ℕ) (rows : Table) (st : State) (count : ℕ) where
  pub block_refused : {r : Refusal} {cur' : List ℕ} {a : Opened} → opening a cur' ≡ open_of (length bytes) dir count cur → a ≡ Err r
      → outcome (Err r) cur' (keeping st text names rows) ≡ block_of (source rules bytes dir cur) (keeping st text names rows) count
  unfolding block_of opened_of
  block_refused q e = rw (← q, e)

  pub block_starts : {s : State} {cur' : List ℕ} {a : Opened} → opening a cur' ≡ open_of (length bytes) dir count cur → a ≡ Ok s
      → Open bytes dir cur' × (Counted (keeping s text names rows) × Known true (keeping s text names rows))
  block_starts {s} {cur'} q e =
      let p = sym q ∙ ap (λ (x : Opened). opening x cur') e in
      let c = accepted (length bytes) dir count cur p in
      let none : (i : ℕ) → i < s.names → ⊥ = λ i l. omega (arith, ap (λ (x : State). x.names) c.state) in (
        accepted_open bytes dir count cur p,
        (
          rw c.state (fresh_counted count text names rows c.few),
          λ q. (λ i l. absurd (none i l), λ i l. absurd (none i l)),
        ),
      )

  pub block_is : {s : State} {cur' : List ℕ} {a : Opened} {o : Outcome} → opening a cur' ≡ open_of (length bytes) dir count cur → a ≡ Ok s
      → o ≡ reads_from rules bytes dir (s.count - s.names + 1) (fresh cur' (keeping s text names rows))
      → o ≡ block_of (source rules bytes dir cur) (keeping st text names rows) count
  unfolding block_of opened_of
  block_is {s} {cur'} q e r =
      let c = accepted (length bytes) dir count cur (sym q ∙ ap (λ (x : Opened). opening x cur') e) in
      let n : s.count - s.names ≡ count = ap (λ (x : State). x.count - x.names) c.state ∙ omega arith in
      rw (← q, e) (r ∙ ap (λ (x : ℕ). reads_from rules bytes dir (x + 1) (fresh cur' (keeping s text names rows))) n)
