-- The rows that DIFF goes by: what is known of them, and that a DIFF over them is the DIFF that is judged.
use Prim.Native.Nat.{ℕ, ◌+◌, ◌-◌, ◌≤◌, ◌<◌}
use Rattle.earlier.specs.Back.{Back, none, rows_of, said_back, none_or_fits, back_of}
use Rattle.std.specs.Prelude.{Ok, Err}
use Rattle.refusals.specs.declared.Reason.{Reason}
use Rattle.refusals.specs.declared.Reason.TheVariants as reason
use mathlib.Core.Path.{◌≡◌, refl, sym, ap, ◌∙◌, subst}
use mathlib.Core.Bool.{Bool, true}
use mathlib.Core.List.{List, []}
use native.Mathlib.Omega.{arith}
use borrow.Author.Tests.{eq-eqb, ne_eqb}
use lib.Dec.{eqb}
use Rattle.base.specs.Choice.{pick, either}
use Rattle.base.proofs.Choice.{took, left}
use Rattle.block.specs.declared.State.{State}
use Rattle.numbering.specs.Types.{Rules}
use Rattle.tables.specs.Tables.{keeping, Table}
use Rattle.kept.specs.Inside.{Counted}
use Rattle.kept.proofs.Laws.{earlier_text}
use Rattle.sources.specs.Source.{source, earlier}
use Rattle.repeats.specs.Sound.{Rows}
use Rattle.repeats.proofs.Laws.{rows_none}
use Rattle.repeating.specs.Repeats.{Repeats}
use Rattle.earlier.specs.declared.Rows as said
use Rattle.earlier.specs.Fits.{AllFit, Known}
use Rattle.earlier.proofs.Leaning.{back_entry, back_all, back_holds}
use Rattle.entries.specs.declared.Reading.{Reading}
use Rattle.outcomes.specs.Outcomes.{Outcome, outcome, refusing, at_name}
use Rattle.outcomes.proofs.Keeping.{refused_at_law}
use Rattle.naming.specs.Naming.{diff_of}
use Rattle.naming.proofs.Walking.{none_spelt}
use Rattle.dupdiff.specs.Judged.{diff_judged}
use Rattle.dupdiff.proofs.Earlier.{back_rows, back_spelt}

-- what is known to fit, fits whatever the text is, and then DIFF goes by what the earlier name's entry says
all_fit : (st : State) (text names : List ℕ) (rows : Table) {known : Bool} → Known known (keeping st text names rows) → known ≡ true → AllFit (keeping st [] names rows)
all_fit st text names rows k q i l = earlier_text st [] text names rows i ∙ (k q).0 i l

pub back_known : (st : State) (text names : List ℕ) (rows : Table) (d : ℕ) {known : Bool} → Known known (keeping st text names rows) → known ≡ true → d ≤ st.names
    → {r : said.Rows} → r ≡ said_back names st.names d → Ok r ≡ back_of (keeping st [] names rows) d
back_known st text names rows d k q near e =
    ap Ok e ∙ back_all (keeping st [] names rows) d (all_fit st text names rows k q) near

module _ (text : List ℕ) (rows : Table) (st : State) (known : Bool) where
  -- what DIFF requires of its rows
  Leant : Back → Type 0
  Leant (Ok b) = (Rows st.text (earlier text rows b.first b.count) × (b.first + b.count ≤ st.rows)) × Repeats known (earlier text rows b.first b.count)
  Leant (Err n) = Unit

module _ (rules : Rules) (bytes dir cur text names : List ℕ) (rows : Table) (st : State) (d : ℕ) where
  -- what the kept text is doesn't matter
  same_back : back_of (keeping st [] names rows) d ≡ back_of (keeping st text names rows) d
  unfolding back_of none_or_fits
  same_back =
      ap (λ (x : Bool). pick (either (eqb d 0) x) (Ok (said_back names st.names d)) (Err reason.Outside))
      (earlier_text st [] text names rows (st.names - d))

  -- a DIFF over them
  over : Back → Outcome
  over (Ok b) = diff_of (source rules bytes dir cur) (keeping st text names rows) d (earlier text rows b.first b.count)
  over (Err n) = at_name (source rules bytes dir cur) (keeping st text names rows) n

  over_judged : over (back_of (keeping st text names rows) d) ≡ diff_judged (source rules bytes dir cur) (keeping st text names rows) d
  unfolding none rows_of over
  over_judged =
      back_holds (keeping st text names rows) d (λ (x : Back). over x ≡ diff_judged (source rules bytes dir cur) (keeping st text names rows) d)
      (λ z. took _ _ (eq-eqb d 0 z) (ap (λ (x : ℕ). diff_of (source rules bytes dir cur) (keeping st text names rows) x (earlier text rows 0 0)) z))
      (λ z g. left _ _ (ne_eqb _ _ z) (took _ _ g refl))
      (λ z g. left _ _ (ne_eqb _ _ z) (left _ _ g refl))

  module _ {b : Back} (e : b ≡ back_of (keeping st [] names rows) d) where
    pub diff_over : {f n : ℕ} → b ≡ Ok (record { first = f; count = n }) → {o : Outcome} → o ≡ diff_of (source rules bytes dir cur) (keeping st text names rows) d (earlier text rows f n)
        → o ≡ diff_judged (source rules bytes dir cur) (keeping st text names rows) d
    unfolding over
    diff_over h q = q ∙ ap over (sym h ∙ e ∙ same_back) ∙ over_judged

    pub diff_outside : {n : Reason} → b ≡ Err n → {r : Reading} → r ≡ refusing st n
        → outcome r.answer cur (keeping r.state text names rows) ≡ diff_judged (source rules bytes dir cur) (keeping st text names rows) d
    unfolding over
    diff_outside h q = refused_at_law rules bytes dir cur text names rows st _ q ∙ ap over (sym h ∙ e ∙ same_back) ∙ over_judged

    module _ (c : Counted (keeping st text names rows)) (near : d ≤ st.names) {known : Bool} (k : Known known (keeping st text names rows)) where
      leant : Leant text rows st known (back_of (keeping st text names rows) d)
      unfolding Leant
      leant =
          back_holds (keeping st text names rows) d (Leant text rows st known)
          (λ z. ((rows_none _ _ _ c.used, omega arith), λ q. none_spelt _ _))
          (λ z g.
          let n : st.names - d < st.names = omega arith in
          let x = back_entry (keeping st text names rows) d in
          (back_rows st text names rows (st.names - d) c n g x, back_spelt st text names rows (st.names - d) c n k x))
          (λ z g. tt)

      pub leant_rows : {f n : ℕ} → b ≡ Ok (record { first = f; count = n }) → (Rows st.text (earlier text rows f n) × (f + n ≤ st.rows)) × Repeats known (earlier text rows f n)
      unfolding Leant
      leant_rows h = subst (Leant text rows st known) (sym same_back ∙ sym e ∙ h) leant
