-- An earlier name as the judgement found it, and DUP over it, in a contract's direction.
use Prim.Native.Nat.{ℕ, ◌+◌, ◌-◌, ◌*◌, ◌≤◌, ◌<◌}
use Rattle.refusals.specs.declared.Reason.TheVariants as reason
use mathlib.Core.Path.{◌≡◌, sym, ap, ◌∙◌}
use mathlib.Core.Bool.{Bool, true, false}
use mathlib.Core.List.{List, []}
use native.Mathlib.Omega.{arith}
use lib.ListN.{length}
use Rattle.base.proofs.Choice.{took, left}
use Rattle.block.specs.declared.State.{State}
use Rattle.numbering.specs.Types.{Rules}
use Rattle.tables.specs.declared.Entry.{Entry}
use Rattle.tables.specs.Tables.{entry_size, keeping, entry_at, Table, row_room}
use Rattle.kept.specs.Judgement.{earlier_fits}
use Rattle.kept.specs.Inside.{Counted}
use Rattle.kept.proofs.Laws.{earlier, earlier_text}
use Rattle.kept.specs.Inside as inside
use Rattle.sources.specs.Source.{source}
use Rattle.sources.specs.Source as steps
use Rattle.repeats.specs.Sound.{Rows}
use Rattle.repeats.proofs.Laws.{rows_judged}
use Rattle.repeating.specs.Repeats.{Repeats}
use Rattle.earlier.specs.Fits.{Known}
use Rattle.earlier.specs.Back.{rows_of, entry_back}
use Rattle.earlier.proofs.Leaning.{back_entry}
use Rattle.entries.specs.declared.Reading.{Reading}
use Rattle.outcomes.specs.Outcomes.{Outcome, outcome, refusing}
use Rattle.outcomes.proofs.Keeping.{refused_at_law}
use Rattle.copying.specs.Copies.{dup_of}
use Rattle.dupdiff.specs.Judged.{dup_judged}

-- an earlier name, as the judgement found it
module _ (st : State) (text names : List ℕ) (rows : Table) (i : ℕ) (c : Counted (keeping st text names rows)) (near : i < st.names) where
  pub back_asks : (entry_size * i + entry_size ≤ length names) × (st.rows ≤ row_room rows)
  back_asks = (omega (arith, c.entries), c.rows_used)

  pub back_fits : {r : Bool} {t : Bool} → r ≡ earlier_fits (keeping st [] names rows) i → r ≡ t → earlier_fits (keeping st text names rows) i ≡ t
  back_fits e q = sym (earlier_text st [] text names rows i) ∙ sym e ∙ q

  -- where all fit, so does this one
  pub back_known : {b : Bool} → Known b (keeping st text names rows) → b ≡ true → earlier_fits (keeping st [] names rows) i ≡ true
  back_known f q = earlier_text st [] text names rows i ∙ (f q).0 i near

  -- and its rows are spelt
  pub back_spelt : {b : Bool} → Known b (keeping st text names rows) → {e : Entry} → e ≡ entry_at names i → Repeats b (steps.earlier text rows e.first e.rows)
  unfolding rows_of
  back_spelt f {e} q t = rw q ((f t).1 i near)

  pub back_inside : earlier_fits (keeping st text names rows) i ≡ true → inside.Earlier (keeping st text names rows) i
  back_inside h = earlier (keeping st text names rows) i h

  pub back_rows : earlier_fits (keeping st text names rows) i ≡ true → {e : Entry} → e ≡ entry_at names i
      → Rows st.text (steps.earlier text rows e.first e.rows) × (e.first + e.rows ≤ st.rows)
  back_rows h {e} q =
      let f = back_inside h in
      rw q (rows_judged st text rows (entry_at names i) c.rows_used c.used f, f.rows.ends)

  pub back_text : earlier_fits (keeping st text names rows) i ≡ true → {e : Entry} → e ≡ entry_at names i → inside.TextInside st e
  back_text h {e} q = rw q (back_inside h).text

module _ (rules : Rules) (bytes dir cur text names : List ℕ) (rows : Table) (st : State) (d : ℕ) where
  -- it is the one so far back
  module _ {i : ℕ} where
    far_fits : i ≡ st.names - d → {t : Bool} → earlier_fits (keeping st text names rows) i ≡ t → earlier_fits (keeping st text names rows) (st.names - d) ≡ t
    far_fits s h = rw s at h

    far_entry : i ≡ st.names - d → {e : Entry} → e ≡ entry_at names i → e ≡ entry_back (keeping st text names rows) d
    far_entry s q = q ∙ ap (entry_at names) s ∙ sym (back_entry (keeping st text names rows) d)

    pub dup_fit : earlier_fits (keeping st text names rows) i ≡ true → {e : Entry} → e ≡ entry_at names i → {o : Outcome}
        → o ≡ dup_of (source rules bytes dir cur) (keeping st text names rows) d e → i ≡ st.names - d → o ≡ dup_judged (source rules bytes dir cur) (keeping st text names rows) d
    dup_fit h q r s = took _ _ (far_fits s h) (r ∙ ap (dup_of (source rules bytes dir cur) (keeping st text names rows) d) (far_entry s q))

    pub dup_unfit : earlier_fits (keeping st text names rows) i ≡ false → {r : Reading} → r ≡ refusing st reason.Outside → i ≡ st.names - d
        → outcome r.answer cur (keeping r.state text names rows) ≡ dup_judged (source rules bytes dir cur) (keeping st text names rows) d
    dup_unfit h q s = left _ _ (far_fits s h) (refused_at_law rules bytes dir cur text names rows st reason.Outside q)
