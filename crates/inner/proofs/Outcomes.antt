-- One read, way by way, in a contract's direction.
use Prim.Native.Nat.{ℕ}
use Rattle.entries.specs.Entries.{Answer, reading}
use Rattle.distances.specs.Distances.{Head}
use Rattle.std.specs.Prelude.{None, Ok, Err}
use Rattle.refusals.specs.declared.Reason.{Reason}
use Rattle.refusals.specs.declared.Reason.TheVariants as reason
use Rattle.distances.specs.declared.Reference.TheVariants as reference
use mathlib.Core.Path.{◌≡◌, refl, ap, ◌∙◌}
use mathlib.Core.Bool.{Bool, true, false}
use mathlib.Core.List.{List}
use borrow.Author.Tests.{eq-eqb, ne_eqb}
use Rattle.base.specs.Choice.{pick}
use Rattle.base.proofs.Choice.{took, left}
use Rattle.spans.specs.declared.Distance.{Distance}
use Rattle.block.specs.declared.State.{State}
use Rattle.block.specs.Block.{all_at_end}
use Rattle.numbering.specs.Types.{Rules}
use Rattle.tables.specs.Tables.{keeping, Table}
use Rattle.sources.specs.Source.{source}
use Rattle.entries.specs.declared.Reading.{Reading}
use Rattle.outcomes.specs.Outcomes.{Outcome, outcome, finishing, refusing, refusing_plain, plain}
use Rattle.outcomes.proofs.Keeping.{refused_at_law}
use Rattle.heads.specs.Heads.{head_of}
use Rattle.dupdiff.specs.Judged.{dup_judged, diff_judged}
use Rattle.inner.specs.Next.{headed_of, next_of}

pub finish_done : (st : State) {b : Bool} → b ≡ true → reading (Ok None) st ≡ finishing st b
unfolding finishing
finish_done st h = ap (λ (x : Answer). reading x st) (took _ _ h refl)

pub finish_short : (st : State) {b : Bool} → b ≡ false → {r : Reading} → r ≡ refusing_plain st reason.Unread → r ≡ finishing st b
unfolding finishing refusing_plain
finish_short st h q = q ∙ ap (λ (x : Answer). reading x st) (left _ _ h refl)

module _ (rules : Rules) (bytes dir cur text names : List ℕ) (rows : Table) (st : State) where
  finished_is : (b : Bool) {r : Reading} → r ≡ finishing st b
      → outcome r.answer cur (keeping r.state text names rows) ≡ pick b (outcome (Ok None) cur (keeping st text names rows)) (plain (source rules bytes dir cur) (keeping st text names rows) reason.Unread)
  unfolding finishing plain pick
  finished_is true q = rw q
  finished_is false q = rw q

  pub next_finished : st.names ≡ st.count → {r : Reading} → r ≡ finishing st (all_at_end dir cur)
      → outcome r.answer cur (keeping r.state text names rows) ≡ next_of (source rules bytes dir cur) (keeping st text names rows)
  unfolding next_of
  next_finished e q = took _ _ (eq-eqb _ _ e) (finished_is (all_at_end dir cur) q)

  module _ (n : st.names ≡ st.count → ⊥) (h : Head) (f : h ≡ head_of (source rules bytes dir cur) st.names) where
    on : {o : Outcome} → o ≡ headed_of (source rules bytes dir cur) (keeping st text names rows) h → o ≡ next_of (source rules bytes dir cur) (keeping st text names rows)
    unfolding next_of
    on q = left _ _ (ne_eqb _ _ n) (q ∙ ap (headed_of (source rules bytes dir cur) (keeping st text names rows)) f)

    pub next_dup : {d : Distance} → h ≡ Ok (reference.Dup d) → {o : Outcome} → o ≡ dup_judged (source rules bytes dir cur) (keeping st text names rows) d.0
        → o ≡ next_of (source rules bytes dir cur) (keeping st text names rows)
    unfolding headed_of
    next_dup e q = on (rw e q)

    pub next_diff : {d : Distance} → h ≡ Ok (reference.Diff d) → {o : Outcome} → o ≡ diff_judged (source rules bytes dir cur) (keeping st text names rows) d.0
        → o ≡ next_of (source rules bytes dir cur) (keeping st text names rows)
    unfolding headed_of
    next_diff e q = on (rw e q)

    pub next_refused : {k : Reason} → h ≡ Err k → {r : Reading} → r ≡ refusing st k
        → outcome r.answer cur (keeping r.state text names rows) ≡ next_of (source rules bytes dir cur) (keeping st text names rows)
    unfolding headed_of
    next_refused {k} e q = on (rw (e, refused_at_law rules bytes dir cur text names rows st k q))
