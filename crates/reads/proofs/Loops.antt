-- Reads one after another, in the form in which the loop's turn wants them.
use Prim.Native.Nat.{ℕ, suc, ◌+◌, ◌-◌, ◌<◌}
use Rattle.entries.specs.Entries.{Answer}
use Rattle.std.specs.Prelude.{Some, None, Ok, Err}
use mathlib.Core.Path.{◌≡◌, refl, sym, ◌∙◌}
use mathlib.Core.Bool.{Bool, true, false}
use mathlib.Core.List.{List}
use native.Mathlib.Omega.{arith}
use native.Mathlib.Numerals.{add-one}
use Rattle.base.specs.Choice.{pick, both}
use Rattle.base.proofs.Choice.{both_true, by_test, pick_true, pick_false, never}
use Rattle.block.specs.declared.State.{State}
use Rattle.block.specs.Open.{Open}
use Rattle.numbering.specs.Types.{Rules}
use Rattle.tables.specs.Tables.{Kept, keeping, Table}
use Rattle.kept.specs.Inside.{Counted}
use Rattle.sources.specs.Source.{source}
use Rattle.earlier.specs.Fits.{Known}
use Rattle.outcomes.specs.Outcomes.{Outcome}
use Rattle.inner.specs.Next.{next_of}
use Rattle.reads.specs.Reads.{is_kept, fresh, go_on, reads_from}
use Rattle.reads.proofs.Holding.{More, Holds, next_holds, read_next}

-- the reads of a block
kept_on : (rest : Outcome → Outcome) (o : Outcome) (a : Answer) → is_kept a ≡ true → go_on rest o a ≡ rest o
unfolding is_kept go_on
kept_on rest o (Ok (Some n)) q = refl
kept_on rest o (Ok None) q = absurd (never q)
kept_on rest o (Err r) q = absurd (never q)

kept_out : (rest : Outcome → Outcome) (o : Outcome) (a : Answer) → is_kept a ≡ false → go_on rest o a ≡ o
unfolding is_kept go_on
kept_out rest o (Ok (Some n)) q = absurd (never (sym q))
kept_out rest o (Ok None) q = refl
kept_out rest o (Err r) q = refl

kept_more : (m : Kept) (o : Outcome) (a : Answer) → o.answer ≡ a → is_kept a ≡ true → ((n : ℕ) → o.answer ≡ Ok (Some n) → More m o) → More m o
unfolding is_kept
kept_more m o (Ok (Some n)) e q h = h n e
kept_more m o (Ok None) e q h = absurd (never q)
kept_more m o (Err r) e q h = absurd (never q)

-- where the next read starts: the block is open, the counts are judged, what is known of the kept names is, and the reads left make all of them, or it is the one
pub record Reads (rules : Rules) (bytes dir : List ℕ) (whole : Bool) (all : Outcome) (cur : List ℕ) (m : Kept) : Type 0 where
  pub opened : Open bytes dir cur
  pub counted : Counted m
  pub known : Known whole m
  pub goes : pick whole (reads_from rules bytes dir (m.state.count - m.state.names + 1) (fresh cur m)) (next_of (source rules bytes dir cur) m) ≡ all

module _ (rules : Rules) (bytes dir : List ℕ) (whole : Bool) (all : Outcome) (cur text names : List ℕ) (rows : Table) (st : State) (i : Reads rules bytes dir whole all cur (keeping st text names rows))
    (o : Outcome) (e : o ≡ next_of (source rules bytes dir cur) (keeping st text names rows)) where
  one : whole ≡ true → go_on (reads_from rules bytes dir (st.count - st.names)) o o.answer ≡ all
  unfolding reads_from
  one y =
      let n = read_next rules bytes dir cur text names rows st i.opened i.counted in
      let g = rw add-one at (sym (pick_true _ _ y) ∙ i.goes) in
      rw (e, ← n) g

  holds : Holds bytes dir (keeping st text names rows) o
  holds = rw e (next_holds rules bytes dir cur text names rows st i.opened i.counted)

  pub reads_out : both whole (is_kept o.answer) ≡ false → o ≡ all
  reads_out q =
      by_test whole
      (λ y. sym (kept_out (reads_from rules bytes dir (st.count - st.names)) o o.answer (sym (pick_true (is_kept o.answer) false y) ∙ q)) ∙ one y)
      (λ y. e ∙ sym (pick_false _ _ y) ∙ i.goes)

  more : is_kept o.answer ≡ true → More (keeping st text names rows) o
  more q = kept_more (keeping st text names rows) o o.answer refl q holds.more

  pub reads_less : both whole (is_kept o.answer) ≡ true → o.kept.state.count - o.kept.state.names < st.count - st.names
  reads_less q = let w = more (both_true whole (is_kept o.answer) q).1 in omega (arith, w.few, w.names, w.count)

  pub reads_on : both whole (is_kept o.answer) ≡ true → Reads rules bytes dir whole all o.cur o.kept
  unfolding reads_from
  reads_on q =
      let b = both_true whole (is_kept o.answer) q in
      let w = more b.1 in
      let f : st.count - st.names ≡ suc (o.kept.state.count - o.kept.state.names) = omega (arith, w.few, w.names, w.count) in
      let g = sym (kept_on (reads_from rules bytes dir (st.count - st.names)) o o.answer b.1) ∙ one b.0 in
      record {
        opened = holds.opened;
        counted = holds.counted;
        known = λ z. let k = i.known z in (holds.fits k.0, holds.spelt k.0 k.1);
        goes = pick_true _ _ b.0 ∙ rw add-one (rw f at g);
      }
