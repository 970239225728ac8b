-- C-11: a name that starts afresh has no earlier name, whatever its number and whatever is kept; rule 2 and the writer stay otherwise.
use Prim.Native.Nat.{ℕ, zero, suc, ◌+◌, ◌≤◌, ◌<◌}
use Rattle.values.specs.Values.{Step}
use Rattle.std.specs.Prelude.{Some, None, Ok, Err}
use Rattle.refusals.specs.declared.Reason.{Reason}
use Rattle.refusals.specs.declared.Reason.TheVariants as reason
use Rattle.refusals.specs.Refusals.{number_of}
use mathlib.Core.Path.{◌≡◌, refl, sym, ap, ◌∙◌, subst}
use mathlib.Core.Bool.{false}
use mathlib.Core.List.{List}
use mathlib.Core.Logic.{inl, inr}
use native.Mathlib.Omega.{arith}
use borrow.Author.Tests.{ne_eqb, le-leb, lt-leb, eqb-true, eqb-false}
use lib.Dec.{leb, eqb}
use lib.ListN.{length}
use Rattle.base.specs.Choice.{both}
use Rattle.comparing.specs.Same.{same}
use Rattle.base.proofs.Choice.{pick_true, pick_false, pick_holds, by_test, both_none, both_left}
use Rattle.spans.specs.declared.Cursor.{Cursor}
use Rattle.block.specs.Streams.{type_stream, diff_stream}
use Rattle.tables.specs.Tables.{Kept, entry_at, Table}
use Rattle.numbering.specs.declared.TokenType.{TokenType}
use Rattle.numbering.specs.Types.{type_of}
use Rattle.tokens.specs.Tokens.{bytes_of}
use Rattle.sources.specs.Source.{Source, earlier, byte_in}
use Rattle.repeats.specs.Repeats.{has_row, has_kind, delta_at, delta0_at, match_at}
use Rattle.repeats.proofs.Laws.{rows_none}
use Rattle.bars.specs.Bars.{barred}
use Rattle.steps.specs.Steps.{value_step, typed_step, step_at}
use Rattle.names.specs.Names.{Draft, Named, named, grown, ended, printable, onward, name_from, name_of}
use Rattle.names.proofs.Growing.{never_named, grows}
use Rattle.outcomes.specs.Outcomes.{Outcome}
use Rattle.outcomes.specs.Keeping.{kept}
use Rattle.earlier.specs.Back.{none}
use Rattle.reads.specs.Reads.{read_of}
use Rattle.references.specs.References.{anew, reference_of}
use Rattle.demands.specs.Refusals.{IsHead, is_dup, is_diff, Heads, diff_none, HeadStop, no_type, no_head, no_distance, off_rule, on_none, on_earlier, Origin, copied, walked, NameRefused, by_head, by_memory, by_token, by_room, ReadCase, refuses, ends, keeps, dup_in, diff_in}
use Rattle.demands.specs.Afresh.{OnlyAfresh, NeverWritten, Leaning, match, delta, delta0, StartsAfresh}
use Rattle.demands.proofs.Lemmas.Frames.{name_alike}
use Rattle.demands.proofs.Lemmas.Stops.{stop_number}
use Rattle.demands.proofs.Lemmas.Ways.{read_case}
use Rattle.demands.proofs.Lemmas.Adding.{entry_kept}
use Rattle.demands.proofs.Refusals.{leans_read, read_named}
use Rattle.numbering.proofs.Laws.{dup_not_diff}

-- rule 2
pub only_afresh : OnlyAfresh
only_afresh = record {
  allowed = λ n h. (le-leb 0 n (omega arith), pick_false _ _ (ne_eqb n 0 (λ z. omega arith)) ∙ both_left _ (lt-leb 1 0 (omega arith)));
  stays = λ d n f.
      by_test (eqb n 0)
      (λ z.
      let w : n ≡ 0 = eqb-true n 0 z in
      by_test (eqb d 0)
      (λ y. let x : d ≡ 0 = eqb-true d 0 y in le-leb d n (omega arith) ∙ sym (pick_true _ _ z ∙ y))
      (λ y. let x = eqb-false d 0 y in lt-leb d n (omega arith) ∙ sym (pick_true _ _ z ∙ y)))
      (λ z.
      by_test (eqb d 0)
      (λ y. absurd (eqb-false n 0 z (f (eqb-true d 0 y))))
      (λ y. let x = eqb-false d 0 y in sym (pick_false _ _ z ∙ ap (λ b. both b (leb d n)) (le-leb 1 d (omega arith)) ∙ both_none (leb d n))));
}

-- the writer
pub never_written : NeverWritten
unfolding reference_of anew
never_written n before s h =
    by_test (same before s)
    (λ e. inl (pick_false _ _ (ne_eqb n 0 (λ z. omega arith)) ∙ pick_true _ _ e))
    (λ e. inr (pick_false _ _ (ne_eqb n 0 (λ z. omega arith)) ∙ pick_false _ _ e))

-- over no rows, what leans on one meets 5
module _ (s : Source) (text : List ℕ) (rows : Table) (p : ℕ) (low : 1 ≤ p) where
  no_row : has_row (earlier text rows 0 0) p ≡ false
  unfolding has_row
  no_row = lt-leb p 0 (omega arith)

  value_five : (c : Cursor) (y : TokenType) → Leaning y → value_step s (earlier text rows 0 0) p c y ≡ Err reason.NoRow
  unfolding value_step delta_at delta0_at match_at has_kind
  value_five c y match = pick_false _ _ no_row
  value_five c y delta = pick_false _ _ (both_left _ no_row)
  value_five c y delta0 = pick_false _ _ (both_left _ no_row)

  step_five : p < 128 → (b : ℕ) (c : Cursor) → byte_in s p type_stream ≡ Some (b, c) → Leaning (type_of s.rules.numbers b) → step_at s (earlier text rows 0 0) p ≡ Err reason.NoRow
  unfolding step_at typed_step barred
  step_five h b c e l =
      ap (typed_step s (earlier text rows 0 0) p) e
      ∙ pick_false _ _ (both_left _ (ne_eqb p 128 (λ z. omega arith)))
      ∙ value_five c (type_of s.rules.numbers b) l

-- and a name is the same whatever is kept
kept_or_not : (s : Source) (text other : List ℕ) (rows table : Table) (used : ℕ) (c : List ℕ) → name_of s (earlier other table 0 0) used c ≡ name_of s (earlier text rows 0 0) used c
kept_or_not s text other rows table = name_alike s text other rows table 0 0 0 (rows_none 0 text rows (omega arith)) refl (λ k h. absurd (omega arith))

-- and none of the positions of a name that is read leans
module _ (s : Source) (text : List ℕ) (rows : Table) (used : ℕ) where
  onward_plain : (p : ℕ) (d x : Draft) (rest : Draft → Named) (q : ℕ) → p < q → q + d.count < p + x.count
      → ((y : Draft) → q + y.count < p + 1 + x.count → rest y ≡ named x → ⊥)
      → (st : Step) → onward s (earlier text rows 0 0) used p d st rest ≡ named x → ⊥
  unfolding onward grown ended
  onward_plain p d x rest q l h ih (Ok (Some (t, c))) =
      pick_holds (λ (a : Named). a ≡ named x → ⊥) (printable (bytes_of s.bytes text t) (length d.text)) _ _
      (λ k e. ih _ (omega arith) e)
      (λ k e. never_named e)
  onward_plain p d x rest q l h ih (Ok None) =
      pick_holds (λ (a : Named). a ≡ named x → ⊥) (eqb (length d.text) 0) _ _
      (λ k e. never_named e)
      (λ k e. let z : d.count ≡ x.count = cc in omega arith)
  onward_plain p d x rest q l h ih (Err r) = never_named

  plain_from : (f p : ℕ) (d x : Draft) → f + p ≡ 129 → 1 ≤ p → name_from s (earlier text rows 0 0) used f p d ≡ named x
      → (q b : ℕ) (c : Cursor) → p ≤ q → q + d.count < p + x.count → byte_in s q type_stream ≡ Some (b, c) → Leaning (type_of s.rules.numbers b) → ⊥
  unfolding name_from onward
  plain_from zero p d x n low e q b c l h y k = never_named e
  plain_from (suc f) p d x n low e q b c l h y k =
      let few : x.count < d.count + suc f = (grows s (earlier text rows 0 0) used (suc f) p d x e).few in
      by_test (eqb p q)
      (λ z.
      let w : p ≡ q = eqb-true p q z in
      let five = step_five s text rows q (omega arith) (omega arith) b c y k in
      never_named (sym (ap (λ (st : Step). onward s (earlier text rows 0 0) used p d st (name_from s (earlier text rows 0 0) used f (p + 1))) (ap (step_at s (earlier text rows 0 0)) w ∙ five)) ∙ e))
      (λ z.
      let w = eqb-false p q z in
      onward_plain p d x (name_from s (earlier text rows 0 0) used f (p + 1)) q (omega arith) h
      (λ g i r. plain_from f (p + 1) g x (omega arith) (omega arith) r q b c (omega arith) i y k) (step_at s (earlier text rows 0 0) p) e)

-- position 0 says one thing
same_head : (s : Source) (t i d : ℕ) → IsHead s t i → Heads s t i d → Heads s (diff_in s) diff_stream 0 → (t ≡ diff_in s) × (d ≡ 0)
same_head s t i d is_dup h g =
    let e = sym h.type ∙ g.type in
    let z : ◌≡◌ {A = ℕ × Cursor} (dup_in s, h.past) (diff_in s, g.past) = cc in
    absurd (dup_not_diff s.rules.numbers (sym (ap (λ (x : ℕ × Cursor). x.0) z)))
same_head s t i d is_diff h g =
    let e = sym h.distance ∙ g.distance in
    let z : ◌≡◌ {A = ℕ × Cursor} (d, h.behind) (0, g.behind) = cc in
    (refl, ap (λ (x : ℕ × Cursor). x.0) z)

module _ (s : Source) (m : Kept) (g : Heads s (diff_in s) diff_stream 0) where
  stop_afresh : (n : ℕ) (r : Reason) → HeadStop s n r → (r ≡ reason.BadDistance → ⊥) × (r ≡ reason.Outside → ⊥)
  stop_afresh n r (no_type e) = (λ z. cc, λ z. cc)
  stop_afresh n r (no_head t c e a b) = (λ z. cc, λ z. cc)
  stop_afresh n r (no_distance t i c e h f) = (λ z. cc, λ z. cc)
  stop_afresh n r (off_rule t i d h k q) =
      let w = same_head s t i d k h g in
      absurd (q (diff_none w.0 w.1))

  reason_afresh : (r : Reason) → NameRefused s m r → (r ≡ reason.BadDistance → ⊥) × (r ≡ reason.Outside → ⊥)
  reason_afresh r (by_head x q) = stop_afresh m.state.names r q
  reason_afresh r (by_memory t i d h k b f) = let w = same_head s t i d k h g in absurd (omega (arith, b.0, w.1))
  reason_afresh r (by_token x d p len e l h c) = let b = stop_number s e p len r c in (λ z. b.1.1 (ap number_of z), λ z. omega (arith, b.1.0, ap number_of z))
  reason_afresh r (by_room x first rows d o f) = (λ z. cc, λ z. cc)

  -- none of a name's types leans, up to so many positions
  abbrev Plain : ℕ → Type 0
  Plain rows = (p b : ℕ) (c : Cursor) → 1 ≤ p → p ≤ rows → byte_in s p type_stream ≡ Some (b, c) → Leaning (type_of s.rules.numbers b) → ⊥

  origin_afresh : (x : Draft) (first rows d : ℕ) → Origin s m x first rows d → (d ≡ 0) × Plain rows
  unfolding none name_of
  origin_afresh x first rows d (copied y h b f) = absurd (omega (arith, (same_head s (dup_in s) _ d is_dup h g).1, b.0))
  origin_afresh x first rows d (walked y z e (on_none h) q) =
      (refl, λ p b c low high t l. plain_from s m.text m.rows m.state.text 128 1 _ x (omega arith) (omega arith) q p b c low (omega arith) t l)
  origin_afresh x first rows d (walked y z e (on_earlier u h b f) q) = absurd (omega (arith, (same_head s (diff_in s) diff_stream d is_diff h g).1, b.0))

  kept_afresh : (o : Outcome) → ReadCase s m o → (i : ℕ) → o.answer ≡ Ok (Some i) → ((entry_at o.kept.names i).distance ≡ 0) × Plain (entry_at o.kept.names i).rows
  unfolding kept
  kept_afresh o (refuses r y) i e = cc
  kept_afresh o (ends a b c) i e = cc
  kept_afresh o (keeps x first rows d a b c f) i e =
      let n : m.state.names ≡ i = cc in
      subst (λ (j : ℕ). ((entry_at (kept m x first rows d).kept.names j).distance ≡ 0) × Plain (entry_at (kept m x first rows d).kept.names j).rows) n
      (rw (entry_kept m x first rows d a.counts) (origin_afresh x first rows d c))

pub starts_afresh : StartsAfresh
unfolding none
starts_afresh s m ready more g = record {
  reads = leans_read s m ready more 0 (none m) (on_none g);
  alike = λ text rows. kept_or_not s text m.text rows m.rows m.state.text _;
  fives = λ p b c low h e l. step_five s m.text m.rows p low h b c e l;
  never_4 = λ e. (reason_afresh s m g reason.BadDistance (read_named s m reason.BadDistance _ e).1).0 refl;
  never_13 = λ e. (reason_afresh s m g reason.Outside (read_named s m reason.Outside _ e).1).1 refl;
  plain = λ i e. (kept_afresh s m g (read_of s m) (read_case s m) i e).1;
  distance = λ i e. (kept_afresh s m g (read_of s m) (read_case s m) i e).0;
}
