-- What holds of the names and rows that are kept still does when more is kept.
use Prim.Native.Nat.{ℕ, ◌+◌, ◌-◌, ◌<◌}
use mathlib.Core.Path.{◌≡◌, sym, ap, ◌∙◌}
use mathlib.Core.Logic.{inl}
use native.Mathlib.Omega.{arith}
use lib.ListN.{get_or}
use Rattle.base.proofs.Below.{same_at, same_of}
use Rattle.block.specs.declared.State.{State}
use Rattle.tables.specs.declared.Entry.{Entry}
use Rattle.tables.specs.Tables.{Kept, entry_at, row_at}
use Rattle.kept.specs.Inside.{TextInside, EntryInside, Earlier}
use Rattle.kept.proofs.Later.{Later, entry_later, row_later, part_later}
use Rattle.claims.specs.Claims.{name_text}
use Rattle.sources.specs.Source.{Source}
use Rattle.runs.specs.Runs.{text_length}
use Rattle.outcomes.specs.Outcomes.{Outcome}
use Rattle.demands.specs.Right.{Home, Refers}
use Rattle.demands.specs.Adds.{Adds}
use Rattle.demands.proofs.Lemmas.Printing.{rows_text}

pub later_adds : (s : Source) (m : Kept) (i : ℕ) (o : Outcome) → Adds s m i o → Later m o.kept
later_adds s m i o a =
    let n = ap (λ (x : State). x.names) a.counts in
    let t = ap (λ (x : State). x.text) a.counts in
    let r = ap (λ (x : State). x.rows) a.counts in
    record {
      names = omega arith;
      text = omega arith;
      rows = omega arith;
      in_text = same_of _ _ _ a.text.lengths (λ j l. a.text.others j (inl l));
      in_names = same_of _ _ _ a.names.lengths (λ j l. a.names.others j (inl l));
      in_rows_law = λ j l. a.table.others j (inl l);
    }

-- what holds of a kept name besides that its entry and rows fit and are spelt: the byte 10 after its text is in the used part,
-- its text is that of its rows, and its reference points to a lower number
pub record NameSure (m : Kept) (i : ℕ) : Type 0 where
  pub closed : (entry_at m.names i).start + (entry_at m.names i).length < m.state.text
  pub ended : get_or m.text ((entry_at m.names i).start + (entry_at m.names i).length) 0 ≡ 10
  pub spells : name_text m.text (entry_at m.names i) ≡ rows_text m.text m.rows (entry_at m.names i).first (entry_at m.names i).rows
  pub refers : Refers i (entry_at m.names i).distance

module _ (m w : Kept) (h : Later m w) where
  pub text_later : (e : Entry) → TextInside m.state e → name_text w.text e ≡ name_text m.text e
  unfolding name_text
  text_later e i = part_later m w h e.start (e.start + e.length) (omega arith) i.ends

  pub home_later : (j : ℕ) → j < m.state.rows → Home m j → Home w j
  home_later j l k =
      let e : entry_at w.names k.name ≡ entry_at m.names k.name = entry_later m w h k.name k.kept in
      let r : row_at w.rows j ≡ row_at m.rows j = row_later m w h j l in
      record {
        name = k.name;
        kept = omega (arith, k.kept, h.names);
        from = rw e k.from;
        to = rw e k.to;
        adds = λ i l. rw (entry_later m w h i (omega (arith, k.kept))) (k.adds i l);
        starts = rw (e, r) k.starts;
        ends = rw (e, r) k.ends;
      }

  pub rows_later : (e : Entry) → EntryInside m.state m.rows e → rows_text w.text w.rows e.first e.rows ≡ rows_text m.text m.rows e.first e.rows
  unfolding text_length
  rows_later e i =
      let some = i.rows.some in
      let most = i.rows.ends in
      let a = (i.each e.first (omega arith) (omega arith)).ends in
      let z = (i.each (e.first + e.rows - 1) (omega arith) (omega arith)).ends in
      rw (row_later m w h e.first (omega arith), row_later m w h (e.first + e.rows - 1) (omega arith))
      (part_later m w h _ _ (omega arith) (omega arith))

  pub name_later : (i : ℕ) → i < m.state.names → Earlier m i → NameSure m i → NameSure w i
  name_later i l f n =
      let e : Entry = entry_at m.names i in
      let q : entry_at w.names i ≡ e = entry_later m w h i l in
      record {
        closed = rw q (omega (arith, n.closed, h.text));
        ended = rw q (same_at w.text m.text m.state.text h.in_text _ n.closed ∙ n.ended);
        spells = rw q (text_later e f.text ∙ n.spells ∙ sym (rows_later e f));
        refers = rw q n.refers;
      }
