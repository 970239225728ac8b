-- What a read needs holds again after it: the block is open, the counts are judged, what every kept name points to is inside, and its rows are spelt. A read that keeps a name adds one.
use Prim.Native.Nat.{ℕ, ◌+◌, ◌-◌, ◌*◌, ◌≤◌, ◌<◌}
use Rattle.distances.specs.Distances.{Head}
use Rattle.std.specs.Prelude.{Some, None, Ok, Err}
use Rattle.distances.specs.declared.Reference.TheVariants as reference
use mathlib.Core.Path.{◌≡◌, refl, sym, ap, ◌∙◌, subst}
use mathlib.Core.Bool.{true}
use mathlib.Core.List.{List, [], ◌∷◌, ◌++◌}
use mathlib.Core.Logic.{⊎_elim}
use native.Mathlib.Omega.{arith}
use native.Mathlib.Nat.{eq-or-lt_of_le}
use borrow.Author.Tests.{eqb-true, eqb-false}
use lib.Dec.{eqb}
use lib.ListN.{length, length-append}
use Rattle.base.specs.Memory.{written, part}
use Rattle.base.proofs.Choice.{pick_true, pick_holds}
use Rattle.base.proofs.Holding.{holds_written, holds_left}
use Rattle.base.proofs.Memory.{length_written, length_part}
use Rattle.base.proofs.Below.{take_written}
use Rattle.block.specs.declared.State.{State}
use Rattle.refusals.specs.declared.Reason.{Reason}
use Rattle.refusals.specs.declared.Reason.TheVariants as reason
use Rattle.block.specs.Block.{all_at_end}
use Rattle.block.specs.Open.{Open}
use Rattle.block.proofs.Laws.{open_sound, open_inside}
use Rattle.block.specs.Streams.{dup_stream, diff_stream}
use Rattle.numbering.specs.Types.{Rules}
use Rattle.tables.specs.declared.Entry.{Entry}
use Rattle.tables.specs.declared.Row.{Row}
use Rattle.tables.specs.Tables.{entry_size, Kept, keeping, entry_at, row_at, Table, put_rows, row_room}
use Rattle.kept.specs.Judgement.{earlier_fits}
use Rattle.kept.specs.Inside.{Counted, EntryInside, RowInside}
use Rattle.kept.proofs.Laws.{earlier, earlier_fits_of, counts_of, row_more}
use Rattle.kept.proofs.Frame.{Alike, alike_written, entry_alike, entry_written, one_entry, entry_more, earlier_more}
use Rattle.sources.specs.Source.{source, Earlier}
use Rattle.sources.specs.Source as steps
use Rattle.repeats.specs.Sound.{Rows}
use Rattle.repeats.proofs.Laws.{rows_none, rows_judged}
use Rattle.names.specs.Names.{Draft, draft, Named, named, refused, name_of}
use Rattle.repeating.specs.Repeats.{Spelt, RowsSpelt}
use Rattle.names.proofs.Frames.{name_bounds, name_open}
use Rattle.repeating.proofs.Spelling.{rows_spelt_same}
use Rattle.heads.specs.Headed.{Headed}
use Rattle.outcomes.specs.Outcomes.{Outcome, outcome, plain, at_name}
use Rattle.outcomes.specs.Keeping.{room_for, kept, keep_of}
use Rattle.entries.specs.Entries.{entry_of, state_after}
use Rattle.heads.specs.Heads.{head_past, head_of}
use Rattle.copying.specs.Copies.{dup_of}
use Rattle.naming.specs.Naming.{named_of, diff_of}
use Rattle.earlier.specs.Back.{none, rows_of, entry_back}
use Rattle.dupdiff.specs.Judged.{dup_judged, diff_judged}
use Rattle.inner.specs.Next.{headed_of, next_of}
use Rattle.reads.specs.Reads.{read_of}
use Rattle.earlier.specs.Fits.{AllFit, AllSpelt}
use Rattle.heads.proofs.Heads.{head_same, head_open, dup_told, diff_told}
use Rattle.entries.proofs.Entries.{has_room}
use Rattle.earlier.proofs.Leaning.{back_entry}
use Rattle.reads.proofs.Spelling.{row_in}
use Rattle.reads.proofs.Fitting.{Rowed, name_rowed}
use Rattle.tables.proofs.Rows.{SameRows, below_put, within_put, room_put}

-- a read that keeps a name, after m
pub record More (m : Kept) (o : Outcome) : Type 0 where
  pub few : m.state.names < m.state.count
  pub names : o.kept.state.names ≡ m.state.names + 1
  pub count : o.kept.state.count ≡ m.state.count

pub record Holds (bytes dir : List ℕ) (m : Kept) (o : Outcome) : Type 0 where
  pub opened : Open bytes dir o.cur
  pub counted : Counted o.kept
  pub fits : AllFit m → AllFit o.kept
  pub spelt : AllFit m → AllSpelt m → AllSpelt o.kept
  pub more : (n : ℕ) → o.answer ≡ Ok (Some n) → More m o

-- a name's entry
abbrev entered : State → ℕ → ℕ → ℕ → ℕ → Entry
entered st size first many distance = record { start = st.text; length = size; first = first; rows = many; distance = distance }

-- a row that was put
new_row : (rows : Table) (n : ℕ) (more : List Row) (i j : ℕ) → n ≤ row_room rows → i ≡ n + j → j < length more → row_at (put_rows rows n more) i ≡ row_in more j
new_row rows n more i j room is l = ap (row_at (put_rows rows n more)) is ∙ within_put rows n more room j _ l

-- rows kept before stay spelt
old_spelt : (st : State) (text names : List ℕ) (rows : Table) → Counted (keeping st text names rows) → (put : List ℕ) (more : List Row) (x : Entry) → EntryInside st rows x
    → RowsSpelt (steps.earlier text rows x.first x.rows)
    → RowsSpelt (steps.earlier (written text st.text put) (put_rows rows st.rows more) x.first x.rows)
old_spelt st text names rows k put more x i =
    rows_spelt_same text (written text st.text put) rows (put_rows rows st.rows more) x.first x.rows st.text i.each
    (sym (take_written text st.text put st.text (omega arith) k.used))
    (λ j l. sym (below_put rows st.rows more st.rows (omega arith) k.rows_used j (omega (arith, i.rows.ends))))

-- with a name more, whose entry and rows are inside, all are; and where all were spelt and its rows are, all are
module _ (st : State) (text names : List ℕ) (rows : Table) (k : Counted (keeping st text names rows)) (size added first many distance : ℕ) (put : List ℕ) (more : List Row)
    (inner : EntryInside (state_after st size added) (put_rows rows st.rows more) (entered st size first many distance)) where
  abbrev after : Kept
  after = keeping (state_after st size added) (written text st.text put) (written names (entry_size * st.names) (entry_of st size first many distance)) (put_rows rows st.rows more)

  rows_stay : SameRows rows (put_rows rows st.rows more) st.rows
  rows_stay j l = sym (below_put rows st.rows more st.rows (omega arith) k.rows_used j l)

  names_stay : Alike names (written names (entry_size * st.names) (entry_of st size first many distance)) (entry_size * st.names)
  names_stay j l = sym (alike_written names (entry_size * st.names) (entry_of st size first many distance) (entry_size * st.names) (omega arith) k.entries j l)

  new_entry : (i : ℕ) → i ≡ st.names → entry_at (written names (entry_size * st.names) (entry_of st size first many distance)) i ≡ entered st size first many distance
  new_entry i e =
      entry_written names st.names (entry_of st size first many distance) i 0 k.entries (omega arith) (omega arith)
      ∙ one_entry (entered st size first many distance)

  fit_more : AllFit (keeping st text names rows) → AllFit after
  fit_more f i l =
      earlier_fits_of after i
      (⊎_elim
      (λ e. subst (λ (x : Entry). EntryInside (state_after st size added) (put_rows rows st.rows more) x) (sym (new_entry i e)) inner)
      (λ h. earlier_more (keeping st text names rows) after st.names (omega arith) (omega arith) names_stay rows_stay i h (earlier (keeping st text names rows) i (f i h)))
      (eq-or-lt_of_le {n = i} {m = st.names} (omega arith)))

  abbrev Spells : Entry → Type 0
  Spells x = RowsSpelt (steps.earlier (written text st.text put) (put_rows rows st.rows more) x.first x.rows)

  spelt_more : Spells (entered st size first many distance) → AllFit (keeping st text names rows) → AllSpelt (keeping st text names rows) → AllSpelt after
  unfolding rows_of
  spelt_more mine f s i l =
      ⊎_elim
      (λ e. subst Spells (sym (new_entry i e)) mine)
      (λ h. subst Spells (entry_alike names (written names (entry_size * st.names) (entry_of st size first many distance)) st.names names_stay i h)
      (old_spelt st text names rows k put more (entry_at names i) (earlier (keeping st text names rows) i (f i h)) (s i h)))
      (eq-or-lt_of_le {n = i} {m = st.names} (omega arith))

module _ (st : State) (text names : List ℕ) (rows : Table) (k : Counted (keeping st text names rows)) where
  -- a copy has the earlier name's rows
  copy_inner : (x : Entry) (size distance : ℕ) → size ≡ x.length → EntryInside st rows x
      → EntryInside (state_after st size 0) (put_rows rows st.rows []) (entered st size x.first x.rows distance)
  copy_inner x size distance e i =
      let w : EntryInside (state_after st size 0) (put_rows rows st.rows []) x =
      entry_more st (state_after st size 0) rows (put_rows rows st.rows []) (omega arith) (omega arith)
      (λ j l. sym (below_put rows st.rows [] st.rows (omega arith) k.rows_used j l)) x i in
      record {
        text = record { some = omega (arith, i.text.some); most = omega (arith, i.text.most); ends = omega arith };
        rows = record { some = i.rows.some; most = i.rows.most; ends = w.rows.ends };
        each = w.each;
      }

  -- a name that was read has its own
  named_inner : (D : Draft) (distance : ℕ) → 1 ≤ length D.text → length D.text ≤ 254 → 1 ≤ D.count → D.count ≤ 127 → Rowed st.text D
      → EntryInside (state_after st (length D.text) D.count) (put_rows rows st.rows D.rows) (entered st (length D.text) st.rows D.count distance)
  named_inner D distance some short one most r =
      record {
        text = record { some = some; most = short; ends = omega arith };
        rows = record { some = one; most = most; ends = omega arith };
        each = λ j a b.
            subst (λ (x : Row). RowInside (st.text + length D.text + 1) x)
            (sym (new_row rows st.rows D.rows j (j - st.rows) k.rows_used (omega arith) (omega (arith, r.whole))))
            (row_more (st.text + length D.text) (st.text + length D.text + 1) (omega arith) (row_in D.rows (j - st.rows)) (r.each (j - st.rows) (omega arith)));
      }

  named_spelt : (D : Draft) → Rowed st.text D
      → RowsSpelt (steps.earlier (written text st.text (D.text ++ (10 ∷ []))) (put_rows rows st.rows D.rows) st.rows D.count)
  named_spelt D r =
      let text' = written text st.text (D.text ++ (10 ∷ [])) in
      let t = holds_left text' st.text D.text (10 ∷ []) (holds_written text st.text (D.text ++ (10 ∷ [])) k.used) in
      let row : (j i : ℕ) → j ≡ st.rows + i → i < D.count → row_at (put_rows rows st.rows D.rows) j ≡ row_in D.rows i =
      λ j i e l. new_row rows st.rows D.rows j i k.rows_used e (omega (arith, r.whole)) in
      record {
        each = λ j a b. subst (Spelt text') (sym (row j (j - st.rows) (omega arith) (omega arith))) (r.spelt text' t (j - st.rows) (omega arith));
        laid = λ j a b.
            ap (λ (x : Row). x.start) (row (j + 1) (j - st.rows + 1) (omega arith) (omega arith))
            ∙ r.laid (j - st.rows) (omega arith)
            ∙ sym (ap (λ (x : Row). x.start + x.length) (row j (j - st.rows) (omega arith) (omega arith)));
      }

module _ (rules : Rules) (bytes dir cur text names : List ℕ) (rows : Table) (st : State) (o : Open bytes dir cur) (k : Counted (keeping st text names rows)) where
  at_holds : (n : Reason) → Holds bytes dir (keeping st text names rows) (at_name (source rules bytes dir cur) (keeping st text names rows) n)
  unfolding at_name
  at_holds n = record { opened = o; counted = k; fits = λ f. f; spelt = λ f s. s; more = λ i q. cc }

  plain_holds : (n : Reason) → Holds bytes dir (keeping st text names rows) (plain (source rules bytes dir cur) (keeping st text names rows) n)
  unfolding plain
  plain_holds n = record { opened = o; counted = k; fits = λ f. f; spelt = λ f s. s; more = λ i q. cc }

  done_holds : Holds bytes dir (keeping st text names rows) (outcome (Ok None) cur (keeping st text names rows))
  done_holds = record { opened = o; counted = k; fits = λ f. f; spelt = λ f s. s; more = λ i q. cc }

  module _ (few : st.names < st.count) where
    module _ (d : Draft) (first many distance : ℕ) (p : Open bytes dir d.cur) (short : length d.text ≤ 254) (most : d.count ≤ 127)
        (whole : length d.rows ≡ d.count)
        (inner : EntryInside (state_after st (length d.text) d.count) (put_rows rows st.rows d.rows) (entered st (length d.text) first many distance))
        (mine : AllSpelt (keeping st text names rows) → RowsSpelt (steps.earlier (written text st.text (d.text ++ (10 ∷ []))) (put_rows rows st.rows d.rows) first many)) where
      kept_holds : room_for (keeping st text names rows) d ≡ true → Holds bytes dir (keeping st text names rows) (kept (keeping st text names rows) d first many distance)
      unfolding room_for kept
      kept_holds h =
          let r = has_room bytes dir cur text names rows st (length d.text) d.count h in
          let t = length-append d.text (10 ∷ []) in
          let lt = length_written text st.text (d.text ++ (10 ∷ [])) (omega (arith, r.texts)) in
          let ln = length_written names (entry_size * st.names) (entry_of st (length d.text) first many distance) (omega (arith, r.entries)) in
          let lr = room_put rows st.rows d.rows (omega (arith, r.table)) in
          record {
            opened = p;
            counted =
                record {
                  kept = omega arith;
                  limit = k.limit;
                  entries = omega (arith, r.entries);
                  used = omega (arith, r.texts);
                  most = omega (arith, k.most);
                  rows_used = omega (arith, r.table);
                  rows_most = omega (arith, k.rows_most);
                };
            fits = fit_more st text names rows k (length d.text) d.count first many distance (d.text ++ (10 ∷ [])) d.rows inner;
            spelt = λ f s. spelt_more st text names rows k (length d.text) d.count first many distance (d.text ++ (10 ∷ [])) d.rows inner (mine s) f s;
            more = λ n q. record { few = few; names = refl; count = refl };
          }

      keep_holds : Holds bytes dir (keeping st text names rows) (keep_of (source rules bytes dir cur) (keeping st text names rows) d first many distance)
      unfolding keep_of
      keep_holds =
          pick_holds (Holds bytes dir (keeping st text names rows)) (room_for (keeping st text names rows) d) _ _ kept_holds (λ h. at_holds reason.NoRoom)

    dup_holds : (distance : ℕ) (x : Entry) → Headed (source rules bytes dir cur) dup_stream distance st.names → EntryInside st rows x
        → (AllSpelt (keeping st text names rows) → RowsSpelt (steps.earlier text rows x.first x.rows))
        → Holds bytes dir (keeping st text names rows) (dup_of (source rules bytes dir cur) (keeping st text names rows) distance x)
    unfolding dup_of
    dup_holds distance x g i w =
        let l = length_part text x.start (x.start + x.length) (omega arith) (omega (arith, i.text.ends, k.used)) in
        keep_holds (draft (part text x.start (x.start + x.length)) [] 0 (head_past cur dup_stream)) x.first x.rows distance
        (head_open rules bytes dir cur dup_stream distance st.names o (omega arith) (omega arith) g) (omega (arith, i.text.most)) (omega arith) refl
        (copy_inner st text names rows k x (length (part text x.start (x.start + x.length))) distance (omega arith) i)
        (λ s. old_spelt st text names rows k (part text x.start (x.start + x.length) ++ (10 ∷ [])) [] x i (w s))

    named_holds : (distance : ℕ) (e : Earlier) → Rows st.text e → Headed (source rules bytes dir cur) diff_stream distance st.names → (n : Named)
        → name_of (source rules bytes dir cur) e st.text (head_past cur diff_stream) ≡ n → Holds bytes dir (keeping st text names rows) (named_of (source rules bytes dir cur) (keeping st text names rows) distance n)
    unfolding named_of
    named_holds distance e r g (named D) q =
        let b = name_bounds (source rules bytes dir cur) e st.text (head_past cur diff_stream) D q in
        let p = head_open rules bytes dir cur diff_stream distance st.names o (omega arith) (omega arith) g in
        let w = name_rowed (source rules bytes dir cur) e st.text o r (head_past cur diff_stream) D q in
        keep_holds D st.rows D.count distance (name_open rules bytes dir cur e st.text (head_past cur diff_stream) D p (head_same cur diff_stream (omega arith)) q)
        (b.short (omega arith)) (omega (arith, b.few)) (b.whole refl)
        (named_inner st text names rows k D distance b.some (b.short (omega arith)) (b.held (λ z. absurd (omega arith))) (omega (arith, b.few)) w)
        (λ s. named_spelt st text names rows k D w)
    named_holds distance e w g (refused r) q = at_holds _

    diff_holds : (distance : ℕ) (e : Earlier) → Rows st.text e → Headed (source rules bytes dir cur) diff_stream distance st.names
        → Holds bytes dir (keeping st text names rows) (diff_of (source rules bytes dir cur) (keeping st text names rows) distance e)
    unfolding diff_of
    diff_holds distance e r g = named_holds distance e r g (name_of (source rules bytes dir cur) e st.text (head_past cur diff_stream)) refl

    back_inside : (d : ℕ) → earlier_fits (keeping st text names rows) (st.names - d) ≡ true → EntryInside st rows (entry_back (keeping st text names rows) d)
    back_inside d h = rw (back_entry (keeping st text names rows) d) (earlier (keeping st text names rows) (st.names - d) h)

    back_spelt : (d : ℕ) → st.names - d < st.names → AllSpelt (keeping st text names rows) → RowsSpelt (rows_of (keeping st text names rows) (entry_back (keeping st text names rows) d))
    back_spelt d l s = rw (back_entry (keeping st text names rows) d) (s (st.names - d) l)

    dup_judged_holds : (d : ℕ) → (1 ≤ d) × Headed (source rules bytes dir cur) dup_stream d st.names
        → Holds bytes dir (keeping st text names rows) (dup_judged (source rules bytes dir cur) (keeping st text names rows) d)
    unfolding rows_of
    dup_judged_holds d g =
        pick_holds (Holds bytes dir (keeping st text names rows)) (earlier_fits (keeping st text names rows) (st.names - d)) _ _
        (λ h. dup_holds d (entry_back (keeping st text names rows) d) g.1 (back_inside d h) (back_spelt d (omega (arith, g.0, g.1.near))))
        (λ h. at_holds reason.Outside)

    first_headed : (d : ℕ) → d ≡ 0 → Headed (source rules bytes dir cur) diff_stream d st.names → Headed (source rules bytes dir cur) diff_stream 0 st.names
    first_headed d z g = rw z at g

    diff_judged_holds : (d : ℕ) → Headed (source rules bytes dir cur) diff_stream d st.names
        → Holds bytes dir (keeping st text names rows) (diff_judged (source rules bytes dir cur) (keeping st text names rows) d)
    unfolding none rows_of
    diff_judged_holds d g =
        pick_holds (Holds bytes dir (keeping st text names rows)) (eqb d 0) _ _
        (λ z. diff_holds 0 (none (keeping st text names rows)) (rows_none st.text text rows k.used) (first_headed d (eqb-true d 0 z) g))
        (λ z.
        pick_holds (Holds bytes dir (keeping st text names rows)) (earlier_fits (keeping st text names rows) (st.names - d)) _ _
        (λ h. diff_holds d (rows_of (keeping st text names rows) (entry_back (keeping st text names rows) d))
        (rows_judged st text rows (entry_back (keeping st text names rows) d) k.rows_used k.used (back_inside d h)) g)
        (λ h. at_holds reason.Outside))

    headed_holds : (h : Head) → head_of (source rules bytes dir cur) st.names ≡ h
        → Holds bytes dir (keeping st text names rows) (headed_of (source rules bytes dir cur) (keeping st text names rows) h)
    unfolding headed_of
    headed_holds (Ok (reference.Dup d)) q = dup_judged_holds d.0 (dup_told (source rules bytes dir cur) st.names d q)
    headed_holds (Ok (reference.Diff d)) q = diff_judged_holds d.0 (diff_told (source rules bytes dir cur) st.names d q)
    headed_holds (Err r) q = at_holds r

  pub next_holds : Holds bytes dir (keeping st text names rows) (next_of (source rules bytes dir cur) (keeping st text names rows))
  unfolding next_of
  next_holds =
      pick_holds (Holds bytes dir (keeping st text names rows)) (eqb st.names st.count) _ _
      (λ e. pick_holds (Holds bytes dir (keeping st text names rows)) (all_at_end dir cur) _ _ (λ h. done_holds) (λ h. plain_holds reason.Unread))
      (λ e.
      let z = eqb-false st.names st.count e in
      headed_holds (omega (arith, k.kept)) (head_of (source rules bytes dir cur) st.names) refl)

  -- a read judges nothing more than that
  pub read_next : read_of (source rules bytes dir cur) (keeping st text names rows) ≡ next_of (source rules bytes dir cur) (keeping st text names rows)
  unfolding read_of
  read_next =
      pick_true _ _ (open_sound bytes dir cur o)
      ∙ pick_true _ _ (counts_of (keeping st text names rows) k)
      ∙ pick_true _ _ (open_inside bytes dir cur o)
