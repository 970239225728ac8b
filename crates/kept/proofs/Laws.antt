-- What the judgement tells, and what makes it pass.
use Prim.Native.Nat.{ℕ, ◌+◌, ◌≤◌, ◌<◌}
use mathlib.Core.Path.{◌≡◌, refl, sym, ◌∙◌}
use mathlib.Core.Bool.{true}
use mathlib.Core.List.{List}
use mathlib.Core.Logic.{inl, inr, ⊎_elim}
use native.Mathlib.Omega.{arith}
use borrow.Author.Tests.{leb-true, le-leb, eqb-true, eqb-false, eq-eqb, ne_eqb}
use lib.Dec.{leb, eqb}
use lib.ListN.{length}
use Rattle.base.specs.Choice.{both}
use Rattle.base.proofs.Choice.{both_true, both_of, pick_true, pick_false, by_test}
use Rattle.base.proofs.Every.{every_each, each_every}
use Rattle.digits.specs.Digits.{fits_width}
use Rattle.block.specs.declared.State.{State}
use Rattle.block.specs.Block.{state}
use Rattle.tables.specs.declared.Entry.{Entry}
use Rattle.tables.specs.declared.Row.{Row}
use Rattle.tables.specs.Tables.{Table, Kept, entry_size, keeping, room, row_room, row_at}
use Rattle.kept.specs.Judgement.{text_counts, row_counts, counts, entry_text, entry_rows, row_kind, row_fits, rows_fit, earlier_fits}
use Rattle.tables.proofs.Room.{room_holds, room_of_law}
use Rattle.kept.specs.Inside.{TextCounted, RowCounted, Counted, TextInside, RowsInside, KindInside, RowInside, Earlier}

module _ (s : State) (text names : List ℕ) where
  pub text_counted : text_counts s (length text) (room entry_size names) ≡ true → TextCounted s text names
  unfolding text_counts
  text_counted e =
      let a = both_true _ _ e in
      let b = both_true _ _ a.1 in
      let c = both_true _ _ b.1 in
      let d = both_true _ _ c.1 in
      record {
        kept = leb-true _ _ a.0;
        limit = leb-true _ _ c.0;
        entries = room_holds entry_size (omega arith) _ _ (leb-true _ _ b.0);
        used = leb-true _ _ d.0;
        most = leb-true _ _ d.1;
      }

  pub text_counts_of : TextCounted s text names → text_counts s (length text) (room entry_size names) ≡ true
  unfolding text_counts
  text_counts_of t =
      both_of (le-leb _ _ t.kept)
      (both_of (le-leb _ _ (room_of_law entry_size (omega arith) _ _ t.entries))
      (both_of (le-leb _ _ t.limit)
      (both_of (le-leb _ _ t.used)
      (le-leb _ _ t.most))))

module _ (s : State) (rows : Table) where
  pub row_counted : row_counts s (row_room rows) ≡ true → RowCounted s rows
  unfolding row_counts
  row_counted e =
      let a = both_true _ _ e in
      record { rows_used = leb-true _ _ a.0; rows_most = leb-true _ _ a.1 }

  pub row_counts_of : RowCounted s rows → row_counts s (row_room rows) ≡ true
  unfolding row_counts
  row_counts_of t = both_of (le-leb _ _ t.rows_used) (le-leb _ _ t.rows_most)

module _ (m : Kept) where
  pub counted : counts m ≡ true → Counted m
  unfolding counts
  counted e =
      let a = both_true _ _ e in
      let t = text_counted m.state m.text m.names a.0 in
      let r = row_counted m.state m.rows a.1 in
      record {
        kept = t.kept;
        limit = t.limit;
        entries = t.entries;
        used = t.used;
        most = t.most;
        rows_used = r.rows_used;
        rows_most = r.rows_most;
      }

  pub counts_text : Counted m → TextCounted m.state m.text m.names
  counts_text c = record { kept = c.kept; limit = c.limit; entries = c.entries; used = c.used; most = c.most }

  pub counts_of : Counted m → counts m ≡ true
  unfolding counts
  counts_of c =
      both_of (text_counts_of m.state m.text m.names (counts_text c))
      (row_counts_of m.state m.rows (record { rows_used = c.rows_used; rows_most = c.rows_most }))

-- nothing is kept yet
pub fresh_counted : (count : ℕ) (text names : List ℕ) (rows : Table) → count ≤ 65536 → Counted (keeping (state count 0 0 0) text names rows)
fresh_counted count text names rows h = record {
  kept = omega arith;
  limit = h;
  entries = omega arith;
  used = omega arith;
  most = omega arith;
  rows_used = omega arith;
  rows_most = omega arith;
}

module _ (s : State) (e : Entry) where
  pub text_inside : entry_text s e ≡ true → TextInside s e
  unfolding entry_text
  text_inside t =
      let a = both_true _ _ t in
      let b = both_true _ _ a.1 in
      record { some = leb-true _ _ a.0; most = leb-true _ _ b.0; ends = leb-true _ _ b.1 }

  pub entry_text_of : TextInside s e → entry_text s e ≡ true
  unfolding entry_text
  entry_text_of t = both_of (le-leb _ _ t.some) (both_of (le-leb _ _ t.most) (le-leb _ _ t.ends))

  pub rows_inside : entry_rows s e ≡ true → RowsInside s e
  unfolding entry_rows
  rows_inside t =
      let a = both_true _ _ t in
      let b = both_true _ _ a.1 in
      record { some = leb-true _ _ a.0; most = leb-true _ _ b.0; ends = leb-true _ _ b.1 }

  pub entry_rows_of : RowsInside s e → entry_rows s e ≡ true
  unfolding entry_rows
  entry_rows_of t = both_of (le-leb _ _ t.some) (both_of (le-leb _ _ t.most) (le-leb _ _ t.ends))

-- the judgement of a row by its kind, a law for each
module _ (r : Row) where
  pub kind_string : r.kind ≡ 1 → row_kind r ≡ true
  unfolding row_kind
  kind_string k = pick_true _ _ (eq-eqb _ _ k)

  pub kind_char : r.kind ≡ 2 → row_kind r ≡ eqb r.length 1
  unfolding row_kind
  kind_char k = pick_false _ _ (ne_eqb r.kind 1 (λ (w : r.kind ≡ 1). omega arith)) ∙ pick_true _ _ (eq-eqb _ _ k)

  pub kind_padded : r.kind ≡ 4 → row_kind r ≡ both (leb r.width 254) (fits_width r.number r.width)
  unfolding row_kind
  kind_padded k =
      pick_false _ _ (ne_eqb r.kind 1 (λ (w : r.kind ≡ 1). omega arith))
      ∙ pick_false _ _ (ne_eqb r.kind 2 (λ (w : r.kind ≡ 2). omega arith))
      ∙ pick_true _ _ (eq-eqb _ _ k)

  pub kind_other : (r.kind ≡ 1 → ⊥) → (r.kind ≡ 2 → ⊥) → (r.kind ≡ 4 → ⊥) → row_kind r ≡ eqb r.kind 7
  unfolding row_kind
  kind_other a b c = pick_false _ _ (ne_eqb _ _ a) ∙ pick_false _ _ (ne_eqb _ _ b) ∙ pick_false _ _ (ne_eqb _ _ c)

  pub kind_digits : r.kind ≡ 7 → row_kind r ≡ true
  kind_digits k = kind_other (λ w. omega arith) (λ w. omega arith) (λ w. omega arith) ∙ eq-eqb _ _ k

  pub kind_inside : row_kind r ≡ true → KindInside r
  kind_inside t =
      record {
        kinds =
            by_test (eqb r.kind 1) (λ a. inl (eqb-true _ _ a)) (λ a.
            by_test (eqb r.kind 2) (λ b. inr (inl (eqb-true _ _ b))) (λ b.
            by_test (eqb r.kind 4) (λ c. inr (inr (inl (eqb-true _ _ c)))) (λ c.
            inr (inr (inr (eqb-true _ _ (sym (kind_other (eqb-false _ _ a) (eqb-false _ _ b) (eqb-false _ _ c)) ∙ t)))))));
        char = λ k. eqb-true _ _ (sym (kind_char k) ∙ t);
        width = λ k. leb-true _ _ (both_true _ _ (sym (kind_padded k) ∙ t)).0;
        number = λ k. (both_true _ _ (sym (kind_padded k) ∙ t)).1;
      }

  pub row_kind_of : KindInside r → row_kind r ≡ true
  row_kind_of t =
      ⊎_elim kind_string
      (⊎_elim (λ b. kind_char b ∙ eq-eqb _ _ (t.char b))
      (⊎_elim (λ c. kind_padded c ∙ both_of (le-leb _ _ (t.width c)) (t.number c)) kind_digits)) t.kinds

module _ (used : ℕ) (r : Row) where
  pub row_inside : row_fits used r ≡ true → RowInside used r
  unfolding row_fits
  row_inside t = let a = both_true _ _ t in record { ends = leb-true _ _ a.0; kind = kind_inside r a.1 }

  pub row_fits_of : RowInside used r → row_fits used r ≡ true
  unfolding row_fits
  row_fits_of t = both_of (le-leb _ _ t.ends) (row_kind_of r t.kind)

-- what points inside still does when more is used
pub row_more : (used more : ℕ) → used ≤ more → (r : Row) → RowInside used r → RowInside more r
row_more used more h r t = record { ends = let l : r.start + r.length ≤ used = t.ends in omega arith; kind = t.kind }

module _ (used : ℕ) (rows : Table) (n i : ℕ) where
  pub rows_each : rows_fit used rows i n ≡ true → (j : ℕ) → i ≤ j → j < i + n → row_fits used (row_at rows j) ≡ true
  unfolding rows_fit
  rows_each t j h k = every_each (λ (l : ℕ). row_fits used (row_at rows l)) n i j t h k

  pub each_rows : ((j : ℕ) → i ≤ j → j < i + n → row_fits used (row_at rows j) ≡ true) → rows_fit used rows i n ≡ true
  unfolding rows_fit
  each_rows t = each_every (λ (l : ℕ). row_fits used (row_at rows l)) n i t

module _ (m : Kept) (i : ℕ) where
  pub earlier : earlier_fits m i ≡ true → Earlier m i
  unfolding earlier_fits
  earlier t =
      let a = both_true _ _ t in
      let b = both_true _ _ a.1 in
      record {
        text = text_inside _ _ a.0;
        rows = rows_inside _ _ b.0;
        each = λ j h k. row_inside _ _ (rows_each _ _ _ _ b.1 j h k);
      }

  pub earlier_fits_of : Earlier m i → earlier_fits m i ≡ true
  unfolding earlier_fits
  earlier_fits_of t =
      both_of (entry_text_of _ _ t.text)
      (both_of (entry_rows_of _ _ t.rows)
      (each_rows _ _ _ _ (λ j h k. row_fits_of _ _ (t.each j h k))))

-- the bytes of the text don't matter to the judgement of an earlier name
pub earlier_text : (s : State) (text other names : List ℕ) (rows : Table) (i : ℕ)
    → earlier_fits (keeping s text names rows) i ≡ earlier_fits (keeping s other names rows) i
unfolding earlier_fits
earlier_text s text other names rows i = refl
