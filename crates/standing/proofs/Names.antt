-- How a name stands in the tables once it is kept, and that it goes on standing there.
use Prim.Native.Nat.{ℕ, zero, suc, ◌+◌, ◌-◌, ◌*◌, ◌≤◌, ◌<◌}
use mathlib.Core.Path.{◌≡◌, refl, sym, ap, ◌∙◌, subst}
use mathlib.Core.List.{List, [], ◌∷◌, ◌++◌}
use native.Mathlib.Omega.{arith}
use native.Mathlib.Nat.{add-zero}
use lib.ListN.{length, get_or, take, length-append}
use Rattle.base.specs.Memory.{part}
use Rattle.base.proofs.Below.{take_written}
use Rattle.base.proofs.Holding.{Holds, holds_written, holds_left, holds_right, holds_part, part_holds}
use Rattle.tables.specs.declared.Entry.{Entry}
use Rattle.tables.specs.Tables.{Table, entry_size, Kept, entry_at, row_at}
use Rattle.kept.specs.Inside.{Counted, Earlier}
use Rattle.kept.proofs.Frame.{entry_holds}
use Rattle.tables.proofs.Rows.{RowsHold, below_put, within_put, hold_first, hold_rest}
use Rattle.kept.proofs.Later.{Later, entry_later, row_later, part_later}
use Rattle.names.specs.Names.{Draft}
use Rattle.outcomes.specs.Keeping.{kept}
use Rattle.earlier.specs.Back.{rows_of}
use Rattle.repeats.specs.Repeats.{row_here}
use Rattle.words.specs.Values.{Value, char, prints, spelt, row_for, Name}
use Rattle.standing.specs.Stands.{Stands}
use Rattle.standing.proofs.Shown.{RowsTell, none, more}
use Rattle.standing.proofs.Walks.{rows_for}

-- rows that stand in a table
pub rows_at : (table : Table) (vs : List Value) (first place j : ℕ) → RowsHold table first (rows_for vs place) → j < length vs
    → row_at table (first + j) ≡ row_for (get_or vs j (char 0)) (place + length (spelt (take j vs)))
unfolding rows_for spelt
rows_at table [] first place j h l = absurd (omega (arith, l))
rows_at table (v ∷ vs) first place zero h l =
    ap (row_at table) (add-zero first) ∙ hold_first table first (row_for v place) (rows_for vs (place + length (prints v))) h ∙ ap (row_for v) (sym (add-zero place))
rows_at table (v ∷ vs) first place (suc j) h l =
    let rest = hold_rest table first (row_for v place) (rows_for vs (place + length (prints v))) h in
    let here : first + suc j ≡ first + 1 + j = omega arith in
    let there : place + length (prints v) + length (spelt (take j vs)) ≡ place + length (prints v ++ spelt (take j vs)) =
    omega (arith, length-append (prints v) (spelt (take j vs))) in
    ap (row_at table) here ∙ rows_at table vs (first + 1) (place + length (prints v)) j rest (omega (arith, l)) ∙ ap (row_for (get_or vs j (char 0))) there

-- a name more
module _ (m : Kept) (x : Draft) (first rows d : ℕ) (c : Counted m) where
  abbrev now : Kept
  now = (kept m x first rows d).kept

  pub later : Later m now
  unfolding kept
  later = record {
    names = omega arith;
    text = omega arith;
    rows = omega arith;
    in_text = take_written m.text m.state.text _ m.state.text (omega arith) c.used;
    in_names = take_written m.names (entry_size * m.state.names) _ (entry_size * m.state.names) (omega arith) c.entries;
    in_rows_law = below_put m.rows m.state.rows x.rows m.state.rows (omega arith) c.rows_used;
  }

  entered : entry_at now.names m.state.names ≡ record { start = m.state.text; length = length x.text; first = first; rows = rows; distance = d }
  unfolding kept
  entered = entry_holds _ _ _ (holds_written _ _ _ c.entries)

  written_text : Holds now.text m.state.text x.text
  unfolding kept
  written_text = holds_left _ _ x.text (10 ∷ []) (holds_written _ _ _ c.used)

  text_now : (vs : List Value) → x.text ≡ spelt vs → part now.text m.state.text (m.state.text + length (spelt vs)) ≡ spelt vs
  text_now vs e = holds_part now.text m.state.text (spelt vs) (subst (Holds now.text m.state.text) e written_text)

  -- with rows of its own
  pub own_stands : (vs : List Value) → x.text ≡ spelt vs → x.rows ≡ rows_for vs m.state.text → first ≡ m.state.rows → rows ≡ length vs
      → Stands now m.state.names (record { tokens = vs; distance = d })
  unfolding kept
  own_stands vs t r f n =
      let long : length x.text ≡ length (spelt vs) = ap length t in
      record {
        text = rw (entered, long) (text_now vs t);
        long = rw entered long;
        distance = rw entered refl;
        many = rw (entered, n);
        home = m.state.text;
        inside = omega (arith, long);
        there = text_now vs t;
        rows = λ j l. rw (entered, f, rows_at _ vs m.state.rows m.state.text j (subst (RowsHold now.rows m.state.rows) r (within_put m.rows m.state.rows x.rows c.rows_used)) l);
      }

  -- with an earlier name's
  pub same_stands : (i : ℕ) (n : Name) → Stands m i n → Earlier m i → x.text ≡ spelt n.tokens → first ≡ (entry_at m.names i).first → rows ≡ (entry_at m.names i).rows
      → Stands now m.state.names (record { tokens = n.tokens; distance = d })
  unfolding kept
  same_stands i n s f t a b =
      let long : length x.text ≡ length (spelt n.tokens) = ap length t in
      record {
        text = rw (entered, long) (text_now n.tokens t);
        long = rw entered long;
        distance = rw entered refl;
        many = rw (entered, b, s.many);
        home = s.home;
        inside = omega (arith, s.inside);
        there = part_later m now later s.home (s.home + length (spelt n.tokens)) (omega arith) s.inside ∙ s.there;
        rows = λ j l. rw (entered, a) (row_later m now later ((entry_at m.names i).first + j) (omega (arith, l, s.many, f.rows.ends)) ∙ s.rows j l);
      }

-- a kept name stays
pub stands_later : (m w : Kept) → Later m w → (i : ℕ) (n : Name) → i < m.state.names → Earlier m i → Stands m i n → Stands w i n
stands_later m w h i n l f s =
    let e : Entry = entry_at m.names i in
    let q : entry_at w.names i ≡ e = entry_later m w h i l in
    record {
      text = rw q (part_later m w h e.start (e.start + e.length) (omega arith) f.text.ends ∙ s.text);
      long = rw q s.long;
      distance = rw q s.distance;
      many = rw q s.many;
      home = s.home;
      inside = omega (arith, s.inside, h.text);
      there = part_later m w h s.home (s.home + length (spelt n.tokens)) (omega arith) s.inside ∙ s.there;
      rows = λ j k. rw q (row_later m w h (e.first + j) (omega (arith, k, s.many, f.rows.ends)) ∙ s.rows j k);
    }

-- the earlier name's rows are its tokens
module _ (m : Kept) (e : Entry) where
  rows_from_law : (vs : List Value) (p place : ℕ) → 1 ≤ p → e.rows ≡ p - 1 + length vs → Holds m.text place (spelt vs)
      → ((j : ℕ) → j < length vs → row_at m.rows (e.first + (p - 1) + j) ≡ row_for (get_or vs j (char 0)) (place + length (spelt (take j vs))))
      → RowsTell (rows_of m e) p vs
  unfolding rows_of spelt row_here
  rows_from_law [] p place low many h f = none p (omega (arith, many, low))
  rows_from_law (v ∷ vs) p place low many h f =
      more p v vs (omega (arith, many, low))
      (record {
        place = place;
        row = ap (row_at m.rows) (sym (add-zero (e.first + (p - 1)))) ∙ f 0 (omega arith) ∙ ap (row_for v) (add-zero place);
        holds = holds_left m.text place (prints v) (spelt vs) h;
      })
      (rows_from_law vs (p + 1) (place + length (prints v)) (omega arith) (omega (arith, many, low)) (holds_right m.text place (prints v) (spelt vs) h)
      (λ j l.
      let here : e.first + (p + 1 - 1) + j ≡ e.first + (p - 1) + suc j = omega (arith, low) in
      let there : place + length (prints v ++ spelt (take j vs)) ≡ place + length (prints v) + length (spelt (take j vs)) =
      omega (arith, length-append (prints v) (spelt (take j vs))) in
      ap (row_at m.rows) here ∙ f (suc j) (omega (arith, l)) ∙ ap (row_for (get_or vs j (char 0))) there))

pub rows_told : (m : Kept) (i : ℕ) (n : Name) → Stands m i n → RowsTell (rows_of m (entry_at m.names i)) 1 n.tokens
rows_told m i n s =
    rows_from_law m (entry_at m.names i) n.tokens 1 s.home (omega arith) (omega (arith, s.many)) (part_holds m.text s.home (spelt n.tokens) s.there)
    (λ j l.
    let here : (entry_at m.names i).first + (1 - 1) + j ≡ (entry_at m.names i).first + j = omega arith in
    ap (row_at m.rows) here ∙ s.rows j l)
