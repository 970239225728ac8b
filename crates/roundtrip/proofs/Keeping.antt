-- A name that was read is kept: its entry says where it stands, its rows are those of its split, and what was kept before stays.
use Prim.Native.Nat.{ℕ, ◌+◌, ◌*◌, ◌≤◌, ◌<◌}
use Rattle.std.specs.Prelude.{Some, Ok}
use mathlib.Core.Path.{◌≡◌, refl, sym, ap, ap₂, ◌∙◌, subst}
use mathlib.Core.List.{List, [], ◌∷◌, ◌++◌}
use native.Mathlib.Omega.{arith}
use borrow.Author.Tests.{le-leb}
use lib.ListN.{length, length-append}
use Rattle.base.specs.Memory.{part, written}
use Rattle.base.proofs.Choice.{pick_true, both_of}
use Rattle.base.proofs.Memory.{length_written}
use Rattle.base.proofs.Below.{take_written}
use Rattle.base.proofs.Holding.{Holds, holds_written, holds_left, holds_part, holds_same, holds_stays}
use Rattle.block.specs.Block.{state}
use Rattle.tables.specs.declared.Entry.{Entry}
use Rattle.tables.specs.Tables.{entry_size, Kept, keeping, entry_at, row_room, put_rows, Table}
use Rattle.tables.proofs.Room.{room_of_law}
use Rattle.kept.proofs.Frame.{entry_holds}
use Rattle.kept.proofs.Later.{Later, entry_later}
use Rattle.sources.specs.Source.{Source, earlier}
use Rattle.names.specs.Names.{Draft}
use Rattle.outcomes.specs.Outcomes.{outcome}
use Rattle.outcomes.specs.Keeping.{room_for, kept, keep_of}
use Rattle.entries.specs.Entries.{entry_of}
use Rattle.roundtrip.specs.Rows.{split_rows, tokens_in}
use Rattle.roundtrip.specs.Back.{NameIs, RowsAre, rows_at}
use Rattle.roundtrip.proofs.Spelling.{RowsOf, length_split}
use Rattle.tables.specs.declared.Row.{Row}
use Rattle.tables.proofs.Rows.{RowsHold, room_put, below_put, within_put, hold_first, hold_rest, hold_same}

-- entry i says that name i is s; all that it points to is kept
pub record EntryIs (m : Kept) (i : ℕ) (s : List ℕ) : Type 0 where
  pub size : (entry_at m.names i).length ≡ length s
  pub text : Holds m.text (entry_at m.names i).start s
  pub below : (entry_at m.names i).start + length s ≤ m.state.text
  pub rows : RowsOf (earlier m.text m.rows (entry_at m.names i).first (entry_at m.names i).rows) m.state.text s
  pub inside : (entry_at m.names i).first + (entry_at m.names i).rows ≤ m.state.rows

-- so its text is the name
pub entry_text_law : (m : Kept) (i : ℕ) (s : List ℕ) → EntryIs m i s
    → part m.text (entry_at m.names i).start ((entry_at m.names i).start + (entry_at m.names i).length) ≡ s
entry_text_law m i s is =
    let a : ℕ = (entry_at m.names i).start in
    ap (λ (n : ℕ). part m.text a (a + n)) is.size ∙ holds_part m.text a s is.text

-- a name whose entry is kept is still that name
pub stays_name : (m n : Kept) (i : ℕ) (s : List ℕ) → Later m n → i < m.state.names → EntryIs m i s → NameIs n i s
stays_name m n i s p h is =
    let q : entry_at m.names i ≡ entry_at n.names i = sym (entry_later m n p i h) in
    let a : ℕ = (entry_at m.names i).start in
    let t : part n.text a (a + (entry_at m.names i).length) ≡ s =
    ap (λ (k : ℕ). part n.text a (a + k)) is.size ∙ holds_part n.text a s (holds_same m.text n.text a s m.state.text (sym p.in_text) is.below is.text) in
    record {
      size = sym (ap (λ (e : Entry). e.length) q) ∙ is.size;
      text = subst (λ (e : Entry). part n.text e.start (e.start + e.length) ≡ s) q t;
    }

-- rows that stand in a table, read from it
hold_rows : (t : Table) (i : ℕ) (rs : List Row) → RowsHold t i rs → rows_at t i (length rs) ≡ rs
unfolding rows_at
hold_rows t i [] h = refl
hold_rows t i (r ∷ rs) h = ap₂ ◌∷◌ (hold_first t i r rs h) (hold_rows t (i + 1) rs (hold_rest t i r rs h))

-- and its rows are those of its split
pub stays_rows : (m n : Kept) (i : ℕ) (s : List ℕ) → Later m n → n.state.rows ≤ row_room n.rows → i < m.state.names → EntryIs m i s → RowsAre n i s
stays_rows m n i s p room h is =
    let q : entry_at m.names i ≡ entry_at n.names i = sym (entry_later m n p i h) in
    let f : ℕ = (entry_at m.names i).first in
    let c : ℕ = (entry_at m.names i).rows in
    let many : c ≡ tokens_in s = is.rows.many in
    let o : ℕ = is.rows.origin in
    let l : length (split_rows s o) ≡ tokens_in s = length_split s o in
    let e : c ≡ length (split_rows s o) = omega arith in
    let r : rows_at n.rows f c ≡ split_rows s o =
    ap (rows_at n.rows f) e
    ∙ hold_rows n.rows f (split_rows s o) (hold_same m.rows n.rows f (split_rows s o) m.state.rows (λ j b. sym (p.in_rows_law j b)) (omega (arith, is.inside)) is.rows.rows) in
    record {
      many = sym (ap (λ (x : Entry). x.rows) q) ∙ many;
      origin = o;
      text = holds_part n.text o s (holds_same m.text n.text o s m.state.text (sym p.in_text) is.rows.below is.rows.text);
      inside = subst (λ (x : Entry). x.first + x.rows ≤ row_room n.rows) q (omega (arith, is.inside, p.rows, room));
      rows = subst (λ (x : Entry). rows_at n.rows x.first x.rows ≡ split_rows s o) q r;
    }

-- one name kept: d is what was read, and its rows, added now or kept before, are `many` rows from `first` on
module _ (m : Kept) (s : List ℕ) (d : Draft) (text : d.text ≡ s) (whole : length d.rows ≡ d.count)
    (roomy : m.state.text + length s + 1 ≤ length m.text) (fits : entry_size * (m.state.names + 1) ≤ length m.names) (enough : m.state.rows + d.count ≤ row_room m.rows)
    (first many distance : ℕ) where
  abbrev pub after : Kept
  after =
      keeping
      (state m.state.count (m.state.names + 1) (m.state.text + length d.text + 1) (m.state.rows + d.count))
      (written m.text m.state.text (d.text ++ (10 ∷ [])))
      (written m.names (entry_size * m.state.names) (entry_of m.state (length d.text) first many distance))
      (put_rows m.rows m.state.rows d.rows)

  text_length_law : length d.text ≡ length s
  text_length_law = ap length text

  pub kept_back : (src : Source) → keep_of src m d first many distance ≡ outcome (Ok (Some m.state.names)) d.cur after
  unfolding keep_of kept room_for
  kept_back src =
      pick_true _ _
      (both_of (le-leb (m.state.text + length d.text + 1) (length m.text) (omega (arith, text_length_law)))
      (both_of (le-leb _ _ (room_of_law entry_size (omega arith) m.names (m.state.names + 1) fits))
      (le-leb _ _ enough)))

  -- the new name and its byte 10
  pub after_text : Holds after.text m.state.text (s ++ 10 ∷ [])
  after_text = subst (λ (l : List ℕ). Holds after.text m.state.text (l ++ 10 ∷ [])) text (holds_written m.text m.state.text (d.text ++ 10 ∷ []) (omega arith))

  after_entry : entry_at after.names m.state.names ≡ record { start = m.state.text; length = length d.text; first = first; rows = many; distance = distance }
  after_entry =
      entry_holds after.names m.state.names (record { start = m.state.text; length = length d.text; first = first; rows = many; distance = distance })
      (holds_written m.names (entry_size * m.state.names) (entry_of m.state (length d.text) first many distance) (omega arith))

  pub after_is : RowsOf (earlier after.text after.rows first many) after.state.text s → first + many ≤ after.state.rows → EntryIs after m.state.names s
  after_is rows inside =
      record {
        size = rw after_entry text_length_law;
        text = rw after_entry (holds_left after.text m.state.text s (10 ∷ []) after_text);
        below = rw after_entry (omega (arith, text_length_law));
        rows = rw after_entry rows;
        inside = rw after_entry inside;
      }

  pub after_stays : Later m after
  after_stays =
      record {
        names = omega arith;
        text = omega arith;
        rows = omega arith;
        in_text = take_written m.text m.state.text (d.text ++ (10 ∷ [])) m.state.text (omega arith) (omega arith);
        in_names = take_written m.names (entry_size * m.state.names) (entry_of m.state (length d.text) first many distance) (entry_size * m.state.names) (omega arith) (omega arith);
        in_rows_law = below_put m.rows m.state.rows d.rows m.state.rows (omega arith) (omega arith);
      }

  ten : length (d.text ++ (10 ∷ [])) ≡ length s + 1
  ten = length-append d.text (10 ∷ []) ∙ ap (λ (n : ℕ). n + 1) text_length_law

  pub after_texts : length after.text ≡ length m.text
  after_texts = length_written m.text m.state.text (d.text ++ (10 ∷ [])) (omega (arith, ten))

  pub after_names : length after.names ≡ length m.names
  after_names = length_written m.names (entry_size * m.state.names) (entry_of m.state (length d.text) first many distance) (omega arith)

  pub after_rows : row_room after.rows ≡ row_room m.rows
  after_rows = room_put m.rows m.state.rows d.rows (omega arith)

  -- rows added now
  pub rows_new : d.rows ≡ split_rows s m.state.text → d.count ≡ tokens_in s → RowsOf (earlier after.text after.rows m.state.rows d.count) after.state.text s
  rows_new r c =
      record {
        origin = m.state.text;
        text = holds_left after.text m.state.text s (10 ∷ []) after_text;
        below = omega (arith, text_length_law);
        rows = subst (RowsHold after.rows m.state.rows) r (within_put m.rows m.state.rows d.rows (omega arith));
        many = c;
      }

  -- rows kept before
  pub rows_old : (f n : ℕ) → RowsOf (earlier m.text m.rows f n) m.state.text s → f + n ≤ m.state.rows → RowsOf (earlier after.text after.rows f n) after.state.text s
  rows_old f n o h =
      record {
        origin = o.origin;
        text = holds_stays m.text o.origin s m.state.text (d.text ++ (10 ∷ [])) o.below (omega arith) o.text;
        below = omega (arith, o.below);
        rows =
            hold_same m.rows after.rows f (split_rows s o.origin) m.state.rows
            (λ j b. sym (below_put m.rows m.state.rows d.rows m.state.rows (omega arith) (omega arith) j b))
            (omega (arith, length_split s o.origin, o.many)) o.rows;
        many = o.many;
      }
