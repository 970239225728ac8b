-- What stands below a place of a table is all that its entries and rows there depend on.
use Prim.Native.Nat.{ℕ, ◌+◌, ◌*◌, ◌≤◌, ◌<◌}
use mathlib.Core.Path.{◌≡◌, refl, ap, subst}
use mathlib.Core.List.{List, ◌∷◌}
use native.Mathlib.Omega.{arith}
use native.Mathlib.Nat.{add-zero}
use lib.ListN.{length, get_or}
use Rattle.base.specs.Memory.{written}
use Rattle.base.proofs.Every.{every_same}
use Rattle.base.proofs.Memory.{below_written, within_written}
use Rattle.base.proofs.Holding.{Holds, holds_at}
use Rattle.block.specs.declared.State.{State}
use Rattle.tables.specs.declared.Entry.{Entry}
use Rattle.tables.specs.declared.Row.{Row}
use Rattle.tables.specs.Tables.{Table, Kept, entry_size, entry_at, row_at, entry_numbers}
use Rattle.kept.specs.Judgement.{row_fits, rows_fit}
use Rattle.kept.specs.Inside.{RowInside, EntryInside, Earlier}
use Rattle.kept.proofs.Laws.{row_more}
use Rattle.tables.proofs.Rows.{SameRows}

-- two tables have the same first n numbers
abbrev pub Alike : List ℕ → List ℕ → ℕ → Type 0
Alike a b n = (j : ℕ) → j < n → get_or a j 0 ≡ get_or b j 0

pub entry_alike : (a b : List ℕ) (n : ℕ) → Alike a b (entry_size * n) → (i : ℕ) → i < n → entry_at a i ≡ entry_at b i
unfolding entry_at
entry_alike a b n alike i h =
    rw (
      alike (entry_size * i) (omega arith),
      alike (entry_size * i + 1) (omega arith),
      alike (entry_size * i + 2) (omega arith),
      alike (entry_size * i + 3) (omega arith),
      alike (entry_size * i + 4) (omega arith),
    )

pub rows_alike : (a b : Table) (n : ℕ) → SameRows a b n → (used first many : ℕ) → first + many ≤ n → rows_fit used a first many ≡ rows_fit used b first many
unfolding rows_fit
rows_alike a b n alike used first many h =
    every_same (λ (j : ℕ). row_fits used (row_at a j)) (λ (j : ℕ). row_fits used (row_at b j)) many first
    (λ j k l. ap (row_fits used) (alike j (omega arith)))

-- a write behind them leaves the first n numbers
pub alike_written : (d : List ℕ) (at : ℕ) (s : List ℕ) (n : ℕ) → n ≤ at → at ≤ length d → Alike (written d at s) d n
alike_written d at s n h k j l = below_written d at s j (omega arith) k

-- and behind a place stand the numbers that were written there
module _ (d : List ℕ) (at : ℕ) (s : List ℕ) (place from size : ℕ) (room : at ≤ length d) (is : place ≡ at + from) (fits : from + size ≤ length s) where
  number_written : (k : ℕ) → k < size → get_or (written d at s) (place + k) 0 ≡ get_or s (from + k) 0
  number_written k h =
      let e : place + k ≡ at + (from + k) = omega arith in
      rw e (within_written d at s room (from + k) (omega arith))

  first_written : 0 < size → get_or (written d at s) place 0 ≡ get_or s from 0
  first_written h = simp add-zero at (number_written 0 h)

pub entry_written : (d : List ℕ) (n : ℕ) (s : List ℕ) (i j : ℕ) → entry_size * n ≤ length d → i ≡ n + j → entry_size * j + entry_size ≤ length s
    → entry_at (written d (entry_size * n) s) i ≡ entry_at s j
unfolding entry_at
entry_written d n s i j room is fits =
    let first = first_written d (entry_size * n) s (entry_size * i) (entry_size * j) entry_size room (omega arith) fits in
    let number = number_written d (entry_size * n) s (entry_size * i) (entry_size * j) entry_size room (omega arith) fits in
    rw (first (omega arith), number 1 (omega arith), number 2 (omega arith), number 3 (omega arith), number 4 (omega arith))

pub one_entry : (e : Entry) → entry_at (entry_numbers e) 0 ≡ e
unfolding entry_at
one_entry e = refl

-- numbers that stand at a place of a table
first_holds : (table : List ℕ) (at a : ℕ) (s : List ℕ) → Holds table at (a ∷ s) → get_or table at 0 ≡ a
first_holds table at a s h = simp add-zero at (holds_at table at (a ∷ s) h 0 (omega arith))

-- where an entry's numbers stand is that entry
pub entry_holds : (table : List ℕ) (i : ℕ) (e : Entry) → Holds table (entry_size * i) (entry_numbers e) → entry_at table i ≡ e
unfolding entry_at
entry_holds table i e h =
    let number = holds_at table (entry_size * i) (entry_numbers e) h in
    rw (first_holds table (entry_size * i) _ _ h, number 1 (omega arith), number 2 (omega arith), number 3 (omega arith), number 4 (omega arith))

-- what pointed inside still does when more is kept behind it
pub entry_more : (s more : State) (a b : Table) → s.text ≤ more.text → s.rows ≤ more.rows → SameRows a b s.rows
    → (e : Entry) → EntryInside s a e → EntryInside more b e
entry_more s more a b h k alike e t =
    let x = t.text in
    let y = t.rows in
    record {
      text = record { some = x.some; most = x.most; ends = omega arith };
      rows = record { some = y.some; most = y.most; ends = omega arith };
      each =
          λ j l u.
          subst (λ (v : Row). RowInside more.text v) (alike j (omega arith)) (row_more s.text more.text h (row_at a j) (t.each j l u));
    }

pub earlier_more : (m more : Kept) (n : ℕ) → m.state.text ≤ more.state.text → m.state.rows ≤ more.state.rows
    → Alike m.names more.names (entry_size * n) → SameRows m.rows more.rows m.state.rows → (i : ℕ) → i < n → Earlier m i → Earlier more i
earlier_more m more n h k names rows i l t =
    subst (λ (e : Entry). EntryInside more.state more.rows e) (entry_alike m.names more.names n names i l)
    (entry_more m.state more.state m.rows more.rows h k rows (entry_at m.names i) t)
