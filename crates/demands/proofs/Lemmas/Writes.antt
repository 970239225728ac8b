-- A write that fits alters only its own places, and a put of rows only its own rows.
use Prim.Native.Nat.{ℕ, ◌+◌, ◌≤◌}
use mathlib.Core.Path.{◌≡◌, sym, subst}
use mathlib.Core.Logic.{inl, inr}
use mathlib.Core.List.{List}
use native.Mathlib.Omega.{arith}
use lib.ListN.{length, get_or}
use Rattle.base.specs.Memory.{written}
use Rattle.base.proofs.Memory.{below_written, above_written, length_written}
use Rattle.tables.specs.declared.Row.{Row}
use Rattle.tables.specs.Tables.{Table, row_room, row_at, put_rows}
use Rattle.tables.proofs.Rows.{room_put, below_put, behind_put, unused_put}
use Rattle.demands.specs.Adds.{Outside, Alike, RowsAlike}

other_written : (d : List ℕ) (at : ℕ) (s : List ℕ) → at ≤ length d → (i : ℕ) → Outside at (at + length s) i → get_or (written d at s) i 0 ≡ get_or d i 0
other_written d at s h i (inl k) = below_written d at s i k h
other_written d at s h i (inr k) = above_written d at s h i k

pub alike_written : (d : List ℕ) (at : ℕ) (s : List ℕ) (to : ℕ) → at + length s ≡ to → to ≤ length d → Alike d (written d at s) at to
alike_written d at s to e h = record {
  lengths = length_written d at s (omega arith);
  others = λ j o. other_written d at s (omega arith) j (subst (λ n. Outside at n j) (sym e) o);
}

other_put : (t : Table) (i : ℕ) (rs : List Row) → i ≤ row_room t → (j : ℕ) → Outside i (i + length rs) j → row_at (put_rows t i rs) j ≡ row_at t j
other_put t i rs h j (inl k) = below_put t i rs i (omega arith) h j k
other_put t i rs h j (inr k) = behind_put t i rs h j k

pub rows_alike : (t : Table) (i : ℕ) (rs : List Row) (to : ℕ) → i + length rs ≡ to → to ≤ row_room t → RowsAlike t (put_rows t i rs) i to
rows_alike t i rs to e h = record {
  room = room_put t i rs (omega arith);
  others = λ j o. other_put t i rs (omega arith) j (subst (λ n. Outside i n j) (sym e) o);
  unused = unused_put t i rs (omega arith);
}
