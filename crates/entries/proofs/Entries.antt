-- Room for a name, told as the code tells it, and what it gives; and the state after the name.
use Prim.Native.Nat.{ℕ, ◌+◌, ◌*◌, ◌^◌, ◌≤◌, ◌<◌}
use Rattle.std.specs.Prelude.{Some, Ok}
use mathlib.Core.Path.{◌≡◌, sym, ◌∙◌}
use mathlib.Core.Bool.{true}
use mathlib.Core.List.{List}
use native.Mathlib.Omega.{arith}
use borrow.Author.Tests.{leb-true, leb-false, le-leb, lt-leb}
use lib.Dec.{leb}
use lib.ListN.{length}
use Rattle.base.proofs.Numbers.{by_order}
use Rattle.base.proofs.Choice.{both_true, by_test}
use Rattle.block.specs.declared.State.{State}
use Rattle.block.specs.Block.{state}
use Rattle.tables.specs.Tables.{keeping, entry_size, row_size, Table, row_room, in_rows}
use Rattle.kept.specs.Inside.{Counted}
use Rattle.tables.proofs.Room.{room_holds}
use Rattle.tables.proofs.Rows.{room_numbers, numbers_room}
use Rattle.entries.specs.Entries.{reading, keeping_name, room_of}

-- room for so many rows, told without dividing
pub room_test : (l : List ℕ) (k : ℕ) → leb (row_size * k) (length l) ≡ leb k (row_room (in_rows l))
room_test l k =
    by_test (leb k (row_room (in_rows l)))
    (λ h. le-leb _ _ (room_numbers l k (leb-true _ _ h)) ∙ sym h)
    (λ h.
    let out : k ≤ row_room (in_rows l) → ⊥ = λ i. let r : row_room (in_rows l) < k = leb-false _ _ h in omega arith in
    by_order (length l) (row_size * k) (λ i. lt-leb _ _ i ∙ sym h) (λ i. absurd (out (numbers_room l k i))))

-- the answer and the state after a name that is kept
pub entered : (st : State) (size added : ℕ) {k n t r : ℕ} → k ≡ st.names → n ≡ st.names + 1 → t ≡ st.text + size + 1 → r ≡ st.rows + added
    → reading (Ok (Some k)) (state st.count n t r) ≡ keeping_name st size added
unfolding keeping_name
entered st size added p q t r = rw (p, q, t, r)

module _ (bytes dir cur text names : List ℕ) (rows : Table) (st : State) where
  -- what room is
  pub record Room (size added : ℕ) : Type 0 where
    pub texts : st.text + size + 1 ≤ length text
    pub entries : entry_size * (st.names + 1) ≤ length names
    pub table : st.rows + added ≤ row_room rows

  pub has_room : (size added : ℕ) → room_of (keeping st text names rows) size added ≡ true → Room size added
  has_room size added q =
      let a = both_true _ _ q in
      let b = both_true _ _ a.1 in
      record { texts = leb-true _ _ a.0; entries = room_holds entry_size (omega arith) names (st.names + 1) (leb-true _ _ b.0); table = leb-true _ _ b.1 }

  -- what the entry asks for
  pub enter_asks : (size added : ℕ) → Counted (keeping st text names rows) → Room size added → size ≤ 254 → added ≤ 127
      → (entry_size * st.names + entry_size ≤ length names) × ((st.names + 1 < 2 ^ 32) × ((st.text + size + 1 < 2 ^ 32) × (st.rows + added < 2 ^ 32)))
  enter_asks size added c r s a = (omega (arith, r.entries), (omega (arith, c.kept, c.limit), (omega (arith, c.kept, c.limit, c.most), omega (arith, c.kept, c.limit, c.rows_most))))
