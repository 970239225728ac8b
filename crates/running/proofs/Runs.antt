-- What a run of MATCHes asks for, comes to and puts down.
use Prim.Native.Nat.{ℕ, ◌+◌, ◌-◌, ◌*◌, ◌^◌, ◌≤◌, ◌<◌}
use Rattle.std.specs.Prelude.{Err}
use Rattle.refusals.specs.declared.Reason.TheVariants as reason
use mathlib.Core.Path.{◌≡◌, refl}
use mathlib.Core.Bool.{Bool, true, false}
use mathlib.Core.List.{List}
use native.Mathlib.Omega.{arith}
use borrow.Author.Tests.{le-leb, lt-leb, lt-ltb, le-ltb}
use lib.Dec.{ltb}
use lib.ListN.{length}
use Rattle.base.specs.Choice.{both}
use Rattle.base.specs.Memory.{written, part}
use Rattle.base.specs.Every.{Below}
use Rattle.base.proofs.Choice.{took, left, by_test, both_of, both_left, both_right}
use Rattle.block.specs.Block.{span_of, end_of, cursor_of}
use Rattle.tables.specs.Tables.{row_at, Table, row_room, put_rows}
use Rattle.sources.specs.Source.{Source, Earlier, earlier, byte_in}
use Rattle.repeats.specs.Sound.{Rows}
use Rattle.repeats.proofs.Laws.{rows_more}
use Rattle.names.specs.Keeps.{Memory, memory}
use Rattle.names.proofs.Cursors.{byte_reach}
use Rattle.runs.specs.Runs.{run_end, text_start, text_length}
use Rattle.runs.proofs.Matches.{matched, run_high, run_matches}
use Rattle.repeating.specs.Repeats.{RowsSpelt}
use Rattle.repeating.specs.Repeating.{moved_rows, types_past}
use Rattle.repeating.proofs.Repeating.{size_ends}
use Rattle.running.specs.Running.{Reaches, on_at, run_to, run_of, run_put}

-- of a run against rows that are known to be spelt
module _ (s : Source) (e : Earlier) (used end p q : ℕ) (k : Rows used e) (r : Reaches end e) (low : 1 ≤ p) (is : q ≡ run_end s p (end - p)) (some : p < q) where
  pub run_few : (q ≤ e.count + 1) × (q ≤ 128)
  run_few = let h = run_high s (end - p) p in (omega (arith, r.1.0), omega (arith, r.1.1))

  pub run_spelt : RowsSpelt e
  run_spelt = let h = run_high s (end - p) p in r.0 (omega arith)

  pub run_moves : Below (2 ^ 32) s.dir → (i : ℕ) → p ≤ i → i < q → cursor_of s.cur (span_of i 0) + 1 < 2 ^ 32
  unfolding end_of
  run_moves d i h l =
      let w = matched s.rules.numbers (byte_in s i 0) (run_matches s (end - p) p i h (omega arith)) in
      let b = (byte_reach s i 0 w.is).1 in
      omega (arith, b.high, d (2 * span_of i 0 + 1))

  pub length_asks : used < 2 ^ 31
      → ((e.first + (p - 1) < e.first + (q - 1)) × (e.first + (q - 1) ≤ row_room e.rows))
      × (((row_at e.rows (e.first + (p - 1))).start ≤ (row_at e.rows (e.first + (q - 1) - 1)).start + (row_at e.rows (e.first + (q - 1) - 1)).length)
      × ((row_at e.rows (e.first + (q - 1) - 1)).start + (row_at e.rows (e.first + (q - 1) - 1)).length < 2 ^ 32))
  length_asks near =
      let f = run_few.0 in
      let a = size_ends e.rows e.first (e.first + e.count) run_spelt.laid (q - p - 1) (e.first + (p - 1)) (omega arith) (omega arith) in
      let i : e.first + (q - 1) - 1 ≡ e.first + (p - 1) + (q - p - 1) = omega arith in
      let b = (k.each (e.first + (p - 1) + (q - p - 1)) (omega arith) (omega arith)).ends in
      ((omega arith, omega (arith, k.table)), (rw i (omega arith), rw i (omega arith)))

-- of the first rows of a name
module _ (text : List ℕ) (rows : Table) (first count n : ℕ) (h : n ≤ count) where
  pub fewer_spelt : RowsSpelt (earlier text rows first count) → RowsSpelt (earlier text rows first n)
  fewer_spelt s = record { each = λ j a b. s.each j a (omega arith); laid = λ j a b. s.laid j a (omega arith) }

  pub fewer_rows : (used most : ℕ) → used ≤ most → most ≤ length text → Rows used (earlier text rows first count) → Rows most (earlier text rows first n)
  fewer_rows used most l t k =
      let m = rows_more used (earlier text rows first count) k most l t in
      record { table = omega (arith, m.table); most = omega (arith, m.most); room = t; each = λ j a b. m.each j a (omega arith) }

-- what a run comes to, in a contract's direction
module _ (s : Source) (e : Earlier) (end p q len : ℕ) (is : q ≡ run_end s p (end - p)) where
  pub ran_none : q ≤ p → on_at p len ≡ run_of s e end p len
  unfolding run_of run_to
  ran_none h = rw (← is) (took _ _ (le-leb q p h) refl)

  module _ (w : ℕ) (wide : w ≡ text_length e.rows (e.first + (p - 1)) (e.first + (q - 1))) (some : p < q) where
    pub ran_long : 254 < len + w → Err reason.BadName ≡ run_of s e end p len
    unfolding run_of run_to
    ran_long h = rw (← is, ← wide) (left _ _ (lt-leb q p some) (left _ _ (lt-leb (len + w) 254 h) refl))

    pub ran_on_law : len + w ≤ 254 → on_at q (len + w) ≡ run_of s e end p len
    unfolding run_of run_to
    ran_on_law h = rw (← is, ← wide) (left _ _ (lt-leb q p some) (took _ _ (le-leb (len + w) 254 h) refl))

module _ (e : Earlier) (used row p len : ℕ) (m : Memory) where
  both_never : (k : Bool) (a b : ℕ) → b ≤ a → both k (ltb a b) ≡ false
  both_never k a b h = by_test k (λ q. both_right q (le-ltb a b h)) (λ q. both_left (ltb a b) q)

  pub puts_none : (k : Bool) (q l : ℕ) → q ≤ p → m ≡ run_put k e used row p len (on_at q l) m
  unfolding run_put
  puts_none k q l h = left _ _ (both_never k p q h) refl

  pub puts_long : (k : Bool) → m ≡ run_put k e used row p len (Err reason.BadName) m
  unfolding run_put
  puts_long k = refl

  pub puts_not : (k : Bool) (q l : ℕ) → k ≡ false → m ≡ run_put k e used row p len (on_at q l) m
  unfolding run_put
  puts_not k q l h = left _ _ (both_left (ltb p q) h) refl

  pub puts_run : (k : Bool) (q w : ℕ) {now : Memory} → k ≡ true → p < q
      → now ≡ memory (written m.text (used + len) (part m.text (text_start m.rows (e.first + (p - 1))) (text_start m.rows (e.first + (p - 1)) + w)))
      (put_rows m.rows (row + (p - 1)) (moved_rows m.rows (e.first + (p - 1)) (q - p) (used + len)))
      (types_past m.cur p (q - p))
      → now ≡ run_put k e used row p len (on_at q (len + w)) m
  unfolding run_put
  puts_run k q w h l n = let d : len + w - len ≡ w = omega arith in took _ _ (both_of h (lt-ltb p q l)) (rw d n)
