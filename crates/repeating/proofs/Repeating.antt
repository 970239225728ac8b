-- What repeating the rows of a run asks for, and what it puts down.
use Prim.Native.Nat.{ℕ, zero, suc, ◌+◌, ◌-◌, ◌*◌, ◌^◌, ◌≤◌, ◌<◌}
use mathlib.Core.Path.{◌≡◌, ap, ◌∙◌}
use mathlib.Core.List.{List, [], ◌∷◌}
use native.Mathlib.Omega.{arith}
use lib.ListN.{length}
use Rattle.base.specs.Memory.{written, part}
use Rattle.block.specs.Block.{span_of, cursor_of}
use Rattle.tables.specs.declared.Row.{Row}
use Rattle.tables.specs.Tables.{Table, row_room, row_at, put_rows}
use Rattle.tables.proofs.Rows.{SameRows, below_put, put_none, put_next}
use Rattle.sources.specs.Source.{earlier}
use Rattle.repeats.specs.Sound.{Rows}
use Rattle.moving.specs.Moves.{past}
use Rattle.moving.proofs.Moves.{past_later, length_past}
use Rattle.names.specs.Keeps.{memory}
use Rattle.runs.specs.Runs.{text_start, text_length}
use Rattle.repeating.specs.Repeats.{RowsSpelt}
use Rattle.repeating.specs.Repeating.{moved_row, moved_rows, types_past}

-- a turn of the loop over the cursors
module _ (cur : List ℕ) (p f : ℕ) where
  pub types_over : f ≡ 0 → cur ≡ types_past cur p f
  unfolding types_past
  types_over h = rw h

  pub types_more : (g : ℕ) {now : List ℕ} → f ≡ suc g → now ≡ past cur (span_of p 0) 1 → types_past now (p + 1) g ≡ types_past cur p f
  unfolding types_past
  types_more g h q = rw (h, q)

pub type_later : (cur : List ℕ) (p q : ℕ) {now : List ℕ} → now ≡ past cur (span_of p 0) 1 → p + 1 ≤ q → cursor_of now (span_of q 0) ≡ cursor_of cur (span_of q 0)
unfolding span_of
type_later cur p q e h = ap (λ (x : List ℕ). cursor_of x (10 * q + 0)) e ∙ past_later cur p 0 1 (10 * q + 0) (omega arith) (omega arith)

pub length_typed : (cur : List ℕ) (p : ℕ) {now : List ℕ} → now ≡ past cur (span_of p 0) 1 → length now ≡ length cur
length_typed cur p e = ap length e ∙ length_past cur (span_of p 0) 1

-- a turn of the loop over the rows
pub rows_over : (base rows : Table) (k i f start : ℕ) → f ≡ 0 → put_rows rows k (moved_rows base i f start) ≡ rows
unfolding moved_rows
rows_over base rows k i f start h = rw h (put_none rows k)

module _ (base rows : Table) (k i f g start : ℕ) (h : f ≡ suc g) (r : Row) (e : r ≡ row_at base i) (fits : k < row_room rows) where
  pub rows_turn : {now : Table} → now ≡ put_rows rows k (moved_row r start ∷ [])
      → put_rows now (k + 1) (moved_rows base (i + 1) g (start + r.length)) ≡ put_rows rows k (moved_rows base i f start)
  unfolding moved_rows
  rows_turn {now} q = rw (h, ← e, q) (put_next rows k (moved_row r start ∷ []) (moved_rows base (i + 1) g (start + r.length)) (omega arith))

pub alike_more : (base rows : Table) (k : ℕ) (rs : List Row) (n : ℕ) {now : Table} → SameRows rows base n → n ≤ k → k ≤ row_room rows → now ≡ put_rows rows k rs → SameRows now base n
alike_more base rows k rs n a h l q j b = ap (λ (x : Table). row_at x j) q ∙ below_put rows k rs n h l j b ∙ a j b

-- how many bytes n rows from row i on have, one by one
unfoldable pub text_size : Table → ℕ → ℕ → ℕ
text_size rows i zero = 0
text_size rows i (suc n) = (row_at rows i).length + text_size rows (i + 1) n

pub size_more : (rows : Table) (n m i : ℕ) → text_size rows i n ≤ text_size rows i (n + m)
unfolding text_size
size_more rows zero m i = omega arith
size_more rows (suc n) m i = let e : suc n + m ≡ suc (n + m) = omega arith in let k = size_more rows n m (i + 1) in rw e (omega arith)

-- texts that lie one behind the other: where the last ends is how many bytes they have
module _ (rows : Table) (lo hi : ℕ) (laid : (j : ℕ) → lo ≤ j → j + 1 < hi → (row_at rows (j + 1)).start ≡ (row_at rows j).start + (row_at rows j).length) where
  pub size_ends : (n i : ℕ) → lo ≤ i → i + n < hi → (row_at rows i).start + text_size rows i (suc n) ≡ (row_at rows (i + n)).start + (row_at rows (i + n)).length
  unfolding text_size
  size_ends zero i h l = let e : i + 0 ≡ i = omega arith in rw e (omega arith)
  size_ends (suc n) i h l =
      let k = size_ends n (i + 1) (omega arith) (omega arith) in
      let d = laid i h (omega arith) in
      let e : i + suc n ≡ i + 1 + n = omega arith in
      rw e (omega arith)

  pub length_size : (i j n : ℕ) → lo ≤ i → j ≤ hi → j ≡ i + suc n → text_length rows i j ≡ text_size rows i (suc n)
  unfolding text_length
  length_size i j n h l e =
      let k = size_ends n i h (omega arith) in
      let d : j - 1 ≡ i + n = omega arith in
      rw d (omega arith)

  ends_within : (i n m : ℕ) → lo ≤ i → i + (n + m) < hi → (row_at rows (i + n)).start + (row_at rows (i + n)).length ≤ (row_at rows i).start + text_size rows i (suc (n + m))
  ends_within i n m h l =
      let a = size_ends n i h (omega arith) in
      let e : suc n + m ≡ suc (n + m) = omega arith in
      let b = rw e at (size_more rows (suc n) m i) in
      omega arith

  ends_fit : (i j t at : ℕ) → lo ≤ i → i ≤ j → j < i + suc t → i + t < hi → at + text_size rows i (suc t) < 2 ^ 32
      → at + ((row_at rows j).start + (row_at rows j).length) < 2 ^ 32 + (row_at rows i).start
  ends_fit i j t at h l k z f =
      let n : i + (j - i) ≡ j = omega arith in
      let m : j - i + (t - (j - i)) ≡ t = omega arith in
      let a = rw (n, m) at (ends_within i (j - i) (t - (j - i)) h (omega arith)) in
      omega arith

-- what repeating a run asks for
module _ (text : List ℕ) (rows : Table) (first p q w at : ℕ) (k : Rows at (earlier text rows first (q - 1))) (s : RowsSpelt (earlier text rows first (q - 1))) (low : 1 ≤ p) (some : p < q)
    (is : w ≡ text_length rows (first + (p - 1)) (first + (q - 1))) where
  sized : w ≡ text_size rows (first + (p - 1)) (suc (q - p - 1))
  sized = is ∙ length_size rows first (first + (q - 1)) s.laid (first + (p - 1)) (first + (q - 1)) (q - p - 1) (omega arith) (omega arith) (omega arith)

  pub repeat_ends : (row_at rows (first + (p - 1))).start + w ≤ at
  repeat_ends =
      let a = size_ends rows first (first + (q - 1)) s.laid (q - p - 1) (first + (p - 1)) (omega arith) (omega arith) in
      let b = (k.each (first + (p - 1) + (q - p - 1)) (omega arith) (omega arith)).ends in
      omega (arith, sized)

  pub repeat_laid : (j : ℕ) → first + (p - 1) ≤ j → j + 1 < first + (q - 1) → (row_at rows (j + 1)).start ≡ (row_at rows j).start + (row_at rows j).length
  repeat_laid j h l = s.laid j (omega arith) l

  pub repeat_fits : at + w < 2 ^ 32 → (j : ℕ) → first + (p - 1) ≤ j → j < first + (q - 1)
      → at + ((row_at rows j).start + (row_at rows j).length) < 2 ^ 32 + (row_at rows (first + (p - 1))).start
  repeat_fits f j h l =
      ends_fit rows first (first + (q - 1)) s.laid (first + (p - 1)) j (q - p - 1) at (omega arith) h (omega arith) (omega arith) (omega (arith, sized))

pub repeat_put_law : (text : List ℕ) (rows : Table) (cur : List ℕ) (i j n w at to p q : ℕ) {r : Row} {text' : List ℕ} {rows' : Table} {cur' : List ℕ} → j ≡ n → r ≡ row_at rows i
    → text' ≡ written text at (part text r.start (r.start + w))
    → rows' ≡ put_rows rows to (moved_rows rows i j at) → cur' ≡ types_past cur p (q - p)
    → memory text' rows' cur' ≡ memory (written text at (part text (text_start rows i) (text_start rows i + w))) (put_rows rows to (moved_rows rows i n at)) (types_past cur p (q - p))
unfolding text_start
repeat_put_law text rows cur i j n w at to p q e is t r c = rw (t, r, c, e, is)
