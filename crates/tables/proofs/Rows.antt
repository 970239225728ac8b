-- The table of rows by its laws: what a put leaves and what it puts, and what ties a table to the numbers that code is lent.
use Prim.Native.Nat.{ℕ, zero, suc, ◌+◌, ◌-◌, ◌*◌, ◌≤◌, ◌<◌, ◌/◌}
use mathlib.Core.Path.{◌≡◌, refl, sym, ap, ◌∙◌}
use mathlib.Core.List.{List, [], ◌∷◌, ◌++◌, append_assoc}
use native.Mathlib.Omega.{arith}
use native.Mathlib.Nat.{add-zero}
use lib.ListN.{length, get_or, drop, length-append, length-drop}
use lib.Seq.{get_or-append-add, ext_get_or, get_or-drop}
use Rattle.base.specs.Every.{Below}
use Rattle.base.specs.Memory.{written}
use Rattle.base.proofs.Memory.{length_written, written_next, written_none, below_written, within_written, above_written}
use Rattle.tables.specs.declared.Row.{Row}
use Rattle.tables.specs.Tables.{Table, in_rows, row_size, room, row_room, row_at, row_numbers, all_numbers, put_rows, unused_part}
use Rattle.tables.proofs.Room.{room_holds, room_of_law}

-- two tables have the same first n rows
abbrev pub SameRows : Table → Table → ℕ → Type 0
SameRows a b n = (j : ℕ) → j < n → row_at a j ≡ row_at b j

-- each row's number is below a bound
abbrev pub RowsBelow : ℕ → Table → Type 0
RowsBelow n t = (i : ℕ) → (row_at t i).number < n

-- rows stand in a table from row i on
abbrev pub RowsHold : Table → ℕ → List Row → Type 0
RowsHold t i rs = (j : ℕ) (other : Row) → j < length rs → row_at t (i + j) ≡ get_or rs j other

-- the numbers of rows
length_numbers : (rs : List Row) → length (all_numbers rs) ≡ row_size * length rs
unfolding all_numbers
length_numbers [] = refl
length_numbers (r ∷ rs) = let h = length_numbers rs in omega (arith, length-append (row_numbers r) (all_numbers rs))

numbers_append : (rs qs : List Row) → all_numbers (rs ++ qs) ≡ all_numbers rs ++ all_numbers qs
unfolding all_numbers
numbers_append [] qs = refl
numbers_append (r ∷ rs) qs = ap (λ (l : List ℕ). row_numbers r ++ l) (numbers_append rs qs) ∙ sym (append_assoc (row_numbers r) (all_numbers rs) (all_numbers qs))

-- a row is where its five numbers are
row_of_numbers : (a b : List ℕ) (i j : ℕ) → ((k : ℕ) → k < row_size → get_or a (row_size * i + k) 0 ≡ get_or b (row_size * j + k) 0) → row_at (in_rows a) i ≡ row_at (in_rows b) j
unfolding row_at
row_of_numbers a b i j same =
    let first : get_or a (row_size * i) 0 ≡ get_or b (row_size * j) 0 = simp add-zero at (same 0 (omega arith)) in
    rw (first, same 1 (omega arith), same 2 (omega arith), same 3 (omega arith), same 4 (omega arith))

number_past : (r : Row) (l : List ℕ) (j k : ℕ) → get_or (row_numbers r ++ l) (row_size * suc j + k) 0 ≡ get_or l (row_size * j + k) 0
number_past r l j k =
    let e : row_size * suc j + k ≡ length (row_numbers r) + (row_size * j + k) = omega arith in
    ap (λ (n : ℕ). get_or (row_numbers r ++ l) n 0) e ∙ get_or-append-add (row_numbers r) l (row_size * j + k) 0

numbers_at : (rs : List Row) (j : ℕ) (other : Row) → j < length rs → row_at (in_rows (all_numbers rs)) j ≡ get_or rs j other
unfolding all_numbers row_at
numbers_at [] j other h = absurd (omega arith)
numbers_at (r ∷ rs) zero other h = refl
numbers_at (r ∷ rs) (suc j) other h =
    row_of_numbers (row_numbers r ++ all_numbers rs) (all_numbers rs) (suc j) j (λ k l. number_past r (all_numbers rs) j k) ∙ numbers_at rs j other (omega arith)

-- what code is lent: numbers enough for so many rows
module _ (l : List ℕ) (n : ℕ) where
  pub room_numbers : n ≤ row_room (in_rows l) → row_size * n ≤ length l
  unfolding row_room
  room_numbers = room_holds row_size (omega arith) l n

  pub numbers_room : row_size * n ≤ length l → n ≤ row_room (in_rows l)
  unfolding row_room
  numbers_room = room_of_law row_size (omega arith) l n

-- the numbers of a row that there is room for
pub row_reach : (rows : List ℕ) (i : ℕ) → i < row_room (in_rows rows) → row_size * i + row_size ≤ length rows
row_reach rows i h = omega (arith, room_numbers rows (i + 1) (omega arith))

-- numbers of so many bits are those of rows
pub numbers_below : (n : ℕ) (l : List ℕ) → Below n l → RowsBelow n (in_rows l)
unfolding row_at
numbers_below n l h i = h (row_size * i + 1)

-- as many numbers have room for as many rows
pub same_room : (l k : List ℕ) → length l ≡ length k → row_room (in_rows l) ≡ row_room (in_rows k)
unfolding row_room room
same_room l k e = ap (λ (n : ℕ). n / row_size) e

-- a row's numbers put where its number says are that row put
pub row_put : (l : List ℕ) (i : ℕ) (r : Row) {k : List ℕ} → k ≡ written l (row_size * i) (row_numbers r) → in_rows k ≡ put_rows (in_rows l) i (r ∷ [])
unfolding put_rows all_numbers
row_put l i r e = ap in_rows e

numbers_of : Table → List ℕ
numbers_of (in_rows l) = l

-- equal tables are equal lists, so an equation of tables says as much of lent memory as one of lists
pub same_numbers : (l k : List ℕ) → in_rows l ≡ in_rows k → l ≡ k
unfolding numbers_of
same_numbers l k e = ap numbers_of e

fits : (l : List ℕ) (i : ℕ) (rs : List Row) → i + length rs ≤ row_room (in_rows l) → row_size * i + length (all_numbers rs) ≤ length l
fits l i rs h = let n = room_numbers l (i + length rs) h in omega (arith, length_numbers rs)

-- a put leaves as many numbers as there were
pub length_put : (l k : List ℕ) (i : ℕ) (rs : List Row) → in_rows k ≡ put_rows (in_rows l) i rs → i + length rs ≤ row_room (in_rows l) → length k ≡ length l
unfolding put_rows numbers_of
length_put l k i rs e h = ap (λ (t : Table). length (numbers_of t)) e ∙ length_written l (row_size * i) (all_numbers rs) (fits l i rs h)

-- putting none changes nothing
pub put_none : (t : Table) (i : ℕ) → put_rows t i [] ≡ t
unfolding put_rows all_numbers
put_none (in_rows l) i = ap in_rows (written_none l (row_size * i) [])

-- two puts, one behind the other, are one
pub put_next : (t : Table) (i : ℕ) (rs qs : List Row) → i + length rs ≤ row_room t → put_rows (put_rows t i rs) (i + length rs) qs ≡ put_rows t i (rs ++ qs)
unfolding put_rows
put_next (in_rows l) i rs qs h =
    let e : row_size * (i + length rs) ≡ row_size * i + length (all_numbers rs) = omega (arith, length_numbers rs) in
    ap in_rows (
    ap (λ (n : ℕ). written (written l (row_size * i) (all_numbers rs)) n (all_numbers qs)) e
    ∙ written_next l (row_size * i) (all_numbers rs) (all_numbers qs) (fits l i rs h)
    ∙ ap (written l (row_size * i)) (sym (numbers_append rs qs)))

-- the room stays
pub room_put : (t : Table) (i : ℕ) (rs : List Row) → i + length rs ≤ row_room t → row_room (put_rows t i rs) ≡ row_room t
unfolding put_rows
room_put (in_rows l) i rs h = same_room (written l (row_size * i) (all_numbers rs)) l (length_written l (row_size * i) (all_numbers rs) (fits l i rs h))

-- a row below a put is as it was
pub below_put : (t : Table) (i : ℕ) (rs : List Row) (n : ℕ) → n ≤ i → i ≤ row_room t → SameRows (put_rows t i rs) t n
unfolding put_rows
below_put (in_rows l) i rs n h r j b =
    row_of_numbers (written l (row_size * i) (all_numbers rs)) l j j
    (λ k c. below_written l (row_size * i) (all_numbers rs) (row_size * j + k) (omega arith) (room_numbers l i r))

-- a row within it is the one that was put
pub within_put : (t : Table) (i : ℕ) (rs : List Row) → i ≤ row_room t → RowsHold (put_rows t i rs) i rs
unfolding put_rows
within_put (in_rows l) i rs r j other b =
    row_of_numbers (written l (row_size * i) (all_numbers rs)) (all_numbers rs) (i + j) j
    (λ k c.
    let e : row_size * (i + j) + k ≡ row_size * i + (row_size * j + k) = omega arith in
    ap (λ (n : ℕ). get_or (written l (row_size * i) (all_numbers rs)) n 0) e
    ∙ within_written l (row_size * i) (all_numbers rs) (room_numbers l i r) (row_size * j + k) (omega (arith, length_numbers rs)))
    ∙ numbers_at rs j other b

-- a row behind it is as it was, and so is what is unused
pub behind_put : (t : Table) (i : ℕ) (rs : List Row) → i ≤ row_room t → (j : ℕ) → i + length rs ≤ j → row_at (put_rows t i rs) j ≡ row_at t j
unfolding put_rows
behind_put (in_rows l) i rs r j b =
    row_of_numbers (written l (row_size * i) (all_numbers rs)) l j j
    (λ k c. above_written l (row_size * i) (all_numbers rs) (room_numbers l i r) (row_size * j + k) (omega (arith, length_numbers rs)))

pub unused_put : (t : Table) (i : ℕ) (rs : List Row) → i + length rs ≤ row_room t → unused_part (put_rows t i rs) ≡ unused_part t
unfolding put_rows unused_part row_room
unused_put (in_rows l) i rs h =
    let s : List ℕ = all_numbers rs in
    let n = room row_size l in
    let e : room row_size (written l (row_size * i) s) ≡ n = room_put (in_rows l) i rs h in
    let f = fits l i rs h in
    let g : length (written l (row_size * i) s) ≡ length l = length_written l (row_size * i) s f in
    ap (λ (x : ℕ). drop (row_size * x) (written l (row_size * i) s)) e
    ∙ ext_get_or 0 (drop (row_size * n) (written l (row_size * i) s)) (drop (row_size * n) l)
    (length-drop (row_size * n) (written l (row_size * i) s) ∙ ap (λ (x : ℕ). x - row_size * n) g ∙ sym (length-drop (row_size * n) l))
    (λ j b.
    get_or-drop (row_size * n) (written l (row_size * i) s) j 0
    ∙ above_written l (row_size * i) s (omega arith) (row_size * n + j) (omega (arith, length_numbers rs))
    ∙ sym (get_or-drop (row_size * n) l j 0))

-- rows that stand in a table
pub hold_none : (t : Table) (i : ℕ) → RowsHold t i []
hold_none t i j other h = absurd (omega arith)

module _ (t : Table) (i : ℕ) (r : Row) (rs : List Row) (h : RowsHold t i (r ∷ rs)) where
  pub hold_first : row_at t i ≡ r
  hold_first = ap (row_at t) (sym (add-zero i)) ∙ h 0 r (omega arith)

  pub hold_rest : RowsHold t (i + 1) rs
  hold_rest j other b = let e : i + 1 + j ≡ i + suc j = omega arith in ap (row_at t) e ∙ h (suc j) other (omega arith)

-- what is the same up to n rows holds the same there
pub hold_same : (t u : Table) (i : ℕ) (rs : List Row) (n : ℕ) → SameRows t u n → i + length rs ≤ n → RowsHold t i rs → RowsHold u i rs
hold_same t u i rs n same b h j other l = sym (same (i + j) (omega arith)) ∙ h j other l
