-- Rows that are spelt print their texts; and since these lie one behind the other, all of a name's rows print one part of the kept text.
use Prim.Native.Nat.{ℕ, zero, suc, ◌+◌, ◌-◌, ◌≤◌, ◌<◌}
use mathlib.Core.Path.{◌≡◌, refl, sym, ap, ap₂, ◌∙◌}
use mathlib.Core.List.{List, [], ◌++◌, append-nil}
use native.Mathlib.Omega.{arith}
use native.Mathlib.Nat.{add-zero}
use borrow.Author.Tests.{eqb-true}
use lib.Dec.{eqb}
use Rattle.base.specs.Memory.{part}
use Rattle.base.proofs.Choice.{pick_holds}
use Rattle.base.proofs.Lists.{part_next}
use Rattle.tokens.specs.Tokens.{bytes_of}
use Rattle.tables.specs.declared.Row.{Row}
use Rattle.tables.specs.Tables.{row_at, Table}
use Rattle.sources.specs.Source.{earlier}
use Rattle.repeats.proofs.Ways.{repeats_padded, repeats_digits}
use Rattle.repeating.specs.Repeats.{Spelt, RowsSpelt}
use Rattle.runs.specs.Runs.{text_length}
use Rattle.repeating.proofs.Repeating.{text_size, length_size}
use Rattle.demands.specs.Printing.{row_text, row_prints, rows_print}

-- a row prints its text
pub row_prints_law : (text : List ℕ) (r : Row) → Spelt text r → row_prints text r ≡ row_text text r
unfolding row_prints row_text bytes_of
row_prints_law text r s =
    let P : List ℕ → Type 0 = λ (z : List ℕ). z ≡ part text r.start (r.start + r.length) in
    pick_holds P (eqb r.kind 7) _ _
    (λ a. let k : r.kind ≡ 7 = eqb-true _ _ a in rw (← s.prints [], ← repeats_digits text r (λ z. omega arith) (λ z. omega arith) (λ z. omega arith)))
    (λ a. pick_holds P (eqb r.kind 4) _ _ (λ b. rw (← s.prints [], ← repeats_padded text r (eqb-true _ _ b))) (λ b. refl))

-- the part of the text where so many rows from one on have theirs
abbrev pub rows_text : List ℕ → Table → ℕ → ℕ → List ℕ
rows_text text rows first count = part text (row_at rows first).start ((row_at rows first).start + text_length rows first (first + count))

module _ (text : List ℕ) (rows : Table) (first count : ℕ) (s : RowsSpelt (earlier text rows first count)) where
  some_print : (n i : ℕ) → first ≤ i → i + n < first + count
      → rows_print text rows i (suc n) ≡ part text (row_at rows i).start ((row_at rows i).start + text_size rows i (suc n))
  unfolding rows_print row_text text_size
  some_print zero i a b =
      append-nil _ ∙ row_prints_law text (row_at rows i) (s.each i a (omega arith))
      ∙ ap (λ (n : ℕ). part text (row_at rows i).start ((row_at rows i).start + n)) (sym (add-zero (row_at rows i).length))
  some_print (suc n) i a b =
      ap₂ ◌++◌ (row_prints_law text (row_at rows i) (s.each i a (omega arith))) (some_print n (i + 1) (omega arith) (omega arith))
      ∙ rw (s.laid i a (omega arith)) (part_next text (row_at rows i).start (row_at rows i).length (text_size rows (i + 1) (suc n)))

  pub rows_print_law : 1 ≤ count → rows_print text rows first count ≡ rows_text text rows first count
  rows_print_law h =
      let c : count ≡ suc (count - 1) = omega arith in
      let w : text_length rows first (first + count) ≡ text_size rows first (suc (count - 1)) =
      length_size rows first (first + count) s.laid first (first + count) (count - 1) (omega arith) (omega arith) (omega arith) in
      ap (rows_print text rows first) c ∙ some_print (count - 1) first (omega arith) (omega arith)
      ∙ ap (λ (n : ℕ). part text (row_at rows first).start ((row_at rows first).start + n)) (sym w)
