use native.Mathlib.Omega.{arith}
use Prim.Native.Nat.{ℕ, ◌+◌, ◌-◌, ◌<◌}
use mathlib.Core.Path.{◌≡◌, sym, ap, ◌∙◌}
use mathlib.Core.List.{List, [], ◌∷◌}
use Rattle.tables.specs.declared.Row.{Row}
use Rattle.tables.specs.Tables.{Table, in_rows, row_room, row_at, put_rows}
use Rattle.tables.proofs.Rows.{SameRows, same_room, length_put, room_numbers}
use Rattle.repeating.specs.Repeating.{moved_row}
use Rattle.repeating.proofs.Repeating.{rows_over, rows_turn, alike_more}
use borrow.Author.Rules.{rules}
use Rattle.repeating.proofs.copy_rows.Goals as goal

-- a row that is looked at is as it was
row_is : (rows base : Table) (n i : ℕ) → SameRows rows base n → i < n → {r : Row} → r ≡ row_at rows i → r ≡ row_at base i
row_is rows base n i s l e = e ∙ s i l

pub row_in-r-requires : goal.row_in-r-requires
row_in-r-requires c = let r = same_room c.loop-i.rows c.args.rows.now c.loop-i.invariant.numbers in search rules

pub put_row-requires : goal.put_row-requires
put_row-requires c = let r = same_room c.loop-i.rows c.args.rows.now c.loop-i.invariant.numbers in search rules

pub overflow_add-row : goal.overflow_add-row
overflow_add-row c =
    let rows = c.args.rows.now in
    let h = room_numbers rows (row_room (in_rows rows)) (omega arith) in
    search rules

pub loop-i-preserved : goal.loop-i-preserved
loop-i-preserved c =
    let a = c.args in let l = c.loop-i in
    let x = c.row_in-r in
    let r = row_is _ _ _ l.i l.invariant.alike (omega arith) x.ensures in
    let e = ap (λ (x : Row). x.length) r in
    let k : ℕ = a.row + (l.i - a.from) in
    let moved : List Row = moved_row x.result l.start ∷ [] in
    let w : in_rows c.put_row.new.rows ≡ put_rows (in_rows l.rows) k moved = rw c.put_row.ensures in
    let z = same_room l.rows a.rows.now l.invariant.numbers in
    let n : a.row + (l.i + 1 - a.from) ≡ k + 1 = omega arith in
    record {
      numbers = length_put l.rows _ k moved w (omega arith) ∙ l.invariant.numbers;
      alike = alike_more (in_rows a.rows.now) (in_rows l.rows) k moved a.to l.invariant.alike (omega arith) (omega arith) w;
      place = λ b. omega (arith, c.requires.by_index l.i (omega arith) (omega arith), l.invariant.place (omega arith));
      puts =
          rw n (rows_turn (in_rows a.rows.now) (in_rows l.rows) k l.i (a.to - l.i) (a.to - (l.i + 1)) l.start (omega arith) x.result r (omega arith) w
          ∙ l.invariant.puts);
    }

pub returns : goal.returns
returns c =
    let a = c.args in let l = c.loop-i in
    sym (rows_over (in_rows a.rows.now) (in_rows l.rows) (a.row + (l.i - a.from)) l.i (a.to - l.i) l.start (omega arith)) ∙ l.invariant.puts
