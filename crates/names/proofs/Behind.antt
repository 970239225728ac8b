-- Text and rows put down behind all that a step looks at: the rows it goes by and every later step stay what they were.
use Prim.Native.Nat.{ℕ, ◌+◌, ◌≤◌}
use mathlib.Core.Path.{◌≡◌, sym, ap, ◌∙◌}
use mathlib.Core.List.{List}
use native.Mathlib.Omega.{arith}
use lib.ListN.{length, take}
use Rattle.base.specs.Memory.{written}
use Rattle.base.proofs.Memory.{length_written}
use Rattle.base.proofs.Below.{take_written}
use Rattle.block.specs.Block.{span_of, cursor_of}
use Rattle.tokens.proofs.Laws.{bytes_same}
use Rattle.numbering.specs.Types.{Rules}
use Rattle.tables.specs.declared.Row.{Row}
use Rattle.tables.specs.Tables.{Table, row_room, row_at, put_rows}
use Rattle.tables.proofs.Rows.{SameRows, below_put, room_put}
use Rattle.sources.specs.Source.{source, earlier}
use Rattle.names.specs.Names.{type_in}
use Rattle.repeats.specs.Sound.{Rows}
use Rattle.steps.proofs.Laws.{Known, given}
use Rattle.steps.proofs.Frame.{byte_in_same, step_frame, rows_same}
use Rattle.names.proofs.Growing.{Alike}

pub record Stays (rules : Rules) (bytes dir cur cur' text text' : List ℕ) (rows rows' : Table) (first count used q : ℕ) : Type 0 where
  pub length_text : length text' ≡ length text
  pub room_rows : row_room rows' ≡ row_room rows
  pub known : Rows used (earlier text' rows' first count)
  pub alike : Alike (source rules bytes dir cur) (source rules bytes dir cur') (earlier text rows first count) (earlier text' rows' first count) q

module _ (rules : Rules) (bytes dir cur cur' text text' : List ℕ) (rows rows' : Table) (first count used q at k : ℕ) (xs : List ℕ) (ys : List Row)
    (texts : text' ≡ written text at xs) (table : rows' ≡ put_rows rows k ys)
    (above : used ≤ at) (behind : first + count ≤ k) (room : at + length xs ≤ length text) (rowed : k + length ys ≤ row_room rows) where
  take_same : take used text ≡ take used text'
  take_same = sym (ap (take used) texts ∙ take_written text at xs used above (omega (arith, room)))

  rows_alike : SameRows rows rows' (first + count)
  rows_alike j h =
      sym (ap (λ (x : Table). row_at x j) table ∙ below_put rows k ys (first + count) behind (omega (arith, rowed)) j h)

  -- where the cursors of position q and of those behind it stay
  pub stays : Rows used (earlier text rows first count)
      → ((j : ℕ) → q ≤ j → j ≤ 128 → Known (source rules bytes dir cur) (earlier text rows first count) used j)
      → ((j i : ℕ) → q ≤ j → i ≤ 9 → cursor_of cur (span_of j i) ≡ cursor_of cur' (span_of j i))
      → Stays rules bytes dir cur cur' text text' rows rows' first count used q
  stays r known same =
      let a : length text' ≡ length text = ap length texts ∙ length_written text at xs room in
      let b : row_room rows' ≡ row_room rows = ap row_room table ∙ room_put rows k ys rowed in
      record {
        length_text = a;
        room_rows = b;
        known = rows_same text text' rows rows' first count used 1 r (omega arith) take_same rows_alike (omega (arith, a, r.room)) (omega (arith, b, r.table));
        alike =
            record {
              steps =
                  λ j h l.
                  sym (step_frame rules bytes dir cur cur' text text' rows rows' first count used j (known j h l).rows (known j h l).first (λ i y. same j i h y) take_same rows_alike);
              types = λ j h l. ap (type_in rules.numbers) (sym (byte_in_same rules bytes dir cur cur' j (λ i y. same j i h y) 0 (omega arith)));
              bytes =
                  λ j h l u v x.
                  let w = given (source rules bytes dir cur) (earlier text rows first count) used j (known j h l) x in
                  sym (bytes_same bytes text text' used u w.inside w.below take_same);
            };
      }
