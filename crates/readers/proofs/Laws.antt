-- Laws of the bytes left to a reader: their end, and that the cursors it gives lie among them.
use Prim.Native.Nat.{ℕ, ◌≤◌, ◌<◌, ◌^◌}
use Rattle.std.specs.Prelude.{Some}
use mathlib.Core.Path.{◌≡◌}
use mathlib.Core.List.{List}
use mathlib.Core.Logic.{⊎_elim}
use native.Mathlib.Omega.{arith}
use borrow.Author.Tests.{le-leb, lt-leb}
use lib.ListN.{length}
use Rattle.base.proofs.Choice.{pick_true, pick_false}
use Rattle.base.proofs.Numbers.{lt_or_ge}
use Rattle.spans.specs.declared.Bytes.{Bytes}
use Rattle.spans.specs.declared.Cursor.{Cursor}
use Rattle.spans.proofs.Laws.{byte_found, four_found, text_start_law, text_next, text_told}
use Rattle.readers.specs.Readers.{left_end, byte_of, four_of, text_of}

pub left_all : (left : List ℕ) → length left < 2 ^ 32 → left_end left ≡ length left
unfolding left_end
left_all left h = pick_true _ _ (le-leb (length left) 4294967295 (omega arith))

left_most : (left : List ℕ) → 2 ^ 32 ≤ length left → left_end left ≡ 4294967295
unfolding left_end
left_most left h = pick_false _ _ (lt-leb (length left) 4294967295 (omega arith))

pub left_within : (left : List ℕ) → left_end left ≤ length left
left_within left =
    ⊎_elim
    (λ (h : length left < 2 ^ 32). omega (arith, left_all left h))
    (λ (h : 2 ^ 32 ≤ length left). omega (arith, left_most left h))
    (lt_or_ge (length left) (2 ^ 32))

-- a cursor that a reader gives lies among its bytes, or at their end
module _ (left : List ℕ) where
  pub byte_inside : {b : ℕ} {next : Cursor} → byte_of left ≡ Some (b, next) → next.0 ≤ length left
  unfolding byte_of
  byte_inside {b} {next} e =
      let f = byte_found left 0 (left_end left) e in
      rw f.past (omega (arith, f.room, left_within left))

  pub four_inside : {v : ℕ} {next : Cursor} → four_of left ≡ Some (v, next) → next.0 ≤ length left
  unfolding four_of
  four_inside {v} {next} e =
      let f = four_found left 0 (left_end left) e in
      rw f.past (omega (arith, f.room, left_within left))

  -- those of a text in their order
  pub text_inside : {t : Bytes} → text_of left ≡ Some t → (t.start.0 ≤ t.end.0) × ((t.end.0 ≤ t.next.0) × (t.next.0 ≤ length left))
  unfolding text_of
  text_inside {t} e =
      let f = text_told left 0 (left_end left) e in
      let h = f.high in
      let w = left_within left in
      rw (text_start_law left 0 (left_end left) e, text_next left 0 (left_end left) e) (omega arith, (omega arith, omega arith))
