-- What the reader of a part gives, with its cursors moved by the part's start, is what stands at that start in the whole: said once over the move.
use Prim.Native.Nat.{ℕ, zero, suc, ◌+◌, ◌-◌, ◌≤◌, ◌<◌, ◌^◌}
use Rattle.spans.specs.Spans.{Next}
use Rattle.spans.specs.declared.Bytes.{Bytes}
use Rattle.std.specs.Prelude.{Some, None, Option}
use mathlib.Core.Path.{◌≡◌, refl, sym, ap, ◌∙◌}
use mathlib.Core.List.{List}
use mathlib.Core.Logic.{⊎_elim}
use native.Mathlib.Omega.{arith}
use native.Mathlib.Nat.{add-zero, add_assoc}
use lib.Dec.{eqb}
use lib.ListN.{length, get_or}
use Rattle.base.specs.Memory.{part}
use Rattle.base.proofs.Choice.{pick_true, pick_false, by_test}
use Rattle.base.proofs.Memory.{length_part, get_d_part}
use Rattle.base.proofs.Numbers.{lt_or_ge}
use Rattle.spans.specs.declared.Cursor.{Cursor}
use Rattle.spans.specs.Spans.{cursor, byte_at, four, four_at, zero_from, text_end, text_at}
use Rattle.spans.proofs.Laws.{byte_short, byte_value, four_short, four_value, text_found, text_none}
use Rattle.readers.specs.Readers.{left_end, byte_of, four_of, text_of}
use Rattle.readers.proofs.Laws.{left_all, byte_inside, four_inside, text_inside}

-- an answer with its cursors moved
abbrev pub byte_moved : ℕ → Next → Next
byte_moved at (Some (b, next)) = Some (b, cursor (at + next.0))
byte_moved at None = None

abbrev pub four_moved : ℕ → Next → Next
four_moved at (Some (v, next)) = Some (v, cursor (at + next.0))
four_moved at None = None

abbrev pub text_moved : ℕ → Option Bytes → Option Bytes
text_moved at (Some t) = Some (record { start = cursor (at + t.start.0); end = cursor (at + t.end.0); next = cursor (at + t.next.0) })
text_moved at None = None

-- the first zero byte of bytes that stand from at on in others
zero_moved : (bytes left : List ℕ) (at n i : ℕ) → ((j : ℕ) → j < i + n → get_or left j 0 ≡ get_or bytes (at + j) 0) → at + zero_from left i n ≡ zero_from bytes (at + i) n
unfolding zero_from
zero_moved bytes left at zero i same = refl
zero_moved bytes left at (suc n) i same =
    let e : at + (i + 1) ≡ at + i + 1 = omega arith in
    let s = same i (omega arith) in
    by_test (eqb (get_or left i 0) 0)
    (λ t. ap (λ (k : ℕ). at + k) (pick_true i (zero_from left (i + 1) n) t) ∙ sym (pick_true (at + i) (zero_from bytes (at + i + 1) n) (ap (λ (k : ℕ). eqb k 0) (sym s) ∙ t)))
    (λ t.
    ap (λ (k : ℕ). at + k) (pick_false i (zero_from left (i + 1) n) t)
    ∙ zero_moved bytes left at n (i + 1) (λ j h. same j (omega arith))
    ∙ ap (λ (k : ℕ). zero_from bytes k n) e
    ∙ sym (pick_false (at + i) (zero_from bytes (at + i + 1) n) (ap (λ (k : ℕ). eqb k 0) (sym s) ∙ t)))

module _ (bytes : List ℕ) (at end : ℕ) (low : at ≤ end) (high : end ≤ length bytes) (small : end < 2 ^ 32) where
  abbrev left : List ℕ
  left = part bytes at end

  -- the end of the part
  left_part : left_end left ≡ end - at
  left_part = let l = length_part bytes at end low high in left_all left (omega arith) ∙ l

  same : (j : ℕ) → j < end - at → get_or left j 0 ≡ get_or bytes (at + j) 0
  same j h = get_d_part bytes at end j h

  pub byte_part : byte_moved at (byte_of left) ≡ byte_at bytes at end
  unfolding byte_of
  byte_part =
      rw left_part
      (⊎_elim
      (λ (h : end < at + 1). ap (byte_moved at) (sym (byte_short left 0 (end - at) (omega arith))) ∙ byte_short bytes at end h)
      (λ (h : at + 1 ≤ end).
      ap (byte_moved at) (sym (byte_value left 0 (end - at) (omega arith) (sym (same 0 (omega arith))))) ∙ rw add-zero (byte_value bytes at end h refl))
      (lt_or_ge end (at + 1)))

  four_alike : at + 4 ≤ end → four left 0 ≡ four bytes at
  unfolding four
  four_alike h = rw (same 0 (omega arith), same 1 (omega arith), same 2 (omega arith), same 3 (omega arith), add-zero)

  pub four_part : four_moved at (four_of left) ≡ four_at bytes at end
  unfolding four_of
  four_part =
      rw left_part
      (⊎_elim
      (λ (h : end < at + 4). ap (four_moved at) (sym (four_short left 0 (end - at) (omega arith))) ∙ four_short bytes at end h)
      (λ (h : at + 4 ≤ end). ap (four_moved at) (sym (four_value left 0 (end - at) (omega arith) refl)) ∙ four_value bytes at end h (four_alike h))
      (lt_or_ge end (at + 4)))

  end_part : text_end bytes at end ≡ at + text_end left 0 (end - at)
  unfolding text_end
  end_part =
      let n : end - at - 0 ≡ end - at = omega arith in
      rw n (sym (zero_moved bytes left at (end - at) 0 (λ j h. same j (omega arith)) ∙ ap (λ (k : ℕ). zero_from bytes k (end - at)) (add-zero at)))

  pub text_part : text_moved at (text_of left) ≡ text_at bytes at end
  unfolding text_of
  text_part =
      rw left_part
      (⊎_elim
      (λ (h : text_end left 0 (end - at) < end - at).
      ap (text_moved at) (sym (text_found left 0 (end - at) refl h)) ∙ rw (add-zero, ← add_assoc) (text_found bytes at end end_part (omega arith)))
      (λ (h : end - at ≤ text_end left 0 (end - at)). ap (text_moved at) (sym (text_none left 0 (end - at) refl h)) ∙ text_none bytes at end end_part (omega arith))
      (lt_or_ge (text_end left 0 (end - at)) (end - at)))

  -- moved cursors fit a cursor
  pub byte_fits : {b : ℕ} {next : Cursor} → byte_of left ≡ Some (b, next) → at + next.0 < 2 ^ 32
  byte_fits e = omega (arith, byte_inside left e, length_part bytes at end low high)

  pub four_fits : {v : ℕ} {next : Cursor} → four_of left ≡ Some (v, next) → at + next.0 < 2 ^ 32
  four_fits e = omega (arith, four_inside left e, length_part bytes at end low high)

  -- and those of a text, in their order
  pub text_fits : {t : Bytes} → text_of left ≡ Some t → (t.start.0 ≤ t.end.0) × ((t.end.0 ≤ t.next.0) × (at + t.next.0 < 2 ^ 32))
  text_fits e = let i = text_inside left e in (i.0, (i.1.0, omega (arith, i.1.1, length_part bytes at end low high)))
