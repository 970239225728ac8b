-- What stands at a cursor is what is at the front of the bytes left: a byte, four bytes, a text.
use Prim.Native.Nat.{ℕ, zero, suc, ◌+◌, ◌-◌, ◌≤◌, ◌<◌}
use Rattle.spans.specs.Spans.{Next}
use Rattle.spans.specs.declared.Bytes.{Bytes}
use Rattle.std.specs.Prelude.{Some, None, Option}
use mathlib.Core.Path.{◌≡◌, refl, sym, ap, ◌∙◌}
use mathlib.Core.List.{List, [], ◌∷◌}
use native.Mathlib.Omega.{arith}
use borrow.Author.Tests.{eqb-true, eqb-false, ltb-true, lt-ltb, le-ltb}
use lib.Dec.{ltb, eqb}
use lib.ListN.{length, get_or}
use Rattle.base.specs.Choice.{pick}
use Rattle.base.specs.Memory.{part}
use Rattle.base.proofs.Choice.{pick_true, pick_false, pick_two, by_test}
use Rattle.base.proofs.Numbers.{by_order}
use Rattle.base.proofs.Lists.{part_first, part_none}
use Rattle.spans.specs.Spans as spans
use Rattle.spans.specs.Spans.{cursor, byte_at, four_at, text_end, text_at}
use Rattle.spans.proofs.Laws.{byte_short, byte_value, four_short, four_value, end_out, end_here, end_next, end_found}
use Rattle.words.specs.Fronts.{Front, front, short, byte, four, longer, text}

module _ (bytes : List ℕ) (end : ℕ) (within : end ≤ length bytes) where
  step : (at : ℕ) → at < end → part bytes at end ≡ get_or bytes at 0 ∷ part bytes (at + 1) end
  step at h = part_first bytes at end h within

  pub byte_front : (P : Next → Front ℕ → Type 0) (at : ℕ)
      → ((b : ℕ) → at + 1 ≤ end → P (Some (b, cursor (at + 1))) (front b (part bytes (at + 1) end)))
      → P None short → P (byte_at bytes at end) (byte (part bytes at end))
  unfolding byte
  byte_front P at f g =
      by_order at end
      (λ h. rw (← byte_value bytes at end {b = get_or bytes at 0} (omega (arith, h)) refl, step at h) (f (get_or bytes at 0) (omega (arith, h))))
      (λ h. rw (← byte_short bytes at end (omega (arith, h)), part_none bytes at end h) g)

  pub four_front : (P : Next → Front ℕ → Type 0) (at : ℕ)
      → ((v : ℕ) → at + 4 ≤ end → P (Some (v, cursor (at + 4))) (front v (part bytes (at + 4) end)))
      → P None short → P (four_at bytes at end) (four (part bytes at end))
  unfolding four spans.four
  four_front P at f g =
      let two : at + 1 + 1 ≡ at + 2 = omega arith in
      let three : at + 2 + 1 ≡ at + 3 = omega arith in
      let all : at + 3 + 1 ≡ at + 4 = omega arith in
      let none : (n : ℕ) → end ≤ n → part bytes n end ≡ [] = λ n h. part_none bytes n end h in
      let few : end < at + 4 → four_at bytes at end ≡ None = λ h. sym (four_short bytes at end h) in
      by_order at end
      (λ a. by_order (at + 1) end
      (λ b. by_order (at + 2) end
      (λ c. by_order (at + 3) end
      (λ d. rw (
        ← four_value bytes at end {v = spans.four bytes at} (omega (arith, d)) refl,
        step at a,
        step (at + 1) b,
        two,
        step (at + 2) c,
        three,
        step (at + 3) d,
        all,
      ) (f (spans.four bytes at) (omega (arith, d))))
      (λ d. rw (few (omega (arith, d)), step at a, step (at + 1) b, two, step (at + 2) c, three, none (at + 3) d) g))
      (λ c. rw (few (omega (arith, c)), step at a, step (at + 1) b, two, none (at + 2) c) g))
      (λ b. rw (few (omega (arith, b)), step at a, none (at + 1) b) g))
      (λ a. rw (few (omega (arith, a)), none at a) g)

  found : ℕ → ℕ → Front (List ℕ)
  found at z = pick (ltb z end) (front (part bytes at z) (part bytes (z + 1) end)) short

  further : (at z : ℕ) → at < end → (z < end → at + 1 ≤ z) → longer (get_or bytes at 0) (found (at + 1) z) ≡ found at z
  unfolding found longer
  further at z h low =
      by_test (ltb z end)
      (λ t.
      let l : z < end = ltb-true _ _ t in
      ap (longer (get_or bytes at 0)) (pick_true _ _ t)
      ∙ ap (λ (x : List ℕ). front x (part bytes (z + 1) end)) (sym (part_first bytes at z (omega (arith, low l)) (omega (arith, within))))
      ∙ sym (pick_true _ _ t))
      (λ t. ap (longer (get_or bytes at 0)) (pick_false _ _ t) ∙ sym (pick_false _ _ t))

  text_is : (n at : ℕ) → at + n ≡ end → text (part bytes at end) ≡ found at (text_end bytes at end)
  unfolding text found
  text_is zero at e =
      let h : end ≤ at = omega (arith, e) in
      rw (part_none bytes at end h, end_out bytes at end h) (sym (pick_false _ _ (le-ltb _ _ h)))
  text_is (suc n) at e =
      let h : at < end = omega (arith, e) in
      rw (step at h)
      (by_test (eqb (get_or bytes at 0) 0)
      (λ t. rw (end_here bytes at end h (eqb-true _ _ t))
      (pick_true _ _ t ∙ ap (λ (x : List ℕ). front x (part bytes (at + 1) end)) (sym (part_none bytes at at (omega arith))) ∙ sym (pick_true _ _ (lt-ltb _ _ h))))
      (λ t.
      let z : text_end bytes (at + 1) end ≡ text_end bytes at end = end_next bytes at end h (eqb-false _ _ t) in
      pick_false _ _ t
      ∙ ap (longer (get_or bytes at 0)) (text_is n (at + 1) (omega (arith, e)) ∙ ap (found (at + 1)) z)
      ∙ further at (text_end bytes at end) h (λ l. (end_found bytes (at + 1) end z l).low)))

  pub text_front : (P : Option Bytes → Front (List ℕ) → Type 0) (at : ℕ) → at ≤ end
      → ((z : ℕ) → at ≤ z → z < end → P (Some (record { start = cursor at; end = cursor z; next = cursor (z + 1) })) (front (part bytes at z) (part bytes (z + 1) end)))
      → P None short → P (text_at bytes at end) (text (part bytes at end))
  unfolding text_at found
  text_front P at order f g =
      rw (text_is (end - at) at (omega (arith, order)))
      (pick_two P (ltb (text_end bytes at end) end) _ _ _ _
      (λ t. let l : text_end bytes at end < end = ltb-true _ _ t in f (text_end bytes at end) (end_found bytes at end refl l).low l)
      (λ t. g))
