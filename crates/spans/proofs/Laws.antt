-- Laws of what stands at a cursor: what an answer tells of the bytes, and which bytes give an answer.
use Prim.Native.Nat.{ℕ, zero, suc, ◌+◌, ◌-◌, ◌*◌, ◌/◌, ◌%◌, ◌^◌, ◌≤◌, ◌<◌}
use Rattle.std.specs.Prelude.{Some, None}
use mathlib.Core.Path.{◌≡◌, refl, sym, ap, ◌∙◌}
use mathlib.Core.List.{List, [], ◌∷◌, ◌++◌}
use mathlib.Core.Logic.{⊎_elim}
use native.Mathlib.Omega.{arith}
use native.Mathlib.Nat.{eq-or-lt_of_le, mod-eq_of_lt, add-zero, div-add-mod, div-div-eq-div-mul, div-lt_iff_lt-mul}
use borrow.Author.Tests.{le-ltb, lt-ltb, le-leb, lt-leb, eq-eqb, ne_eqb, eqb-true, eqb-false}
use lib.Dec.{eqb}
use lib.ListN.{length, get_or, get_or-append}
use lib.Seq.{get_or-append_seam}
use Rattle.base.specs.Memory.{part}
use Rattle.base.proofs.Choice.{took, left, pick_true, pick_false, by_test}
use Rattle.base.proofs.Memory.{part_at}
use Rattle.base.proofs.Numbers.{lt_or_ge}
use Rattle.spans.specs.Spans.{cursor, byte_at, four, four_at, four_bytes, zero_from, text_end, text_at}
use Rattle.spans.specs.declared.Bytes.{Bytes}
use Rattle.spans.specs.declared.Cursor.{Cursor}

-- what a next byte tells
pub record ByteFound (bytes : List ℕ) (at end b : ℕ) (next : Cursor) : Type 0 where
  pub room : at + 1 ≤ end
  pub value : b ≡ get_or bytes at 0
  pub past : next ≡ cursor (at + 1)

-- what a number of four bytes tells
pub record FourFound (bytes : List ℕ) (at end v : ℕ) (next : Cursor) : Type 0 where
  pub room : at + 4 ≤ end
  pub value : v ≡ four bytes at
  pub past : next ≡ cursor (at + 4)

-- what a text tells, zero being the place of its zero byte
pub record TextFound (bytes : List ℕ) (at end zero : ℕ) : Type 0 where
  pub low : at ≤ zero
  pub high : zero < end
  pub ended : get_or bytes zero 0 ≡ 0
  pub inside : (k : ℕ) → at ≤ k → k < zero → get_or bytes k 0 ≡ 0 → ⊥

module _ (bytes : List ℕ) (at end : ℕ) where
  pub byte_short : end < at + 1 → None ≡ byte_at bytes at end
  unfolding byte_at
  byte_short h = left _ _ (lt-leb _ _ h) refl

  pub byte_value : {b : ℕ} → at + 1 ≤ end → b ≡ get_or bytes at 0 → Some (b, cursor (at + 1)) ≡ byte_at bytes at end
  unfolding byte_at
  byte_value h e = took _ _ (le-leb _ _ h) (ap (λ (x : ℕ). Some (x, cursor (at + 1))) e)

  pub byte_found : {b : ℕ} {next : Cursor} → byte_at bytes at end ≡ Some (b, next) → ByteFound bytes at end b next
  byte_found {b} {next} e =
      ⊎_elim
      (λ (h : end < at + 1). let s = byte_short h in let z : ◌≡◌ {A = ℕ} 0 1 = cc in absurd (omega arith))
      (λ (h : at + 1 ≤ end). let s = byte_value {b = get_or bytes at 0} h refl in let n : ◌≡◌ {A = ℕ × Cursor} (b, next) (get_or bytes at 0, cursor (at + 1)) = cc in
      record { room = h; value = ap (λ (x : ℕ × Cursor). x.0) n; past = ap (λ (x : ℕ × Cursor). x.1) n })
      (lt_or_ge end (at + 1))

  pub four_short : end < at + 4 → None ≡ four_at bytes at end
  unfolding four_at
  four_short h = left _ _ (lt-leb _ _ h) refl

  pub four_value : {v : ℕ} → at + 4 ≤ end → v ≡ four bytes at → Some (v, cursor (at + 4)) ≡ four_at bytes at end
  unfolding four_at
  four_value h e = took _ _ (le-leb _ _ h) (ap (λ (x : ℕ). Some (x, cursor (at + 4))) e)

  pub four_found : {v : ℕ} {next : Cursor} → four_at bytes at end ≡ Some (v, next) → FourFound bytes at end v next
  four_found {v} {next} e =
      ⊎_elim
      (λ (h : end < at + 4). let s = four_short h in let z : ◌≡◌ {A = ℕ} 0 1 = cc in absurd (omega arith))
      (λ (h : at + 4 ≤ end). let s = four_value {v = four bytes at} h refl in let n : ◌≡◌ {A = ℕ × Cursor} (v, next) (four bytes at, cursor (at + 4)) = cc in
      record { room = h; value = ap (λ (x : ℕ × Cursor). x.0) n; past = ap (λ (x : ℕ × Cursor). x.1) n })
      (lt_or_ge end (at + 4))

  pub end_out : end ≤ at → text_end bytes at end ≡ at
  unfolding text_end zero_from
  end_out h = let e : end - at ≡ 0 = omega arith in rw e

  pub end_here : at < end → get_or bytes at 0 ≡ 0 → text_end bytes at end ≡ at
  unfolding text_end zero_from
  end_here h z = let e : end - at ≡ suc (end - (at + 1)) = omega arith in rw e (pick_true _ _ (eq-eqb _ _ z))

  pub end_next : at < end → (get_or bytes at 0 ≡ 0 → ⊥) → text_end bytes (at + 1) end ≡ text_end bytes at end
  unfolding text_end zero_from
  end_next h z = let e : end - at ≡ suc (end - (at + 1)) = omega arith in rw e (sym (pick_false _ _ (ne_eqb _ _ z)))

  pub text_found : {j : ℕ} → text_end bytes at end ≡ j → j < end → Some (record { start = cursor at; end = cursor j; next = cursor (j + 1) }) ≡ text_at bytes at end
  unfolding text_at
  text_found {j} e h = rw e (took _ _ (lt-ltb _ _ h) refl)

  pub text_none : {j : ℕ} → text_end bytes at end ≡ j → end ≤ j → None ≡ text_at bytes at end
  unfolding text_at
  text_none {j} e h = rw e (left _ _ (le-ltb _ _ h) refl)

-- a text that was found, from the first place on
zero_found : (bytes : List ℕ) (n at end j : ℕ) → at + n ≡ end → zero_from bytes at n ≡ j → j < end → TextFound bytes at end j
unfolding zero_from
zero_found bytes zero at end j e q h = absurd (omega arith)
zero_found bytes (suc n) at end j e q h =
    by_test (eqb (get_or bytes at 0) 0)
    (λ t.
    let z = eqb-true (get_or bytes at 0) 0 t in
    let p : at ≡ j = sym (pick_true at (zero_from bytes (at + 1) n) t) ∙ q in
    record { low = omega arith; high = h; ended = rw p at z; inside = λ k a b w. omega arith })
    (λ t.
    let z = eqb-false (get_or bytes at 0) 0 t in
    let r = zero_found bytes n (at + 1) end j (omega arith) (sym (pick_false at (zero_from bytes (at + 1) n) t) ∙ q) h in
    record {
      low = omega arith;
      high = h;
      ended = r.ended;
      inside = λ k a b w. ⊎_elim (λ (o : at ≡ k). z (rw o w)) (λ (o : at < k). r.inside k (omega arith) b w) (eq-or-lt_of_le a);
    })

found_zero : (bytes : List ℕ) (n at end j : ℕ) → at + n ≡ end → TextFound bytes at end j → zero_from bytes at n ≡ j
unfolding zero_from
found_zero bytes zero at end j e f = absurd (omega arith)
found_zero bytes (suc n) at end j e f =
    ⊎_elim
    (λ (o : at ≡ j). pick_true _ _ (eq-eqb (get_or bytes at 0) 0 (rw o f.ended)) ∙ o)
    (λ (o : at < j).
    pick_false _ _ (ne_eqb _ _ (f.inside at (omega arith) o))
    ∙ found_zero bytes n (at + 1) end j (omega arith) (record { low = omega arith; high = f.high; ended = f.ended; inside = λ k a b. f.inside k (omega arith) b }))
    (eq-or-lt_of_le f.low)

module _ (bytes : List ℕ) (at end : ℕ) where
  pub end_found : {j : ℕ} → text_end bytes at end ≡ j → j < end → TextFound bytes at end j
  unfolding text_end
  end_found {j} e h =
      ⊎_elim
      (λ (o : at < end). zero_found bytes (end - at) at end j (omega arith) e h)
      (λ (o : end ≤ at). let z : text_end bytes at end ≡ at = end_out bytes at end o in absurd (omega arith))
      (lt_or_ge at end)

  -- the text that ends at a place
  abbrev text_to : ℕ → Bytes
  text_to j = record { start = cursor at; end = cursor j; next = cursor (j + 1) }

  pub found_end : {j : ℕ} → TextFound bytes at end j → text_end bytes at end ≡ j
  unfolding text_end
  found_end {j} f = found_zero bytes (end - at) at end j (omega arith) f

  -- a text is as its laws say, and what is as they say is the text
  pub found_text : {j : ℕ} → TextFound bytes at end j → text_at bytes at end ≡ Some (record { start = cursor at; end = cursor j; next = cursor (j + 1) })
  found_text f = sym (text_found bytes at end (found_end f) f.high)

  -- where there is a text it ends at the first zero byte, and what is given of it follows from that
  text_ends : {t : Bytes} → text_at bytes at end ≡ Some t → (text_end bytes at end < end) × (t ≡ text_to (text_end bytes at end))
  text_ends {t} q =
      ⊎_elim
      (λ (o : text_end bytes at end < end). let r = text_found bytes at end refl o in (o, cc))
      (λ (o : end ≤ text_end bytes at end). let r = text_none bytes at end refl o in let z : ◌≡◌ {A = ℕ} 0 1 = cc in absurd (omega arith))
      (lt_or_ge (text_end bytes at end) end)

  pub text_start_law : {t : Bytes} → text_at bytes at end ≡ Some t → t.start ≡ cursor at
  text_start_law q = ap (λ (t : Bytes). t.start) (text_ends q).1

  pub text_next : {t : Bytes} → text_at bytes at end ≡ Some t → t.next ≡ cursor (t.end.0 + 1)
  text_next q = let e = (text_ends q).1 in rw e

  pub text_told : {t : Bytes} → text_at bytes at end ≡ Some t → TextFound bytes at end t.end.0
  text_told q = let e = text_ends q in end_found (sym (ap (λ (t : Bytes). t.end.0) e.1)) (rw e.1 e.0)

-- of bytes below 256, as those of a slice are
pub four_below : (bytes : List ℕ) (i : ℕ) → ((k : ℕ) → get_or bytes k 0 < 256) → four bytes i < 2 ^ 32
unfolding four
four_below bytes i w = omega (arith, w i, w (i + 1), w (i + 2), w (i + 3))

-- the four bytes of a number make it again
four_whole : (v : ℕ) → v < 2 ^ 32 → v ≡ v % 256 + 256 * (v / 256 % 256) + 65536 * (v / 65536 % 256) + 16777216 * (v / 16777216 % 256)
four_whole v h =
    let a = div-add-mod v 256 in
    let b = div-add-mod (v / 256) 256 in
    let c = div-add-mod (v / 65536) 256 in
    let d = div-add-mod (v / 16777216) 256 in
    let p : v / 256 / 256 ≡ v / 65536 = div-div-eq-div-mul v 256 256 in
    let q : v / 65536 / 256 ≡ v / 16777216 = div-div-eq-div-mul v 65536 256 in
    let r : v / 16777216 < 256 = (div-lt_iff_lt-mul {k = 16777216} {x = v} {y = 256} (omega arith)).1 (omega arith) in
    let s : v / 16777216 % 256 ≡ v / 16777216 = mod-eq_of_lt r in
    omega arith

module _ (bytes : List ℕ) (at end : ℕ) where
  four_part : (v : ℕ) → v < 2 ^ 32 → part bytes at (at + 4) ≡ four_bytes v → v ≡ four bytes at
  unfolding four four_bytes
  four_part v h p =
      let a : get_or bytes (at + 0) 0 ≡ v % 256 = part_at bytes (four_bytes v) at (at + 4) 0 p (omega arith) in
      let b : get_or bytes (at + 1) 0 ≡ v / 256 % 256 = part_at bytes (four_bytes v) at (at + 4) 1 p (omega arith) in
      let c : get_or bytes (at + 2) 0 ≡ v / 65536 % 256 = part_at bytes (four_bytes v) at (at + 4) 2 p (omega arith) in
      let d : get_or bytes (at + 3) 0 ≡ v / 16777216 % 256 = part_at bytes (four_bytes v) at (at + 4) 3 p (omega arith) in
      four_whole v h ∙ sym (rw (rw add-zero at a, b, c, d))

  -- the way back: a byte, a number and a text that stand in the bytes are read
  pub byte_back : (b : ℕ) → part bytes at (at + 1) ≡ b ∷ [] → at + 1 ≤ end → byte_at bytes at end ≡ Some (b, cursor (at + 1))
  byte_back b p h = sym (byte_value bytes at end h (sym (rw add-zero at (part_at bytes (b ∷ []) at (at + 1) 0 p (omega arith)))))

  pub four_back : (v : ℕ) → v < 2 ^ 32 → part bytes at (at + 4) ≡ four_bytes v → at + 4 ≤ end → four_at bytes at end ≡ Some (v, cursor (at + 4))
  four_back v w p h = sym (four_value bytes at end h (four_part v w p))

  pub text_back : (s : List ℕ) → part bytes at (at + length s + 1) ≡ s ++ (0 ∷ []) → ((k : ℕ) → k < length s → get_or s k 0 ≡ 0 → ⊥) → at + length s + 1 ≤ end
      → text_at bytes at end ≡ Some (record { start = cursor at; end = cursor (at + length s); next = cursor (at + length s + 1) })
  text_back s p z h =
      found_text bytes at end
      (record {
        low = omega arith;
        high = omega arith;
        ended = part_at bytes (s ++ (0 ∷ [])) at (at + length s + 1) (length s) p (omega arith) ∙ get_or-append_seam s 0 [] 0;
        inside =
            λ k a b w.
            let e : at + (k - at) ≡ k = omega arith in
            let l : k - at < length s = omega arith in
            let r = part_at bytes (s ++ (0 ∷ [])) at (at + length s + 1) (k - at) p (omega arith) ∙ get_or-append s (0 ∷ []) 0 (k - at) l in
            z (k - at) l (sym r ∙ rw e w);
      })
