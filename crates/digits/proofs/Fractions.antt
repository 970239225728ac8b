-- What is known of the fractions that numbers are printed from.
use Prim.Native.Nat.{ℕ, suc, ◌+◌, ◌*◌, ◌/◌, ◌%◌, ◌^◌, ◌≤◌, ◌<◌}
use mathlib.Core.Path.{◌≡◌, sym, ap, ◌∙◌}
use mathlib.Core.List.{List, ◌∷◌}
use native.Mathlib.Omega.{arith}
use native.Mathlib.Nat.{add-mul, mul_assoc, mul_comm, mul_right_comm, mul-lt-mul_of_pos_right, pow-succ', pow-le-pow_right, div-lt_iff_lt-mul, div-add-mod', mul-add-mod_self_right, mod-eq_of_lt}
use Rattle.base.proofs.Numbers.{by_order}
use Rattle.digits.specs.Digits.{padded}
use Rattle.digits.specs.Fractions.{whole, leading, Begins}
use Rattle.digits.proofs.Laws.{padded_first, padded_zero, padded_mod}

module _ (w f : ℕ) where
  -- what is left behind the leading digit says less than ten to the w
  rest_less : leading (f * 10 % whole) w < 10 ^ w
  rest_less =
      let p : 1 ≤ 10 ^ w = pow-le-pow_right {n = 10} (omega arith) {i = 0} {j = w} (omega arith) in
      (div-lt_iff_lt-mul {k = whole} (omega arith)).1 (rw (mul_comm (10 ^ w) whole) (mul-lt-mul_of_pos_right {k = 10 ^ w} (omega arith) p))

  leading_more : leading f (suc w) ≡ f * 10 / whole * 10 ^ w + leading (f * 10 % whole) w
  leading_more =
      let d : ℕ = f * 10 / whole in
      let r : ℕ = f * 10 % whole in
      let t : f * 10 ≡ d * whole + r = omega arith in
      let e : f * 10 ^ suc w ≡ d * 10 ^ w * whole + r * 10 ^ w =
      ap (λ (p : ℕ). f * p) (pow-succ' 10 w) ∙ sym (mul_assoc f 10 (10 ^ w)) ∙ ap (λ (m : ℕ). m * 10 ^ w) t
      ∙ add-mul (d * whole) r (10 ^ w) ∙ ap (λ (m : ℕ). m + r * 10 ^ w) (mul_right_comm d whole (10 ^ w)) in
      omega arith

  fraction_first : f < whole → padded (leading f (suc w)) (suc w) ≡ (48 + f * 10 / whole) ∷ padded (leading (f * 10 % whole) w) w
  fraction_first h = ap (λ (m : ℕ). padded m (suc w)) leading_more ∙ padded_first w (f * 10 / whole) (leading (f * 10 % whole) w) (omega arith) rest_less

  -- where a fraction says a number's w + 1 lowest digits, what is left says its w lowest
  fraction_rest : (n : ℕ) → leading f (suc w) ≡ n % 10 ^ suc w → leading (f * 10 % whole) w ≡ n % 10 ^ w
  fraction_rest n e =
      let x : ℕ = leading (f * 10 % whole) w in
      let d : ℕ = f * 10 / whole in
      let q : ℕ = n / 10 ^ suc w in
      let t : q * 10 ^ suc w ≡ q * 10 * 10 ^ w = ap (λ (p : ℕ). q * p) (pow-succ' 10 w) ∙ sym (mul_assoc q 10 (10 ^ w)) in
      let m : q * 10 ^ suc w + n % 10 ^ suc w ≡ n = div-add-mod' n (10 ^ suc w) in
      let g : (q * 10 + d) * 10 ^ w ≡ q * 10 * 10 ^ w + d * 10 ^ w = add-mul (q * 10) d (10 ^ w) in
      let s : n ≡ (q * 10 + d) * 10 ^ w + x = omega (arith, leading_more) in
      sym (ap (λ (k : ℕ). k % 10 ^ w) s ∙ mul-add-mod_self_right (q * 10 + d) (10 ^ w) x ∙ mod-eq_of_lt rest_less)

-- a fraction's leading digit, and the digits of what is left
pub digits_more : (f w v : ℕ) {r : ℕ} → w ≡ suc v → f < whole → r ≡ f * 10 % whole → padded (leading f w) w ≡ (48 + f * 10 / whole) ∷ padded (leading r v) v
digits_more f w v {r} e h q =
    ap (λ (n : ℕ). padded (leading f n) n) e ∙ fraction_first v f h ∙ ap (λ (m : ℕ). (48 + f * 10 / whole) ∷ padded (leading m v) v) (sym q)

-- a number's leading digit is that of the fraction that begins with it
module _ (n f w v : ℕ) (e : w ≡ suc v) (h : n < 2 ^ 32) (g : Begins n w f) where
  says : w ≤ 10 → leading f (suc v) ≡ n % 10 ^ suc v
  says l = sym (ap (leading f) e) ∙ g.digits l ∙ ap (λ (m : ℕ). n % 10 ^ m) e

  pub begins_more : padded n w ≡ (48 + f * 10 / whole) ∷ padded n v
  begins_more =
      by_order
      10
      w
      (λ (l : 10 < w).
      let p : 10 ^ 10 ≤ 10 ^ v = pow-le-pow_right {n = 10} (omega arith) {i = 10} {j = v} (omega arith) in
      ap (padded n) e ∙ padded_zero n v (omega arith) ∙ ap (λ (m : ℕ). (48 + m * 10 / whole) ∷ padded n v) (sym (g.zeros l)))
      (λ (l : w ≤ 10).
      ap (padded n) e ∙ sym (padded_mod n (suc v)) ∙ ap (λ (m : ℕ). padded m (suc v)) (sym (says l))
      ∙ fraction_first v f g.parts
      ∙ ap (λ (m : ℕ). (48 + f * 10 / whole) ∷ padded m v) (fraction_rest v f n (says l))
      ∙ ap (λ (t : List ℕ). (48 + f * 10 / whole) ∷ t) (padded_mod n v))

  -- what is left of it begins with what comes next, but where the number is still to begin
  pub begins_rest : {r : ℕ} → r ≡ f * 10 % whole → (v ≡ 10 → ⊥) → Begins n v r
  begins_rest {r} q t =
      record {
        parts = omega arith;
        digits = λ l. ap (λ (m : ℕ). leading m v) q ∙ fraction_rest v f n (says (omega arith));
        zeros = λ l. omega (arith, g.zeros (omega arith));
      }
