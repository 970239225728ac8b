-- Cuts: where a token ends, and that a run of digits is read while its end is looked for.
use Prim.Native.Nat.{ℕ, ◌+◌, ◌-◌, ◌*◌, ◌^◌, ◌≤◌, ◌<◌}
use mathlib.Core.Path.{◌≡◌, refl, sym, ap, ◌∙◌}
use mathlib.Core.List.{List}
use native.Mathlib.Omega.{arith}
use borrow.Author.Tests.{ne_eqb, lt-ltb}
use lib.Dec.{eqb, ltb}
use lib.ListN.{length, get_or}
use Rattle.base.specs.Memory.{part}
use Rattle.base.proofs.Choice.{pick_true, pick_false, by_test}
use Rattle.digits.specs.Digits.{value_from, value_of}
use Rattle.digits.proofs.Laws.{digit_range}
use Rattle.digits.proofs.Steps.{value_more, value_last, ten_more, below_eight}
use Rattle.classes.specs.declared.Class.TheVariants.{Digit}
use Rattle.classes.specs.Classes.{class_of, same_class}
use Rattle.classes.proofs.Laws.{digit_class_law, same_true, same_of, same_not}
use Rattle.splitting.specs.declared.Cut.{Cut}
use Rattle.splitting.specs.Split.{run_end, run_limit, run_at, cut_at, number_run, cut_of}
use Rattle.splitting.proofs.Runs.{run_here, run_next, run_out, run_low, run_high, cut_run}

-- A run of digits

number_end : (s : List ℕ) (at : ℕ) → class_of (get_or s at 0) ≡ Digit → (number_run s at (run_limit s at - at)).end ≡ run_at s at
unfolding number_run run_at
number_end s at e = rw e

-- what is left of a run, read behind what was read, says the whole
pub record Said (s : List ℕ) (at to n i : ℕ) : Type 0 where
  pub begun : at ≤ i
  pub within : i ≤ to
  pub small : n < 10 ^ (i - at)
  pub ends : run_end s Digit i (to - i) ≡ run_end s Digit at (to - at)
  pub rest : value_from n (part s i (run_end s Digit at (to - at))) ≡ value_of (part s at (run_end s Digit at (to - at)))

pub said_nothing : (s : List ℕ) (at to : ℕ) → at ≤ to → Said s at to 0 at
unfolding value_of
said_nothing s at to h =
    let z : at - at ≡ 0 = omega arith in
    record { begun = omega arith; within = h; small = rw z (omega arith); ends = refl; rest = refl }

module _ (s : List ℕ) (at to n i : ℕ) (k : Said s at to n i) (h : to ≤ length s) where
  all : ℕ
  all = run_end s Digit at (to - at)

  said : all ≡ i → (let c : Cut = record { end = i; number = n } in c) ≡ number_run s at (to - at)
  unfolding all number_run
  said e =
      let c : ℕ → ℕ → Cut = λ x y. record { end = x; number = y } in
      let v : n ≡ value_of (part s at all) = value_last s i all n _ (omega arith) k.rest in
      ap (λ (x : ℕ). c x n) (sym e) ∙ ap (c all) v

  pub said_here : i < to → (class_of (get_or s i 0) ≡ Digit → ⊥) → (let c : Cut = record { end = i; number = n } in c) ≡ number_run s at (to - at)
  unfolding all
  said_here l f = said (sym k.ends ∙ run_here s Digit i to l f)

  pub said_out : to ≤ i → (let c : Cut = record { end = i; number = n } in c) ≡ number_run s at (to - at)
  unfolding all
  said_out l = said (sym k.ends ∙ run_out s Digit i to l)

  pub said_small : i < to → to - at ≤ 9 → n < 10 ^ 8
  said_small l m = let b : at ≤ i = k.begun in below_eight n (i - at) (omega arith) k.small

  module _ (l : i < to) (e : class_of (get_or s i 0) ≡ Digit) where
    pub said_digit : (48 ≤ get_or s i 0) × (get_or s i 0 ≤ 57)
    said_digit = digit_range (get_or s i 0) (digit_class_law (get_or s i 0) e)

    pub said_more : Said s at to (10 * n + (get_or s i 0 - 48)) (i + 1)
    unfolding all
    said_more =
        let b : at ≤ i = k.begun in
        let d = said_digit in
        let j : run_end s Digit (i + 1) (to - (i + 1)) ≡ all = run_next s Digit i to l e ∙ k.ends in
        let low : i < all = omega (arith, j, run_low s Digit (to - (i + 1)) (i + 1)) in
        let high : all ≤ length s = omega (arith, run_high s Digit (to - at) at) in
        record {
          begun = omega arith;
          within = omega arith;
          small = ten_more n (get_or s i 0 - 48) (i - at) (i + 1 - at) (omega arith) (omega arith) k.small;
          ends = j;
          rest = value_more s i all low high n _ k.rest;
        }

-- Cuts

end_of_law : (s : List ℕ) (p at : ℕ) → (cut_of s p at).end ≡ cut_at s p at
unfolding cut_of cut_at
end_of_law s p at =
    let to : Cut → ℕ = λ c. c.end in
    by_test (ltb at (length s))
    (λ h. by_test (eqb p 127)
    (λ e. ap to (pick_true _ _ h ∙ pick_true _ _ e) ∙ sym (pick_true _ _ h ∙ pick_true _ _ e))
    (λ e. by_test (same_class (class_of (get_or s at 0)) Digit)
    (λ k. ap to (pick_true _ _ h ∙ pick_false _ _ e ∙ pick_true _ _ k) ∙ number_end s at (same_true _ _ k) ∙ sym (pick_true _ _ h ∙ pick_false _ _ e))
    (λ k. ap to (pick_true _ _ h ∙ pick_false _ _ e ∙ pick_false _ _ k) ∙ sym (pick_true _ _ h ∙ pick_false _ _ e))))
    (λ h. ap to (pick_false _ _ h) ∙ sym (pick_false _ _ h))

-- where no number begins
pub cut_plain : (s : List ℕ) (p at : ℕ) → at < length s → (p ≡ 127 → ⊥) → (class_of (get_or s at 0) ≡ Digit → ⊥) → {end : ℕ} → end ≡ run_at s at → (let c : Cut = record { end = end; number = 0 } in c) ≡ cut_of s p at
unfolding cut_of
cut_plain s p at h n f q =
    let to : ℕ → Cut = λ x. record { end = x; number = 0 } in
    ap to q ∙ sym (pick_true _ _ (lt-ltb _ _ h) ∙ pick_false _ _ (ne_eqb _ _ n) ∙ pick_false _ _ (same_not _ _ f))

module _ (s : List ℕ) (p at : ℕ) {c : Cut} (q : c ≡ cut_of s p at) where
  pub cut_end : c.end ≡ cut_at s p at
  cut_end = ap (λ (x : Cut). x.end) q ∙ end_of_law s p at

  -- a number is cut behind what it says
  pub cut_number : at < length s → (p ≡ 127 → ⊥) → class_of (get_or s at 0) ≡ Digit → c.number ≡ value_of (part s at (cut_at s p at))
  unfolding cut_of number_run
  cut_number h f e =
      ap (λ (x : Cut). x.number) (q ∙ pick_true _ _ (lt-ltb _ _ h) ∙ pick_false _ _ (ne_eqb _ _ f) ∙ pick_true _ _ (same_of _ _ e))
      ∙ ap (λ (x : ℕ). value_of (part s at x)) (number_end s at e ∙ sym (cut_run s at h p f))
