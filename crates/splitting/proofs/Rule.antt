-- Names are split as the papers' words have it.
use Prim.Native.Nat.{ℕ, ◌+◌, ◌-◌, ◌≤◌, ◌<◌}
use mathlib.Core.Path.{◌≡◌, refl, sym, ◌∙◌, subst}
use mathlib.Core.Bool.{Bool, true, false}
use mathlib.Core.Logic.{⊎_elim}
use mathlib.Core.List.{List}
use native.Mathlib.Omega.{arith}
use lib.ListN.{length, get_or}
use Rattle.base.proofs.Choice.{pick_true, pick_false, by_test, never, fails}
use Rattle.base.proofs.Numbers.{by_order}
use Rattle.digits.specs.Digits.{is_digit}
use Rattle.classes.specs.declared.Class.{Class}
use Rattle.classes.specs.declared.Class.TheVariants.{Other, Digit, Letter}
use Rattle.classes.specs.Classes.{is_letter, class_of}
use Rattle.classes.proofs.Laws.{letter_no_digit, class_digit, class_letter, class_other, digit_class_law, letter_class_law}
use Rattle.splitting.specs.Split.{run_end, run_limit, run_at}
use Rattle.splitting.specs.Rule.{Longest, no_digit, Splits, Rule}
use Rattle.splitting.proofs.Runs.{run_high, run_class, run_stop, run_range, run_alone, limit_nine, limit_short, limit_digits, limit_letters, cut_last, cut_run}

-- of one test there is one longest run
module _ (test : ℕ → Bool) (most : ℕ) (s : List ℕ) (at : ℕ) where
  not_before : {d e : ℕ} → Longest test most s at d → Longest test most s at e → d < e → ⊥
  not_before {d} {e} f g l =
      let a : at < d = f.some in
      let w : (e ≤ length s) × (e ≤ at + most) = g.within in
      never (sym (f.stops (omega arith) (omega arith)) ∙ g.all d (omega arith) l)

  longest_one : {d e : ℕ} → Longest test most s at d → Longest test most s at e → d ≡ e
  longest_one {d} {e} f g = by_order d e (λ l. absurd (not_before f g l)) (λ l. by_order e d (λ k. absurd (not_before g f k)) (λ k. omega arith))

-- the bytes of one class, told by a test, that a run may go on for
module _ (s : List ℕ) (at : ℕ) (h : at < length s) (test : ℕ → Bool) (k : Class) (most : ℕ)
    (tells : (b : ℕ) → class_of b ≡ k → test b ≡ true) (told : (b : ℕ) → test b ≡ true → class_of b ≡ k)
    (high : run_limit s at ≤ at + most) (low : (e : ℕ) → e < length s → e < at + most → e < run_limit s at) where
  longest : test (get_or s at 0) ≡ true → Longest test most s at (run_at s at)
  unfolding run_at
  longest e =
      let c : class_of (get_or s at 0) ≡ k = told _ e in
      let r : (at < run_at s at) × (run_at s at ≤ length s) = run_range s at h in
      let n : ℕ = run_limit s at - at in
      rw c (record {
        some = rw c at r.0;
        within = (rw c at r.1, omega (arith, run_high s k n at));
        all = λ i a b. tells _ (run_class s k n at i a b);
        stops = λ a b. fails (λ t. run_stop s k n at (omega (arith, low (run_end s k at n) a b)) (told _ t));
      })

module _ (s : List ℕ) (at : ℕ) (h : at < length s) where
  digits : is_digit (get_or s at 0) ≡ true → Longest is_digit 9 s at (run_at s at)
  digits d =
      let c : class_of (get_or s at 0) ≡ Digit = class_digit _ d in
      let r = limit_digits s at h c in
      longest s at h is_digit Digit 9 digit_class_law class_digit (omega arith)
      (λ e a b. by_order (at + 9) (length s) (λ l. omega (arith, limit_nine s at h c l)) (λ l. omega (arith, limit_short s at h c l)))
      d

  letters : is_letter (get_or s at 0) ≡ true → Longest is_letter (length s) s at (run_at s at)
  letters l =
      let n : run_limit s at ≡ length s = limit_letters s at h (class_letter _ l) in
      longest s at h is_letter Letter (length s) letter_class_law class_letter (omega arith) (λ e a b. omega arith) l

  alone : is_digit (get_or s at 0) ≡ false → is_letter (get_or s at 0) ≡ false → run_at s at ≡ at + 1
  alone d l =
      let c : class_of (get_or s at 0) ≡ Other = class_other _ d l in
      let f : class_of (get_or s at 0) ≡ Digit → ⊥ = λ e. cc in
      let g : class_of (get_or s at 0) ≡ Letter → ⊥ = λ e. cc in
      sym (run_alone s at h f g)

  -- document 01's longest run of other bytes
  module _ (e : ℕ) (r : Longest no_digit (length s) s at e) where
    no_letter : no_digit (get_or s e 0) ≡ false → is_letter (get_or s e 0) ≡ false
    no_letter f = fails (λ l. never (sym f ∙ pick_false false true (letter_no_digit _ l)))

    all_letters : ((i : ℕ) → at ≤ i → i < e → is_letter (get_or s i 0) ≡ true) → run_at s at ≡ e
    all_letters a =
        let l : Longest is_letter (length s) s at e = record { some = r.some; within = r.within; all = a; stops = λ j k. no_letter (r.stops j k) } in
        longest_one is_letter (length s) s at (letters (a at (omega arith) r.some)) l

    one_byte : e ≡ at + 1 → run_at s at ≡ e
    one_byte q = by_test (is_letter (get_or s at 0))
        (λ l. all_letters (λ i j k. let z : at ≡ i = omega arith in subst (λ (i : ℕ). is_letter (get_or s i 0) ≡ true) z l))
        (λ l.
        let d : is_digit (get_or s at 0) ≡ false = fails (λ t. never (sym (pick_true false true t) ∙ r.all at (omega arith) r.some)) in
        alone d l ∙ sym q)

pub rule : Rule
rule = record {
  split = λ s p at h f. subst (Splits s at) (sym (cut_run s at h p f)) (record {
    digits = digits s at h;
    letters = letters s at h;
    alone = alone s at h;
    stays = λ e r. ⊎_elim (λ q. one_byte s at h e r (omega (arith, q))) (all_letters s at h e r);
  });
  rest = λ s at h. cut_last s at h 127 refl;
}
