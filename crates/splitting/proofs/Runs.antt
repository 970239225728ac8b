-- What is known of runs and cuts: one byte more of a run, how far it goes, and that a token has a byte and stays in its name.
use Prim.Native.Nat.{ℕ, zero, suc, ◌+◌, ◌-◌, ◌≤◌, ◌<◌}
use mathlib.Core.Path.{◌≡◌, refl, sym, ap, ◌∙◌}
use mathlib.Core.Bool.{true}
use mathlib.Core.Logic.{⊎_elim}
use mathlib.Core.List.{List}
use native.Mathlib.Omega.{arith}
use borrow.Author.Tests.{eq-eqb, ne_eqb, eqb-true, eqb-false, lt-ltb, le-ltb}
use lib.Dec.{eqb}
use lib.ListN.{length, get_or}
use Rattle.base.specs.Choice.{pick}
use Rattle.base.specs.Memory.{part}
use Rattle.base.proofs.Choice.{pick_true, pick_false, by_test}
use Rattle.base.proofs.Numbers.{lt_or_ge, here_or_later}
use Rattle.digits.specs.Digits.{is_digit, all_digits}
use Rattle.classes.specs.declared.Class.{Class}
use Rattle.classes.specs.declared.Class.TheVariants.{Digit, Letter}
use Rattle.classes.specs.Classes.{class_of, same_class}
use Rattle.classes.proofs.Laws.{digit_class_law, same_true, same_of, same_false, same_not}
use Rattle.base.proofs.Every.{every_of}
use Rattle.base.proofs.Memory.{length_part, get_d_part}
use Rattle.splitting.specs.Split.{run_end, run_limit, run_at, cut_at}

module _ (s : List ℕ) (k : Class) where
  step : (i n m : ℕ) → m ≡ suc n → run_end s k i m ≡ pick (same_class (class_of (get_or s i 0)) k) (run_end s k (i + 1) n) i
  unfolding run_end
  step i n m e = rw e

  none : (i m : ℕ) → m ≡ 0 → run_end s k i m ≡ i
  unfolding run_end
  none i m e = rw e

  pub run_out : (i to : ℕ) → to ≤ i → run_end s k i (to - i) ≡ i
  run_out i to h = none i (to - i) (omega arith)

  pub run_here : (i to : ℕ) → i < to → (class_of (get_or s i 0) ≡ k → ⊥) → run_end s k i (to - i) ≡ i
  run_here i to h f = step i (to - (i + 1)) (to - i) (omega arith) ∙ pick_false _ _ (same_not _ _ f)

  pub run_next : (i to : ℕ) → i < to → class_of (get_or s i 0) ≡ k → run_end s k (i + 1) (to - (i + 1)) ≡ run_end s k i (to - i)
  run_next i to h e = sym (step i (to - (i + 1)) (to - i) (omega arith) ∙ pick_true _ _ (same_of _ _ e))

  pub run_low : (n i : ℕ) → i ≤ run_end s k i n
  run_low zero i = omega (arith, none i 0 refl)
  run_low (suc n) i = by_test (same_class (class_of (get_or s i 0)) k)
      (λ e. omega (arith, step i n (suc n) refl, pick_true (run_end s k (i + 1) n) i e, run_low n (i + 1)))
      (λ e. omega (arith, step i n (suc n) refl, pick_false (run_end s k (i + 1) n) i e))

  pub run_high : (n i : ℕ) → run_end s k i n ≤ i + n
  run_high zero i = omega (arith, none i 0 refl)
  run_high (suc n) i = by_test (same_class (class_of (get_or s i 0)) k)
      (λ e. omega (arith, step i n (suc n) refl, pick_true (run_end s k (i + 1) n) i e, run_high n (i + 1)))
      (λ e. omega (arith, step i n (suc n) refl, pick_false (run_end s k (i + 1) n) i e))

  -- a run has the byte that it begins with
  pub run_first : (i to : ℕ) → i < to → class_of (get_or s i 0) ≡ k → i < run_end s k i (to - i)
  run_first i to h e = omega (arith, run_next i to h e, run_low (to - (i + 1)) (i + 1))

-- a run's bytes are all of its class
pub run_class : (s : List ℕ) (k : Class) (n i j : ℕ) → i ≤ j → j < run_end s k i n → class_of (get_or s j 0) ≡ k
run_class s k zero i j h l = absurd (omega (arith, none s k i 0 refl))
run_class s k (suc n) i j h l = by_test (same_class (class_of (get_or s i 0)) k)
    (λ e.
    let m : j < run_end s k (i + 1) n = omega (arith, step s k i n (suc n) refl, pick_true (run_end s k (i + 1) n) i e) in
    here_or_later (λ (j : ℕ). class_of (get_or s j 0) ≡ k) i j h (same_true _ _ e) (λ g. run_class s k n (i + 1) j g m))
    (λ e. absurd (omega (arith, step s k i n (suc n) refl, pick_false (run_end s k (i + 1) n) i e)))

-- and where it ends before it has to, another class begins
pub run_stop : (s : List ℕ) (k : Class) (n i : ℕ) → run_end s k i n < i + n → class_of (get_or s (run_end s k i n) 0) ≡ k → ⊥
run_stop s k zero i l = absurd (omega (arith, none s k i 0 refl))
run_stop s k (suc n) i l = by_test (same_class (class_of (get_or s i 0)) k)
    (λ e.
    let q : run_end s k i (suc n) ≡ run_end s k (i + 1) n = step s k i n (suc n) refl ∙ pick_true _ _ e in
    rw q (run_stop s k n (i + 1) (omega arith)))
    (λ e.
    let q : run_end s k i (suc n) ≡ i = step s k i n (suc n) refl ∙ pick_false _ _ e in
    rw q (same_false _ _ e))

pub run_digits : (s : List ℕ) (n i : ℕ) → i + n ≤ length s → all_digits (part s i (run_end s Digit i n)) ≡ true
run_digits s n i h =
    let r : ℕ = run_end s Digit i n in
    every_of is_digit (part s i r) (λ j l.
    let m : j < r - i = omega (arith, length_part s i r (run_low s Digit n i) (omega (arith, run_high s Digit n i))) in
    ap is_digit (get_d_part s i r j m) ∙ digit_class_law _ (run_class s Digit n i (i + j) (omega arith) (omega arith)))

-- a token of a name at a place in it
module _ (s : List ℕ) (at : ℕ) (h : at < length s) where
  pub limit_nine : class_of (get_or s at 0) ≡ Digit → at + 9 < length s → run_limit s at ≡ at + 9
  unfolding run_limit
  limit_nine e l = pick_true _ _ (same_of _ _ e) ∙ pick_true _ _ (lt-ltb _ _ l)

  pub limit_short : class_of (get_or s at 0) ≡ Digit → length s ≤ at + 9 → run_limit s at ≡ length s
  unfolding run_limit
  limit_short e l = pick_true _ _ (same_of _ _ e) ∙ pick_false _ _ (le-ltb _ _ l)

  pub limit_letters : class_of (get_or s at 0) ≡ Letter → run_limit s at ≡ length s
  unfolding run_limit
  limit_letters e = let f : class_of (get_or s at 0) ≡ Digit → ⊥ = λ g. cc in pick_false _ _ (same_not _ _ f) ∙ pick_true _ _ (same_of _ _ e)

  pub limit_alone : (class_of (get_or s at 0) ≡ Digit → ⊥) → (class_of (get_or s at 0) ≡ Letter → ⊥) → run_limit s at ≡ at + 1
  unfolding run_limit
  limit_alone f g = pick_false _ _ (same_not _ _ f) ∙ pick_false _ _ (same_not _ _ g)

  pub limit_digits : class_of (get_or s at 0) ≡ Digit → (at < run_limit s at) × ((run_limit s at ≤ length s) × (run_limit s at - at ≤ 9))
  limit_digits e = ⊎_elim (λ l. omega (arith, limit_nine e l)) (λ l. omega (arith, limit_short e l)) (lt_or_ge (at + 9) (length s))

  pub limit_range : (at < run_limit s at) × (run_limit s at ≤ length s)
  limit_range = by_test (same_class (class_of (get_or s at 0)) Digit)
      (λ e. let d = limit_digits (same_true _ _ e) in (d.0, d.1.0))
      (λ e. by_test (same_class (class_of (get_or s at 0)) Letter)
      (λ g. omega (arith, limit_letters (same_true _ _ g)))
      (λ g. omega (arith, limit_alone (same_false _ _ e) (same_false _ _ g))))

  pub run_range : (at < run_at s at) × (run_at s at ≤ length s)
  unfolding run_at
  run_range =
      let l = limit_range in
      let k : Class = class_of (get_or s at 0) in (
        run_first s k at (run_limit s at) l.0 refl,
        omega (arith, run_high s k (run_limit s at - at) at),
      )

  -- a byte that is no digit and no letter stands alone
  pub run_alone : (class_of (get_or s at 0) ≡ Digit → ⊥) → (class_of (get_or s at 0) ≡ Letter → ⊥) → at + 1 ≡ run_at s at
  unfolding run_at
  run_alone f g =
      let l : run_limit s at ≡ at + 1 = limit_alone f g in
      let k : Class = class_of (get_or s at 0) in
      omega (arith, run_range, run_high s k (run_limit s at - at) at)

  pub run_letters : class_of (get_or s at 0) ≡ Letter → run_end s Letter at (length s - at) ≡ run_at s at
  unfolding run_at
  run_letters e = rw (e, limit_letters e)

  -- a run of digits has at most 9 bytes, all digits
  pub run_number : class_of (get_or s at 0) ≡ Digit → (run_at s at - at ≤ 9) × (all_digits (part s at (run_at s at)) ≡ true)
  unfolding run_at
  run_number e =
      let d = limit_digits e in
      rw e (omega (arith, run_high s Digit (run_limit s at - at) at), run_digits s (run_limit s at - at) at (omega arith))

  pub cut_last : (p : ℕ) → p ≡ 127 → cut_at s p at ≡ length s
  unfolding cut_at
  cut_last p e = pick_true _ _ (lt-ltb _ _ h) ∙ pick_true _ _ (eq-eqb _ _ e)

  pub cut_run : (p : ℕ) → (p ≡ 127 → ⊥) → cut_at s p at ≡ run_at s at
  unfolding cut_at
  cut_run p f = pick_true _ _ (lt-ltb _ _ h) ∙ pick_false _ _ (ne_eqb _ _ f)

  -- a token has a byte and stays in its name
  pub cut_range : (p : ℕ) → (at < cut_at s p at) × (cut_at s p at ≤ length s)
  cut_range p = by_test (eqb p 127)
      (λ e. let q : cut_at s p at ≡ length s = cut_last p (eqb-true _ _ e) in omega arith)
      (λ e. let r = run_range in let q : cut_at s p at ≡ run_at s at = cut_run p (eqb-false _ _ e) in omega arith)

pub cut_out : (s : List ℕ) (p at : ℕ) → length s ≤ at → cut_at s p at ≡ at
unfolding cut_at
cut_out s p at h = pick_false _ _ (le-ltb _ _ h)

-- bytes are left behind a token only before position 127
pub cut_before : (s : List ℕ) (p at : ℕ) → at < length s → p < 128 → cut_at s p at < length s → p + 1 < 128
cut_before s p at h k l = by_test (eqb p 127)
    (λ e. let q : cut_at s p at ≡ length s = cut_last s at h p (eqb-true _ _ e) in absurd (omega arith))
    (λ e. let f : p ≡ 127 → ⊥ = eqb-false _ _ e in omega (arith, f))
