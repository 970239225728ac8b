-- "The same" is equality, and how the loop that compares all bytes goes.
use Prim.Native.Nat.{ℕ, ◌+◌, ◌≤◌, ◌<◌}
use mathlib.Core.Path.{◌≡◌, refl, sym, ap, ◌∙◌}
use mathlib.Core.Bool.{Bool, true, false}
use mathlib.Core.List.{List, [], ◌∷◌}
use native.Mathlib.Numerals.{add-one}
use borrow.Author.Tests.{eqb-true, eq-eqb}
use lib.Dec.{eqb}
use lib.ListN.{length, drop, get_or, drop_of_length-le}
use lib.Seq.{drop-cons}
use Rattle.base.specs.Choice.{both}
use Rattle.comparing.specs.Same.{same}
use Rattle.base.proofs.Choice.{both_true, both_of, both_all, both_both, fails, never}

pub same_equal : (s t : List ℕ) → same s t ≡ true → s ≡ t
unfolding same
same_equal [] [] e = refl
same_equal [] (b ∷ t) e = cc
same_equal (a ∷ s) [] e = cc
same_equal (a ∷ s) (b ∷ t) e =
    let p = both_true (eqb a b) (same s t) e in
    rw (eqb-true a b p.0, same_equal s t p.1)

pub same_self : (s : List ℕ) → same s s ≡ true
unfolding same
same_self [] = refl
same_self (a ∷ s) = both_of (eq-eqb a a refl) (same_self s)

pub equal_same : (s t : List ℕ) → s ≡ t → same s t ≡ true
equal_same s t e = rw e (same_self t)

pub same_differ : (s t : List ℕ) → (s ≡ t → ⊥) → same s t ≡ false
same_differ s t n = fails (λ e. n (same_equal s t e))

pub differ_same : (s t : List ℕ) → same s t ≡ false → s ≡ t → ⊥
differ_same s t e q = never (sym e ∙ equal_same s t q)

module _ (s t : List ℕ) where
  pub other_length : (length s ≡ length t → ⊥) → false ≡ same s t
  other_length n = sym (same_differ s t (λ e. n (ap length e)))

  module _ (i : ℕ) where
    pub other_byte : (get_or s i 0 ≡ get_or t i 0 → ⊥) → false ≡ same s t
    other_byte n = sym (same_differ s t (λ e. n (ap (λ (l : List ℕ). get_or l i 0) e)))

    pub same_none : length s ≤ i → length t ≤ i → same (drop i s) (drop i t) ≡ true
    unfolding same
    same_none h k = rw (drop_of_length-le s h, drop_of_length-le t k)

    step : i < length s → i < length t → same (drop i s) (drop i t) ≡ both (eqb (get_or s i 0) (get_or t i 0)) (same (drop (i + 1) s) (drop (i + 1) t))
    unfolding same
    step h k = rw (drop-cons s i 0 h, drop-cons t i 0 k, add-one)

    -- the loop carries "so far and the rest from here is the whole"
    module _ (equal : Bool) (inv : both equal (same (drop i s) (drop i t)) ≡ same s t) where
      pub same_turn : {next : Bool} → i < length s → i < length t → next ≡ both equal (eqb (get_or s i 0) (get_or t i 0)) → both next (same (drop (i + 1) s) (drop (i + 1) t)) ≡ same s t
      same_turn h k q = rw (q, both_both, ← step h k) inv

      pub same_done : length s ≤ i → length t ≤ i → equal ≡ same s t
      same_done h k = sym (both_all equal) ∙ (rw (same_none h k) at inv)
