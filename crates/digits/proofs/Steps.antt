-- The turns of this crate's loops: the rest from here on is the whole.
use Prim.Native.Nat.{ℕ, suc, ◌+◌, ◌-◌, ◌*◌, ◌^◌, ◌≤◌, ◌<◌}
use mathlib.Core.Path.{◌≡◌, sym, ap, ◌∙◌}
use mathlib.Core.List.{List, [], ◌∷◌}
use native.Mathlib.Omega.{arith}
use native.Mathlib.Nat.{pow-suc, pow-le-pow_right}
use lib.ListN.{length, get_or, set}
use Rattle.base.specs.Memory.{written, part}
use Rattle.base.proofs.Memory.{written_none}
use Rattle.digits.specs.Digits.{padded, value_from}
use Rattle.base.proofs.Lists.{written_first, part_first, part_none}
use Rattle.digits.proofs.Laws.{padded_none}

-- a digit that stands, then those that are left
pub digit_first : (s t : List ℕ) (k : ℕ) (d all : List ℕ) {b c : ℕ} → k + 1 ≤ length d → s ≡ c ∷ t → b ≡ c → written d k s ≡ all → written (set d k b) (k + 1) t ≡ all
digit_first s t k d all {b} {c} l e p q = written_first d k b t l ∙ ap (λ (x : ℕ). written d k (x ∷ t)) p ∙ ap (written d k) (sym e) ∙ q

-- where no digit is left, all stand
pub digits_done : (n w k : ℕ) (d all : List ℕ) → w ≡ 0 → written d k (padded n w) ≡ all → d ≡ all
digits_done n w k d all e q = sym (written_none d k []) ∙ ap (written d k) (sym (ap (padded n) e ∙ padded_none n)) ∙ q

-- digits read
pub value_more : (s : List ℕ) (i to : ℕ) → i < to → to ≤ length s → (n all : ℕ) → value_from n (part s i to) ≡ all → value_from (10 * n + (get_or s i 0 - 48)) (part s (i + 1) to) ≡ all
unfolding value_from
value_more s i to h k n all q = ap (value_from n) (sym (part_first s i to h k)) ∙ q

pub value_last : (s : List ℕ) (i to n all : ℕ) → to ≤ i → value_from n (part s i to) ≡ all → n ≡ all
unfolding value_from
value_last s i to n all h q = ap (value_from n) (sym (part_none s i to h)) ∙ q

pub ten_more : (n d k j : ℕ) → d ≤ 9 → j ≡ suc k → n < 10 ^ k → 10 * n + d < 10 ^ j
ten_more n d k j h e l = let p : 10 ^ j ≡ 10 ^ k * 10 = ap (λ (i : ℕ). 10 ^ i) e ∙ pow-suc 10 k in omega arith

pub below_eight : (n k : ℕ) → k ≤ 8 → n < 10 ^ k → n < 10 ^ 8
below_eight n k h l = omega (arith, pow-le-pow_right {n = 10} (omega arith) {i = k} {j = 8} h)
