use borrow.Author.Rules.{rules}
use native.Mathlib.Omega.{arith}
use native.Mathlib.Nat.{div-eq_of_lt-le}
use Prim.Native.Nat.{ℕ, suc, ◌+◌, ◌*◌, ◌/◌, ◌%◌, ◌^◌, ◌<◌, ◌≤◌}
use mathlib.Core.Path.{◌≡◌, ◌∙◌}
use Rattle.digits.specs.Fractions.{whole, leading}
use Rattle.digits.proofs.fraction.Goals as goal

-- a width that is told
at_width : (v f n : ℕ) {w : ℕ} → w ≡ v → f < whole → leading f v ≡ n % 10 ^ v → (f < whole) × (leading f w ≡ n % 10 ^ w)
at_width v f n {w} e h q = (h, rw e q)

-- ten digits: the fraction is above the number's and below the next one's
ten_parts : (n x : ℕ) → n < 2 ^ 32 → n * 3689348815 < 32 * x → 32 * x ≤ n * 3689348815 + 32 → leading x 10 ≡ n
ten_parts n x h a b =
    let low : n * whole ≤ x * 10 ^ 10 = omega arith in
    let high : x * 10 ^ 10 < (n + 1) * whole = omega arith in
    div-eq_of_lt-le {k = n} whole low high

ten_digits : (n : ℕ) → n < 2 ^ 32 → leading (n * 3689348815 / 32 + 1) 10 ≡ n % 10 ^ 10
ten_digits n h =
    let x : ℕ = n * 3689348815 / 32 + 1 in
    let m : n ≡ n % 10 ^ 10 = omega arith in
    ten_parts n x h (omega arith) (omega arith) ∙ m

-- a width that is another
past : {w k : ℕ} → k ≤ w → (w ≡ k → ⊥) → suc k ≤ w
past h e = omega arith

pub returns-in-0 : goal.returns-in-0
returns-in-0 c = at_width 0 _ _ c.in-0.is (omega arith) (omega arith)

pub returns-in-1 : goal.returns-in-1
returns-in-1 c = let b = c.below.ensures in at_width 1 _ _ c.in-1.is (omega arith) (omega arith)

pub returns-in-2 : goal.returns-in-2
returns-in-2 c = let b = c.below-in-2.ensures in at_width 2 _ _ c.in-2.is (omega arith) (omega arith)

pub returns-in-3 : goal.returns-in-3
returns-in-3 c = let b = c.below-in-3.ensures in at_width 3 _ _ c.in-3.is (omega arith) (omega arith)

pub returns-in-4 : goal.returns-in-4
returns-in-4 c = let b = c.below-in-4.ensures in at_width 4 _ _ c.in-4.is (omega arith) (omega arith)

pub returns-in-5 : goal.returns-in-5
returns-in-5 c = let b = c.below-in-5.ensures in at_width 5 _ _ c.in-5.is (omega arith) (omega arith)

pub returns-in-6 : goal.returns-in-6
returns-in-6 c = let b = c.below-in-6.ensures in at_width 6 _ _ c.in-6.is (omega arith) (omega arith)

pub returns-in-7 : goal.returns-in-7
returns-in-7 c = let b = c.below-in-7.ensures in at_width 7 _ _ c.in-7.is (omega arith) (omega arith)

pub returns-in-8 : goal.returns-in-8
returns-in-8 c = let b = c.below-in-8.ensures in at_width 8 _ _ c.in-8.is (omega arith) (omega arith)

pub returns-in-9 : goal.returns-in-9
returns-in-9 c = let b = c.below-in-9.ensures in at_width 9 _ _ c.in-9.is (omega arith) (omega arith)

pub returns-in_default : goal.returns-in_default
returns-in_default c =
    let ten : 10 ≤ c.args.w = past (past (past (past (past (past (past (past (past (past (omega arith) (search rules)) (search rules)) (search rules)) (search rules)) (search rules)) (search rules)) (search rules)) (search rules)) (search rules)) (search rules) in
    at_width 10 _ _ (omega arith) (omega arith) (ten_digits _ (search rules))
