-- What is known of spans laid one after another: cut in two, changed in one span, and how long they are.
use Prim.Native.Nat.{ℕ, zero, suc, ◌+◌, ◌-◌, ◌≤◌, ◌<◌}
use mathlib.Core.Path.{◌≡◌, refl, sym, ap, ◌∙◌}
use mathlib.Core.List.{List, [], ◌++◌, append_assoc, append-nil}
use native.Mathlib.Omega.{arith}
use lib.ListN.{length, length-append}
use Rattle.laying.specs.Puts.{joined}

pub joined_none : (f : ℕ → List ℕ) (i : ℕ) → joined f i 0 ≡ []
unfolding joined
joined_none f i = refl

pub joined_more : (f : ℕ → List ℕ) (i n : ℕ) → joined f i (suc n) ≡ f i ++ joined f (i + 1) n
unfolding joined
joined_more f i n = refl

pub joined_split : (f : ℕ → List ℕ) (m i n : ℕ) → joined f i (m + n) ≡ joined f i m ++ joined f (i + m) n
joined_split f zero i n =
    ap (joined f i) (let e : 0 + n ≡ n = omega arith in e) ∙ ap (λ (j : ℕ). joined f j n) (let e : i ≡ i + 0 = omega arith in e)
    ∙ ap (λ (l : List ℕ). l ++ joined f (i + 0) n) (sym (joined_none f i))
joined_split f (suc m) i n =
    ap (joined f i) (let e : suc m + n ≡ suc (m + n) = omega arith in e) ∙ joined_more f i (m + n)
    ∙ ap (λ (l : List ℕ). f i ++ l) (joined_split f m (i + 1) n)
    ∙ sym (append_assoc (f i) (joined f (i + 1) m) (joined f (i + 1 + m) n))
    ∙ ap (λ (l : List ℕ). l ++ joined f (i + 1 + m) n) (sym (joined_more f i m))
    ∙ ap (λ (j : ℕ). joined f i (suc m) ++ joined f j n) (let e : i + 1 + m ≡ i + suc m = omega arith in e)

pub joined_same : (f g : ℕ → List ℕ) (n i : ℕ) → ((j : ℕ) → i ≤ j → j < i + n → f j ≡ g j) → joined f i n ≡ joined g i n
joined_same f g zero i e = joined_none f i ∙ sym (joined_none g i)
joined_same f g (suc n) i e =
    joined_more f i n ∙ ap (λ (l : List ℕ). l ++ joined f (i + 1) n) (e i (omega arith) (omega arith))
    ∙ ap (λ (l : List ℕ). g i ++ l) (joined_same f g n (i + 1) (λ j h k. e j (omega arith) (omega arith)))
    ∙ sym (joined_more g i n)

-- the span k among n, and the spans on both sides of it
pub joined_at : (f : ℕ → List ℕ) (k n : ℕ) → k < n → joined f 0 n ≡ joined f 0 k ++ f k ++ joined f (k + 1) (n - (k + 1))
joined_at f k n h =
    ap (joined f 0) (let e : n ≡ k + suc (n - (k + 1)) = omega arith in e)
    ∙ joined_split f k 0 (suc (n - (k + 1)))
    ∙ ap (λ (j : ℕ). joined f 0 k ++ joined f j (suc (n - (k + 1)))) (let e : 0 + k ≡ k = omega arith in e)
    ∙ ap (λ (l : List ℕ). joined f 0 k ++ l) (joined_more f k (n - (k + 1)))
    ∙ sym (append_assoc (joined f 0 k) (f k) (joined f (k + 1) (n - (k + 1))))

-- another span k, the others as they are
pub joined_but : (f g : ℕ → List ℕ) (k n : ℕ) → k < n → ((j : ℕ) → (j ≡ k → ⊥) → f j ≡ g j) → joined g 0 n ≡ joined f 0 k ++ g k ++ joined f (k + 1) (n - (k + 1))
joined_but f g k n h e =
    joined_at g k n h
    ∙ ap (λ (l : List ℕ). l ++ g k ++ joined g (k + 1) (n - (k + 1))) (joined_same g f k 0 (λ j p q. sym (e j (λ r. omega arith))))
    ∙ ap (λ (l : List ℕ). joined f 0 k ++ g k ++ l) (joined_same g f (n - (k + 1)) (k + 1) (λ j p q. sym (e j (λ r. omega arith))))

-- as long, if each span is
pub length_joined : (f g : ℕ → List ℕ) (n i : ℕ) → ((j : ℕ) → i ≤ j → j < i + n → length (f j) ≡ length (g j)) → length (joined f i n) ≡ length (joined g i n)
length_joined f g zero i e = ap length (joined_none f i ∙ sym (joined_none g i))
length_joined f g (suc n) i e =
    let p : length (joined f i (suc n)) ≡ length (f i) + length (joined f (i + 1) n) = ap length (joined_more f i n) ∙ length-append (f i) (joined f (i + 1) n) in
    let q : length (joined g i (suc n)) ≡ length (g i) + length (joined g (i + 1) n) = ap length (joined_more g i n) ∙ length-append (g i) (joined g (i + 1) n) in
    omega (arith, e i (omega arith) (omega arith), length_joined f g n (i + 1) (λ j h k. e j (omega arith) (omega arith)))

-- the last of the spans
pub joined_last : (f : ℕ → List ℕ) (n : ℕ) → joined f 0 (n + 1) ≡ joined f 0 n ++ f n
joined_last f n =
    joined_split f n 0 1
    ∙ ap (λ (l : List ℕ). joined f 0 n ++ l)
    (ap (λ (j : ℕ). joined f j 1) (let e : 0 + n ≡ n = omega arith in e) ∙ joined_more f n 0 ∙ ap (λ (l : List ℕ). f n ++ l) (joined_none f (n + 1)) ∙ append-nil (f n))

pub length_joined_suc : (f : ℕ → List ℕ) (n : ℕ) → length (joined f 0 (n + 1)) ≡ length (joined f 0 n) + length (f n)
length_joined_suc f n = ap length (joined_last f n) ∙ length-append (joined f 0 n) (f n)

-- a span ends before all of them do
pub length_joined_at : (f : ℕ → List ℕ) (k n : ℕ) → k < n → length (joined f 0 k) + length (f k) ≤ length (joined f 0 n)
length_joined_at f k n h =
    let e : length (joined f 0 n) ≡ length (joined f 0 k ++ f k) + length (joined f (k + 1) (n - (k + 1))) =
    ap length (joined_at f k n h) ∙ length-append (joined f 0 k ++ f k) (joined f (k + 1) (n - (k + 1))) in
    omega (arith, length-append (joined f 0 k) (f k))

-- the sum of two, span by span
pub length_joined_sum : (f g h : ℕ → List ℕ) (n i : ℕ) → ((j : ℕ) → length (f j) ≡ length (g j) + length (h j))
    → length (joined f i n) ≡ length (joined g i n) + length (joined h i n)
length_joined_sum f g h zero i e =
    let p : length (joined f i 0) ≡ 0 = ap length (joined_none f i) in
    let q : length (joined g i 0) ≡ 0 = ap length (joined_none g i) in
    let r : length (joined h i 0) ≡ 0 = ap length (joined_none h i) in
    omega arith
length_joined_sum f g h (suc n) i e =
    let p : length (joined f i (suc n)) ≡ length (f i) + length (joined f (i + 1) n) = ap length (joined_more f i n) ∙ length-append (f i) (joined f (i + 1) n) in
    let q : length (joined g i (suc n)) ≡ length (g i) + length (joined g (i + 1) n) = ap length (joined_more g i n) ∙ length-append (g i) (joined g (i + 1) n) in
    let r : length (joined h i (suc n)) ≡ length (h i) + length (joined h (i + 1) n) = ap length (joined_more h i n) ∙ length-append (h i) (joined h (i + 1) n) in
    omega (arith, e i, length_joined_sum f g h n (i + 1) e)

-- nothing in any span
pub length_joined_none : (f : ℕ → List ℕ) (n i : ℕ) → ((j : ℕ) → i ≤ j → j < i + n → length (f j) ≡ 0) → length (joined f i n) ≡ 0
length_joined_none f zero i e = ap length (joined_none f i)
length_joined_none f (suc n) i e =
    let p : length (joined f i (suc n)) ≡ length (f i) + length (joined f (i + 1) n) = ap length (joined_more f i n) ∙ length-append (f i) (joined f (i + 1) n) in
    omega (arith, e i (omega arith) (omega arith), length_joined_none f n (i + 1) (λ j h k. e j (omega arith) (omega arith)))
