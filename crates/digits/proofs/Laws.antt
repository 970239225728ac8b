-- What is known of numbers in base ten: what callers use in place of the definitions' text.
use Prim.Native.Nat.{ℕ, zero, suc, ◌+◌, ◌-◌, ◌*◌, ◌/◌, ◌%◌, ◌^◌, ◌≤◌, ◌<◌}
use mathlib.Core.Path.{◌≡◌, refl, sym, ap, ◌∙◌}
use mathlib.Core.Bool.{true, false}
use mathlib.Core.Logic.{⊎_elim}
use mathlib.Core.List.{List, [], ◌∷◌, ◌++◌, reverse-cons, append-nil}
use native.Mathlib.Omega.{arith}
use native.Mathlib.Nat.{add-zero, zero-add, mul_assoc, mul-le-mul_right, pow-suc, pow-succ', pow-le-pow_right, div-lt_iff_lt-mul, div-add-mod'}
use native.Mathlib.Numerals.{lt_of_le_of_ne}
use lib.Dec.{ltb, leb}
use lib.Seq.{append_snoc}
use borrow.Author.Tests.{le-leb, lt-leb, le-ltb, lt-ltb, leb-true, ltb-true}
use lib.ListN.{length, get_or, length-reverse}
use Rattle.base.proofs.Choice.{pick_true, pick_false, pick_holds, both_true, both_of, both_left, both_right}
use Rattle.base.proofs.Numbers.{lt_or_ge}
use Rattle.digits.specs.Digits.{low, padded, count_within, digit_count, printed, fits_width, is_digit, all_digits, value_from, value_of}
use Rattle.base.proofs.Every.{every_more, every_one, every_append, every_none}

-- Lengths

pub length_low : (w n : ℕ) → length (low w n) ≡ w
unfolding low
length_low zero n = refl
length_low (suc w) n = ap suc (length_low w (n / 10))

pub length_padded : (n w : ℕ) → length (padded n w) ≡ w
unfolding padded
length_padded n w = length-reverse (low w n) ∙ length_low w n

pub printed_padded : (n : ℕ) → printed n ≡ padded n (digit_count n)
unfolding printed
printed_padded n = refl

pub length_printed : (n : ℕ) → length (printed n) ≡ digit_count n
length_printed n = ap length (printed_padded n) ∙ length_padded n (digit_count n)

-- Digits one by one

pub padded_none : (n : ℕ) → padded n 0 ≡ []
unfolding padded low
padded_none n = refl

pub padded_more : (n w : ℕ) → padded n (suc w) ≡ padded (n / 10) w ++ (48 + n % 10) ∷ []
unfolding padded low
padded_more n w = reverse-cons (48 + n % 10) (low w (n / 10))

pub is_digit_law : (b : ℕ) → 48 ≤ b → b ≤ 57 → is_digit b ≡ true
unfolding is_digit
is_digit_law b h k = both_of (le-leb _ _ h) (le-leb _ _ k)

pub digit_range : (b : ℕ) → is_digit b ≡ true → (48 ≤ b) × (b ≤ 57)
unfolding is_digit
digit_range b e = let p = both_true (leb 48 b) (leb b 57) e in (leb-true _ _ p.0, leb-true _ _ p.1)

pub all_digits_padded : (n w : ℕ) → all_digits (padded n w) ≡ true
all_digits_padded n zero = ap all_digits (padded_none n) ∙ every_none is_digit
all_digits_padded n (suc w) =
    ap all_digits (padded_more n w) ∙ every_append is_digit (padded (n / 10) w) ((48 + n % 10) ∷ [])
    ∙ both_of (all_digits_padded (n / 10) w) (every_one is_digit (48 + n % 10) ∙ is_digit_law (48 + n % 10) (omega arith) (omega arith))

pub all_digits_printed : (n : ℕ) → all_digits (printed n) ≡ true
all_digits_printed n = ap all_digits (printed_padded n) ∙ all_digits_padded n (digit_count n)

-- How many

one_digit : (k n : ℕ) → n < 10 → count_within k n ≡ 1
unfolding count_within
one_digit zero n h = refl
one_digit (suc k) n h = pick_true 1 (suc (count_within k (n / 10))) (lt-ltb _ _ h)

more_digits : (k n : ℕ) → 10 ≤ n → count_within (suc k) n ≡ suc (count_within k (n / 10))
unfolding count_within
more_digits k n h = pick_false 1 (suc (count_within k (n / 10))) (le-ltb _ _ h)

div_ten : (k n : ℕ) → n < 10 ^ suc k → n / 10 < 10 ^ k
div_ten k n h = (div-lt_iff_lt-mul {k = 10} (omega arith)).1 (rw pow-suc at h)

mul_ten : (k n : ℕ) → n / 10 < 10 ^ k → n < 10 ^ suc k
mul_ten k n h = rw pow-suc ((div-lt_iff_lt-mul {k = 10} (omega arith)).0 h)

ten_le : (k : ℕ) → 10 ≤ 10 ^ suc k
ten_le k = pow-le-pow_right {n = 10} (omega arith) {i = 1} {j = suc k} (omega arith)

-- where k divisions are enough, one more tells the same
enough : (k n : ℕ) → n < 10 ^ suc k → count_within k n ≡ count_within (suc k) n
enough zero n h = let g : n < 10 = h in one_digit 0 n g ∙ sym (one_digit 1 n g)
enough (suc k) n h = ⊎_elim
    (λ (l : n < 10). one_digit (suc k) n l ∙ sym (one_digit (suc (suc k)) n l))
    (λ (l : 10 ≤ n). more_digits k n l ∙ ap suc (enough k (n / 10) (div_ten (suc k) n h)) ∙ sym (more_digits (suc k) n l))
    (lt_or_ge n 10)

pub count_one : (n : ℕ) → n < 10 → digit_count n ≡ 1
unfolding digit_count
count_one n h = one_digit 9 n h

pub count_more : (n : ℕ) → 10 ≤ n → n < 2 ^ 32 → digit_count n ≡ suc (digit_count (n / 10))
unfolding digit_count
count_more n h k = enough 9 n (omega arith) ∙ more_digits 9 n h

within_positive : (k n : ℕ) → 1 ≤ count_within k n
unfolding count_within
within_positive zero n = omega arith
within_positive (suc k) n = pick_holds (λ (c : ℕ). 1 ≤ c) (ltb n 10) 1 (suc (count_within k (n / 10))) (λ e. omega arith) (λ e. omega arith)

-- a number below ten to the w has at most w digits
within_le : (w k n : ℕ) → n < 10 ^ suc w → count_within k n ≤ suc w
unfolding count_within
within_le w zero n h = omega arith
within_le zero (suc k) n h = let g : n < 10 = h in omega (arith, one_digit (suc k) n g)
within_le (suc w) (suc k) n h = ⊎_elim
    (λ (l : n < 10). omega (arith, one_digit (suc k) n l))
    (λ (l : 10 ≤ n). omega (arith, more_digits k n l, within_le w k (n / 10) (div_ten (suc w) n h)))
    (lt_or_ge n 10)

carry : (w c n : ℕ) → 1 ≤ c → c ≤ w → ((v : ℕ) → c ≤ suc v → n / 10 < 10 ^ suc v) → n < 10 ^ suc w
carry zero c n h k r = absurd (omega arith)
carry (suc w) c n h k r = mul_ten (suc w) n (r w k)

-- a number of at most w digits is below ten to the w
within_lt : (k w n : ℕ) → n < 10 ^ suc k → count_within k n ≤ suc w → n < 10 ^ suc w
within_lt zero w n h c = let g : n < 10 = h in omega (arith, ten_le w)
within_lt (suc k) w n h c = ⊎_elim
    (λ (l : n < 10). omega (arith, ten_le w))
    (λ (l : 10 ≤ n). carry w (count_within k (n / 10)) n (within_positive k (n / 10)) (omega (arith, more_digits k n l)) (λ v. within_lt k v (n / 10) (div_ten (suc k) n h)))
    (lt_or_ge n 10)

pub count_positive : (n : ℕ) → 1 ≤ digit_count n
unfolding digit_count
count_positive n = within_positive 9 n

within_short : (k n : ℕ) → count_within k n ≤ suc k
unfolding count_within
within_short zero n = omega arith
within_short (suc k) n =
    pick_holds (λ (c : ℕ). c ≤ suc (suc k)) (ltb n 10) 1 (suc (count_within k (n / 10))) (λ e. omega arith) (λ e. omega (arith, within_short k (n / 10)))

pub count_ten : (n : ℕ) → n < 2 ^ 32 → digit_count n ≤ 10
unfolding digit_count
count_ten n h = within_short 9 n

-- ten digits at most, of any number
pub printed_short : (n : ℕ) → length (printed n) ≤ 10
unfolding digit_count
printed_short n = omega (arith, length_printed n, within_short 9 n)

pub count_le : (n w : ℕ) → 1 ≤ w → n < 10 ^ w → digit_count n ≤ w
unfolding digit_count
count_le n zero h k = absurd (omega arith)
count_le n (suc w) h k = within_le w 9 n k

pub below_count : (n w : ℕ) → n < 2 ^ 32 → digit_count n ≤ w → n < 10 ^ w
unfolding digit_count
below_count n zero h k = absurd (omega (arith, within_positive 9 n))
below_count n (suc w) h k = within_lt 9 w n (omega arith) k

pub count_is : (n w : ℕ) → n < 2 ^ 32 → 10 ^ w ≤ n → n < 10 ^ suc w → suc w ≡ digit_count n
count_is n w h a b =
    ⊎_elim
    (λ l. absurd (omega (arith, below_count n w h (omega arith))))
    (λ g. omega (arith, count_le n (suc w) (omega arith) b))
    (lt_or_ge (digit_count n) (suc w))

-- Digits from the front

-- what is above the w lowest digits isn't printed with w
padded_low : (w a b : ℕ) → padded (a * 10 ^ w + b) w ≡ padded b w
padded_low zero a b = padded_none (a * 10 ^ 0 + b) ∙ sym (padded_none b)
padded_low (suc w) a b =
    let n : ℕ = a * 10 ^ suc w + b in
    let t : a * 10 ^ suc w ≡ a * 10 ^ w * 10 = ap (λ (p : ℕ). a * p) (pow-suc 10 w) ∙ sym (mul_assoc a (10 ^ w) 10) in
    let q : n / 10 ≡ a * 10 ^ w + b / 10 = omega arith in
    let r : n % 10 ≡ b % 10 = omega arith in
    padded_more n w ∙ rw (q, r) (ap (λ (s : List ℕ). s ++ (48 + b % 10) ∷ []) (padded_low w a (b / 10))) ∙ sym (padded_more b w)

-- the first of w + 1 digits, then the others
pub padded_first : (w d b : ℕ) → d < 10 → b < 10 ^ w → padded (d * 10 ^ w + b) (suc w) ≡ (48 + d) ∷ padded b w
padded_first zero d b h k =
    let z : b ≡ 0 = omega arith in
    let n : ℕ = d * 1 + b in
    let r : n % 10 ≡ d = omega arith in
    padded_more n 0 ∙ rw r (ap (λ (s : List ℕ). s ++ (48 + d) ∷ []) (padded_none (n / 10))) ∙ sym (ap (λ (s : List ℕ). (48 + d) ∷ s) (padded_none b))
padded_first (suc w) d b h k =
    let n : ℕ = d * 10 ^ suc w + b in
    let t : d * 10 ^ suc w ≡ d * 10 ^ w * 10 = ap (λ (p : ℕ). d * p) (pow-suc 10 w) ∙ sym (mul_assoc d (10 ^ w) 10) in
    let q : n / 10 ≡ d * 10 ^ w + b / 10 = omega arith in
    let r : n % 10 ≡ b % 10 = omega arith in
    padded_more n (suc w)
    ∙ rw (q, r) (ap (λ (s : List ℕ). s ++ (48 + b % 10) ∷ []) (padded_first w d (b / 10) h (div_ten w b k)))
    ∙ sym (ap (λ (s : List ℕ). (48 + d) ∷ s) (padded_more b w))

-- a number below ten to the w has a zero before its w digits
pub padded_zero : (n w : ℕ) → n < 10 ^ w → padded n (suc w) ≡ 48 ∷ padded n w
padded_zero n w h = let z : 0 * 10 ^ w + n ≡ n = omega arith in sym (ap (λ (m : ℕ). padded m (suc w)) z) ∙ padded_first w 0 n (omega arith) h

-- the w lowest digits of a number are all that w digits print
pub padded_mod : (n w : ℕ) → padded (n % 10 ^ w) w ≡ padded n w
padded_mod n w = sym (padded_low w (n / 10 ^ w) (n % 10 ^ w)) ∙ ap (λ (m : ℕ). padded m w) (div-add-mod' n (10 ^ w))

-- Widths

pub fits_of : (n w : ℕ) → 1 ≤ w → n < 10 ^ w → fits_width n w ≡ true
unfolding fits_width
fits_of n w h k = both_of (le-leb _ _ h) (lt-ltb _ _ k)

pub fits_below : (n w : ℕ) → fits_width n w ≡ true → n < 10 ^ w
unfolding fits_width
fits_below n w e = ltb-true _ _ (both_true (leb 1 w) (ltb n (10 ^ w)) e).1

pub fits_zero : (n w : ℕ) → w < 1 → fits_width n w ≡ false
unfolding fits_width
fits_zero n w h = both_left (ltb n (10 ^ w)) (lt-leb _ _ h)

pub count_fits : (n w : ℕ) → n < 2 ^ 32 → digit_count n ≤ w → fits_width n w ≡ true
count_fits n w h k = fits_of n w (omega (arith, count_positive n)) (below_count n w h k)

pub count_above : (n w : ℕ) → 1 ≤ w → w < digit_count n → fits_width n w ≡ false
unfolding fits_width
count_above n w h k = both_right (le-leb _ _ h) (le-ltb _ _ (⊎_elim (λ (l : n < 10 ^ w). absurd (omega (arith, count_le n w h l))) (λ (l : 10 ^ w ≤ n). l) (lt_or_ge n (10 ^ w))))

pub fits_nine : (n w : ℕ) → fits_width n w ≡ true → w ≤ 9 → n < 10 ^ 9
fits_nine n w e h = omega (arith, fits_below n w e, pow-le-pow_right {n = 10} (omega arith) {i = w} {j = 9} h)

-- The way back

digit_more : (acc b : ℕ) → is_digit b ≡ true → ((10 * acc + (b - 48)) / 10 ≡ acc) × (48 + (10 * acc + (b - 48)) % 10 ≡ b)
digit_more acc b e = let r : (48 ≤ b) × (b ≤ 57) = digit_range b e in (omega arith, omega arith)

module _ (b : ℕ) (l : List ℕ) (e : all_digits (b ∷ l) ≡ true) where
  first_digit : is_digit b ≡ true
  first_digit = (both_true (is_digit b) (all_digits l) (sym (every_more is_digit b l) ∙ e)).0

  other_digits : all_digits l ≡ true
  other_digits = (both_true (is_digit b) (all_digits l) (sym (every_more is_digit b l) ∙ e)).1

padded_from : (acc k : ℕ) (l : List ℕ) → all_digits l ≡ true → padded (value_from acc l) (k + length l) ≡ padded acc k ++ l
unfolding value_from
padded_from acc k [] e = rw (add-zero, append-nil)
padded_from acc k (b ∷ l) e =
    let d = digit_more acc b (first_digit b l e) in
    let n : ℕ = 10 * acc + (b - 48) in
    let g : k + suc (length l) ≡ suc k + length l = omega arith in
    ap (padded (value_from n l)) g
    ∙ padded_from n (suc k) l (other_digits b l e)
    ∙ ap (λ (s : List ℕ). s ++ l) (padded_more n k)
    ∙ rw (d.0, d.1, append_snoc)

below_from : (acc : ℕ) (l : List ℕ) → all_digits l ≡ true → value_from acc l < (acc + 1) * 10 ^ length l
unfolding value_from
below_from acc [] e = omega arith
below_from acc (b ∷ l) e =
    let r : (48 ≤ b) × (b ≤ 57) = digit_range b (first_digit b l e) in
    let n : ℕ = 10 * acc + (b - 48) in
    let h : (n + 1) * 10 ^ length l ≤ (acc + 1) * 10 * 10 ^ length l = mul-le-mul_right (10 ^ length l) (omega arith) in
    let g : (acc + 1) * 10 ^ suc (length l) ≡ (acc + 1) * 10 * 10 ^ length l = ap (λ (p : ℕ). (acc + 1) * p) (pow-succ' 10 (length l)) ∙ sym (mul_assoc (acc + 1) 10 (10 ^ length l)) in
    omega (arith, below_from n l (other_digits b l e))

from_least : (acc : ℕ) (l : List ℕ) → acc * 10 ^ length l ≤ value_from acc l
unfolding value_from
from_least acc [] = omega arith
from_least acc (b ∷ l) =
    let n : ℕ = 10 * acc + (b - 48) in
    let h : acc * 10 * 10 ^ length l ≤ n * 10 ^ length l = mul-le-mul_right (10 ^ length l) (omega arith) in
    let g : acc * 10 ^ suc (length l) ≡ acc * 10 * 10 ^ length l = ap (λ (p : ℕ). acc * p) (pow-succ' 10 (length l)) ∙ sym (mul_assoc acc 10 (10 ^ length l)) in
    omega (arith, from_least n l)

-- a run of w digits says a number below ten to the w, and printed with w digits that is the run
pub value_below : (s : List ℕ) (w : ℕ) → all_digits s ≡ true → length s ≡ w → value_of s < 10 ^ w
unfolding value_of
value_below s w e l = let h : 10 ^ length s ≡ 10 ^ w = ap (λ (n : ℕ). 10 ^ n) l in omega (arith, below_from 0 s e)

pub padded_value : (s : List ℕ) (w : ℕ) → all_digits s ≡ true → length s ≡ w → padded (value_of s) w ≡ s
unfolding value_of
padded_value s w e l = ap (padded (value_from 0 s)) (sym l ∙ sym (zero-add (length s))) ∙ padded_from 0 0 s e ∙ ap (λ (p : List ℕ). p ++ s) (padded_none 0)

value_least : (s : List ℕ) (w : ℕ) → all_digits s ≡ true → length s ≡ suc w → (get_or s 0 0 ≡ 48 → ⊥) → 10 ^ w ≤ value_of s
unfolding value_of value_from
value_least [] w e l h = absurd (omega arith)
value_least (b ∷ s) w e l h =
    let r : (48 ≤ b) × (b ≤ 57) = digit_range b (first_digit b s e) in
    let k : 49 ≤ b = omega (arith, lt_of_le_of_ne r.0 (λ q. h (sym q))) in
    let v : length s ≡ w = omega arith in
    let m : 10 ^ length s ≡ 10 ^ w = ap (λ (n : ℕ). 10 ^ n) v in
    let g : 1 * 10 ^ length s ≤ (10 * 0 + (b - 48)) * 10 ^ length s = mul-le-mul_right (10 ^ length s) (omega arith) in
    omega (arith, from_least (10 * 0 + (b - 48)) s)

count_least : (s : List ℕ) (w : ℕ) → all_digits s ≡ true → length s ≡ w → value_of s < 2 ^ 32 → (get_or s 0 0 ≡ 48 → ⊥) → w ≤ digit_count (value_of s)
count_least s zero e l h z = omega arith
count_least s (suc w) e l h z = ⊎_elim
    (λ (k : digit_count (value_of s) < suc w). absurd (omega (arith, below_count (value_of s) w h (omega arith), value_least s w e l z)))
    (λ (k : suc w ≤ digit_count (value_of s)). k)
    (lt_or_ge (digit_count (value_of s)) (suc w))

-- one that does not begin with a zero is what its number prints
module _ (s : List ℕ) (w : ℕ) (e : all_digits s ≡ true) (l : length s ≡ w) (h : 1 ≤ w) (k : w ≤ 9) (z : get_or s 0 0 ≡ 48 → ⊥) where
  pub count_value : digit_count (value_of s) ≡ w
  count_value =
      let b : value_of s < 10 ^ w = value_below s w e l in
      let p : 10 ^ w ≤ 10 ^ 9 = pow-le-pow_right {n = 10} (omega arith) {i = w} {j = 9} k in
      omega (arith, count_le (value_of s) w h b, count_least s w e l (omega arith) z)

  pub printed_value : printed (value_of s) ≡ s
  printed_value = printed_padded (value_of s) ∙ ap (padded (value_of s)) count_value ∙ padded_value s w e l
