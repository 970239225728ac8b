-- What is known of the classes of bytes.
use Prim.Native.Nat.{ℕ, zero, suc, ◌+◌, ◌≤◌, ◌<◌}
use mathlib.Core.Path.{◌≡◌, refl, sym, ap, ◌∙◌}
use mathlib.Core.Bool.{Bool, true, false, not}
use mathlib.Core.List.{List, [], ◌∷◌, ◌++◌}
use native.Mathlib.Omega.{arith}
use borrow.Author.Rules.{rules}
use borrow.Author.Tests.{le-leb, leb-true, eqb-true, eqb-false}
use lib.Dec.{T, leb, eqb}
use lib.ListN.{length, get_or}
use Rattle.base.specs.Choice.{pick, both}
use Rattle.base.specs.Memory.{part}
use Rattle.base.proofs.Choice.{pick_true, pick_false, pick_either, both_true, both_of, by_test, never, fails, both_left}
use Rattle.base.proofs.Table.{rule, follows}
use Rattle.digits.specs.Digits.{is_digit, all_digits, padded, printed}
use Rattle.base.proofs.Every.{every_none, every_one, every_append, every_weaker, every_part}
use Rattle.base.proofs.Lists.{part_none, part_last}
use Rattle.digits.proofs.Laws.{digit_range, all_digits_padded, all_digits_printed}
use Rattle.classes.specs.declared.Class.{Class}
use Rattle.classes.specs.declared.Class.TheVariants.{Other, Digit, Letter}
use Rattle.classes.specs.Classes.{is_allowed, all_allowed, is_letter, class_of, same_class, tabled_as, tabled_of, class_table, class_size}

-- the test of the whole table, computed
whole : T (follows tabled_of 0 class_table)
unfolding class_table tabled_of class_of is_allowed is_letter is_digit pick
whole = search rules

-- and so what is tabled of each byte stands at its place
pub tabled_at : (b : ℕ) → b < 256 → get_or class_table b 0 ≡ tabled_of b
unfolding class_table
tabled_at b h = rule tabled_of class_table whole b h

-- ten digits, 52 letters and 194 others, computed
pub sizes : class_size Digit 256 ∷ class_size Letter 256 ∷ class_size Other 256 ∷ [] ≡ 10 ∷ 52 ∷ 194 ∷ []
unfolding class_size class_of is_letter is_digit pick
sizes = refl

-- Digits and letters

letter_range : (b : ℕ) → is_letter b ≡ true → (65 ≤ b) × (b ≤ 122)
unfolding is_letter
letter_range b e = by_test (both (leb 65 b) (leb b 90))
    (λ u.
    let r = both_true (leb 65 b) (leb b 90) u in
    let low : 65 ≤ b = leb-true _ _ r.0 in
    let high : b ≤ 90 = leb-true _ _ r.1 in
    omega arith)
    (λ u.
    let r = both_true (leb 97 b) (leb b 122) (sym (pick_false true (both (leb 97 b) (leb b 122)) u) ∙ e) in
    let low : 97 ≤ b = leb-true _ _ r.0 in
    let high : b ≤ 122 = leb-true _ _ r.1 in
    omega arith)

pub digit_allowed : (b : ℕ) → is_digit b ≡ true → is_allowed b ≡ true
unfolding is_allowed pick
digit_allowed b e =
    let r : (48 ≤ b) × (b ≤ 57) = digit_range b e in
    let low : 33 ≤ b = omega arith in
    let high : b ≤ 63 = omega arith in
    rw (le-leb _ _ low, le-leb _ _ high)

letter_allowed : (b : ℕ) → is_letter b ≡ true → is_allowed b ≡ true
unfolding is_allowed
letter_allowed b e =
    let r : (65 ≤ b) × (b ≤ 122) = letter_range b e in
    let high : b ≤ 126 = omega arith in
    pick_either (λ (x : Bool). x ≡ true) (both (leb 33 b) (leb b 63)) true _ refl (both_of (le-leb _ _ r.0) (le-leb _ _ high))

pub letter_no_digit : (b : ℕ) → is_letter b ≡ true → is_digit b ≡ false
letter_no_digit b e = fails (λ d.
    let r : (65 ≤ b) × (b ≤ 122) = letter_range b e in
    let k : (48 ≤ b) × (b ≤ 57) = digit_range b d in
    omega arith)

-- The three classes

pub class_digit : (b : ℕ) → is_digit b ≡ true → class_of b ≡ Digit
unfolding class_of
class_digit b e = pick_true _ _ e

pub class_letter : (b : ℕ) → is_letter b ≡ true → class_of b ≡ Letter
unfolding class_of
class_letter b e = pick_false _ _ (letter_no_digit b e) ∙ pick_true _ _ e

pub class_other : (b : ℕ) → is_digit b ≡ false → is_letter b ≡ false → class_of b ≡ Other
unfolding class_of
class_other b d e = pick_false _ _ d ∙ pick_false _ _ e

pub digit_class_law : (b : ℕ) → class_of b ≡ Digit → is_digit b ≡ true
digit_class_law b e = by_test (is_digit b) (λ d. d) (λ d. by_test (is_letter b)
    (λ l. cc (class_letter b l))
    (λ l. cc (class_other b d l)))

pub letter_class_law : (b : ℕ) → class_of b ≡ Letter → is_letter b ≡ true
letter_class_law b e = by_test (is_letter b) (λ l. l) (λ l. by_test (is_digit b)
    (λ d. cc (class_digit b d))
    (λ d. cc (class_other b d l)))

-- Two classes are one

pub same_true : (a b : Class) → same_class a b ≡ true → a ≡ b
same_true Other Other e = refl
same_true Other Digit e = cc
same_true Other Letter e = cc
same_true Digit Other e = cc
same_true Digit Digit e = refl
same_true Digit Letter e = cc
same_true Letter Other e = cc
same_true Letter Digit e = cc
same_true Letter Letter e = refl

same_refl : (a : Class) → same_class a a ≡ true
same_refl Other = refl
same_refl Digit = refl
same_refl Letter = refl

pub same_of : (a b : Class) → a ≡ b → same_class a b ≡ true
same_of a b e = rw e (same_refl b)

pub same_false : (a b : Class) → same_class a b ≡ false → a ≡ b → ⊥
same_false a b e f = never (sym e ∙ same_of a b f)

pub same_not : (a b : Class) → (a ≡ b → ⊥) → same_class a b ≡ false
same_not a b f = fails (λ e. f (same_true a b e))

-- What is tabled

tabled_barred : (b : ℕ) → is_allowed b ≡ false → tabled_of b ≡ 0
unfolding tabled_of
tabled_barred b e = pick_false _ _ e

pub tabled_allowed : (b : ℕ) → is_allowed b ≡ true → tabled_of b ≡ tabled_as (class_of b)
unfolding tabled_of
tabled_allowed b e = pick_true _ _ e

some_tabled : (k : Class) → 0 < tabled_as k
some_tabled Other = omega arith
some_tabled Digit = omega arith
some_tabled Letter = omega arith

pub barred_tabled : (b : ℕ) → tabled_of b ≡ 0 → is_allowed b ≡ false
barred_tabled b e = by_test (is_allowed b) (λ a. absurd (omega (arith, tabled_allowed b a, some_tabled (class_of b)))) (λ a. a)

pub allowed_tabled : (b : ℕ) → (tabled_of b ≡ 0 → ⊥) → is_allowed b ≡ true
allowed_tabled b f = by_test (is_allowed b) (λ a. a) (λ a. absurd (f (tabled_barred b a)))

-- so 0 tells it
pub told_allowed : (b : ℕ) {t : ℕ} → t ≡ tabled_of b → not (eqb t 0) ≡ is_allowed b
told_allowed b {t} q = by_test (eqb t 0)
    (λ z. ap not z ∙ sym (barred_tabled b (sym q ∙ eqb-true _ _ z)))
    (λ z. ap not z ∙ sym (allowed_tabled b (λ e. eqb-false t 0 z (q ∙ e))))

-- digits and letters are allowed, so that any other byte is of the class of others
pub barred_class : (b : ℕ) → is_allowed b ≡ false → class_of b ≡ Other
barred_class b e =
    let other : (f : ℕ → Bool) → (f b ≡ true → is_allowed b ≡ true) → f b ≡ false = λ f g. fails (λ t. never (sym e ∙ g t)) in
    class_other b (other is_digit (digit_allowed b)) (other is_letter (letter_allowed b))

-- so that the class of every byte is had back from what is tabled
unfoldable pub told : ℕ → Class
told (suc (suc zero)) = Digit
told (suc (suc (suc zero))) = Letter
told _ = Other

told_back : (k : Class) → told (tabled_as k) ≡ k
unfolding told
told_back Other = refl
told_back Digit = refl
told_back Letter = refl

pub told_class : (b : ℕ) {t : ℕ} → t ≡ tabled_of b → told t ≡ class_of b
unfolding told
told_class b q = by_test (is_allowed b)
    (λ a. ap told (q ∙ tabled_allowed b a) ∙ told_back (class_of b))
    (λ a. ap told (q ∙ tabled_barred b a) ∙ sym (barred_class b a))

pub told_other : (t : ℕ) → (t ≡ 2 → ⊥) → (t ≡ 3 → ⊥) → told t ≡ Other
unfolding told
told_other zero f g = refl
told_other (suc zero) f g = refl
told_other (suc (suc zero)) f g = absurd (f refl)
told_other (suc (suc (suc zero))) f g = absurd (g refl)
told_other (suc (suc (suc (suc t)))) f g = refl

-- Lists of them

pub allowed_one : (b : ℕ) → all_allowed (b ∷ []) ≡ is_allowed b
allowed_one b = every_one is_allowed b

-- one byte more
pub allowed_then : (s : List ℕ) (b : ℕ) → all_allowed (s ++ b ∷ []) ≡ both (all_allowed s) (is_allowed b)
allowed_then s b = every_append is_allowed s (b ∷ []) ∙ ap (both (all_allowed s)) (allowed_one b)

pub allowed_more : (s : List ℕ) (at i : ℕ) → at ≤ i → i < length s → all_allowed (part s at i) ≡ true → is_allowed (get_or s i 0) ≡ true → all_allowed (part s at (i + 1)) ≡ true
allowed_more s at i h k e f = ap all_allowed (part_last s at i h k) ∙ allowed_then (part s at i) (get_or s i 0) ∙ both_of e f

pub allowed_digits : (l : List ℕ) → all_digits l ≡ true → all_allowed l ≡ true
allowed_digits l e = every_weaker is_digit is_allowed digit_allowed l e

pub allowed_printed : (n : ℕ) → all_allowed (printed n) ≡ true
allowed_printed n = allowed_digits (printed n) (all_digits_printed n)

pub allowed_padded : (n w : ℕ) → all_allowed (padded n w) ≡ true
allowed_padded n w = allowed_digits (padded n w) (all_digits_padded n w)

-- a turn of a loop over a part
module _ (s : List ℕ) (i to : ℕ) (h : i < to) (k : to ≤ length s) where
  pub barred_here : is_allowed (get_or s i 0) ≡ false → all_allowed (part s i to) ≡ false
  barred_here e = every_part is_allowed s i to h k ∙ both_left (all_allowed (part s (i + 1) to)) e

  pub allowed_here : is_allowed (get_or s i 0) ≡ true → all_allowed (part s i to) ≡ all_allowed (part s (i + 1) to)
  allowed_here e = every_part is_allowed s i to h k ∙ pick_true (all_allowed (part s (i + 1) to)) false e

pub allowed_none : (s : List ℕ) (i to : ℕ) → to ≤ i → all_allowed (part s i to) ≡ true
allowed_none s i to h = ap all_allowed (part_none s i to h) ∙ every_none is_allowed
