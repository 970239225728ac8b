-- Numbers in base ten. Callers know `printed`, `padded`, `digit_count` and `value_of` by the laws of proofs/Laws only.
use Rattle.std.specs.Prelude.{ℕ, zero, suc, ◌+◌, ◌-◌, ◌*◌, ◌/◌, ◌%◌, ◌^◌, List, [], ◌∷◌, reverse, Bool, ltb, leb}
use Rattle.base.specs.Choice.{pick, both}
use Rattle.base.specs.Every.{every}

-- the w lowest digits of n as bytes, the lowest first
unfoldable pub low : ℕ → ℕ → List ℕ
low zero n = []
low (suc w) n = (48 + n % 10) ∷ low w (n / 10)

-- n with w digits, the highest first
unfoldable pub padded : ℕ → ℕ → List ℕ
padded n w = reverse (low w n)

-- how many digits n has, told after k divisions at most
unfoldable pub count_within : ℕ → ℕ → ℕ
count_within zero n = 1
count_within (suc k) n = pick (ltb n 10) 1 (suc (count_within k (n / 10)))

-- how many digits n has, for n below ten to the ten; 0 has one
unfoldable pub digit_count : ℕ → ℕ
digit_count n = count_within 9 n

-- n printed in base ten with no leading zeros, 0 as "0"
unfoldable pub printed : ℕ → List ℕ
printed n = padded n (digit_count n)

-- width at least 1 and number below ten to the width
unfoldable pub fits_width : ℕ → ℕ → Bool
fits_width n w = both (leb 1 w) (ltb n (10 ^ w))

-- a byte that is one of "0" to "9"
unfoldable pub is_digit : ℕ → Bool
is_digit b = both (leb 48 b) (leb b 57)

-- every byte is a digit
abbrev pub all_digits : List ℕ → Bool
all_digits l = every is_digit l

-- the number that digits say behind those that said acc
unfoldable pub value_from : ℕ → List ℕ → ℕ
value_from acc [] = acc
value_from acc (b ∷ l) = value_from (10 * acc + (b - 48)) l

-- the number that a run of digits says, the highest first
unfoldable pub value_of : List ℕ → ℕ
value_of l = value_from 0 l
