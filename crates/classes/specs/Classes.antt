-- The class of each of the 256 byte values, a digit, a letter or another, and beside it whether SAM allows it in a name.
use Rattle.std.specs.Prelude.{ℕ, zero, suc, ◌+◌, List, ◌++◌, Bool, true, false, leb, replicate}
use Rattle.base.specs.Choice.{pick, both, either}
use Rattle.digits.specs.Digits.{is_digit}
use Rattle.base.specs.Every.{every}
use Rattle.classes.specs.declared.Class.{Class}
use Rattle.classes.specs.declared.Class.TheVariants.{Other, Digit, Letter}

-- SAM: bytes from 33 to 63 and 65 to 126
unfoldable pub is_allowed : ℕ → Bool
is_allowed b = either (both (leb 33 b) (leb b 63)) (both (leb 65 b) (leb b 126))

-- every byte is allowed
abbrev pub all_allowed : List ℕ → Bool
all_allowed l = every is_allowed l

-- C-14: the letters A to Z and a to z
unfoldable pub is_letter : ℕ → Bool
is_letter b = either (both (leb 65 b) (leb b 90)) (both (leb 97 b) (leb b 122))

-- C-14: the class of each of the 256 bytes: a digit, a letter, or any other byte
unfoldable pub class_of : ℕ → Class
class_of b = pick (is_digit b) Digit (pick (is_letter b) Letter Other)

-- two classes are one
abbrev pub same_class : Class → Class → Bool
same_class Other Other = true
same_class Digit Digit = true
same_class Letter Letter = true
same_class _ _ = false

-- what is tabled of a class
abbrev pub tabled_as : Class → ℕ
tabled_as Other = 1
tabled_as Digit = 2
tabled_as Letter = 3

-- what is tabled of a byte, its class and whether SAM allows it: what is tabled of the class, or 0 for a byte that is not allowed
unfoldable pub tabled_of : ℕ → ℕ
tabled_of b = pick (is_allowed b) (tabled_as (class_of b)) 0

-- what is tabled of the bytes 0 to 255, in runs
unfoldable pub class_table : List ℕ
class_table =
    replicate 33 0 ++ replicate 15 1 ++ replicate 10 2 ++ replicate 6 1 ++ replicate 1 0
    ++ replicate 26 3 ++ replicate 6 1 ++ replicate 26 3 ++ replicate 4 1 ++ replicate 129 0

-- how many of the bytes below n are of class k
unfoldable pub class_size : Class → ℕ → ℕ
class_size k zero = 0
class_size k (suc n) = pick (same_class (class_of n) k) 1 0 + class_size k n
