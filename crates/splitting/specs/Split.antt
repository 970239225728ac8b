-- The writing rule, "Split from the left": where the token that begins at a place of a name ends. Position p is 1 to 127.
use Rattle.std.specs.Prelude.{ℕ, zero, suc, ◌+◌, ◌-◌, List, ltb, eqb, length, get_or}
use Rattle.base.specs.Choice.{pick}
use Rattle.base.specs.Memory.{part}
use Rattle.digits.specs.Digits.{value_of}
use Rattle.classes.specs.declared.Class.{Class}
use Rattle.classes.specs.declared.Class.TheVariants.{Digit, Letter}
use Rattle.classes.specs.Classes.{class_of, same_class}
use Rattle.splitting.specs.declared.Cut.{Cut}

-- where a run of class k ends: from i on, n bytes at most
unfoldable pub run_end : List ℕ → Class → ℕ → ℕ → ℕ
run_end s k i zero = i
run_end s k i (suc n) = pick (same_class (class_of (get_or s i 0)) k) (run_end s k (i + 1) n) i

-- how far a run may go: digits are cut after 9, letters make a longest run (C-14), and every other byte stands alone
unfoldable pub run_limit : List ℕ → ℕ → ℕ
run_limit s at =
    pick (same_class (class_of (get_or s at 0)) Digit) (pick (ltb (at + 9) (length s)) (at + 9) (length s))
    (pick (same_class (class_of (get_or s at 0)) Letter) (length s) (at + 1))

-- a run from a place on
unfoldable pub run_at : List ℕ → ℕ → ℕ
run_at s at = run_end s (class_of (get_or s at 0)) at (run_limit s at - at)

-- where the token ends. If bytes remain at position 127, all of them are one token; past the end there is none
unfoldable pub cut_at : List ℕ → ℕ → ℕ → ℕ
cut_at s p at = pick (ltb at (length s)) (pick (eqb p 127) (length s) (run_at s at)) at

-- a run of digits from a place on, n bytes at most: where it ends, and the number that it says
unfoldable pub number_run : List ℕ → ℕ → ℕ → Cut
number_run s at n = record { end = run_end s Digit at n; number = value_of (part s at (run_end s Digit at n)) }

-- where the token ends, and the number that it says if it is one
unfoldable pub cut_of : List ℕ → ℕ → ℕ → Cut
cut_of s p at =
    pick (ltb at (length s))
    (pick (eqb p 127) (record { end = length s; number = 0 })
    (pick (same_class (class_of (get_or s at 0)) Digit) (number_run s at (run_limit s at - at)) (record { end = run_at s at; number = 0 })))
    (record { end = at; number = 0 })
