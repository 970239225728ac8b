-- The writing rule on names beside the paper's list of cases, computed.
use Prim.Native.Nat.{ℕ}
use mathlib.Core.Path.{◌≡◌, refl}
use mathlib.Core.List.{List, [], ◌∷◌, ◌++◌}
use lib.ListN.{replicate}
use Rattle.base.specs.Choice.{pick}
use Rattle.base.specs.Memory.{part}
use Rattle.comparing.specs.Same.{same}
use Rattle.digits.specs.Digits.{is_digit, value_of, value_from}
use Rattle.classes.specs.Classes.{is_letter, class_of}
use Rattle.pieces.specs.declared.Piece.TheVariants.{String, Char, Digits, Digits0}
use Rattle.choices.specs.declared.Choice.{Choice}
use Rattle.choices.specs.declared.Choice.TheVariants.{Itself, Delta, Delta0, Match, End}
use Rattle.splitting.specs.Split.{run_end, run_limit, run_at, cut_at}
use Rattle.pieces.specs.Pieces.{text_piece, number_piece, piece_at}
use Rattle.rises.specs.Rises.{rise_of}
use Rattle.choices.specs.Choices.{lean_string, lean_char, by_rise, lean_digits, by_rise0, lean_digits0, lean, choice_at, choices_from, choices_of}

-- `run7:0098` and `run7:0099`
abbrev one : List ℕ
one = 114 ∷ 117 ∷ 110 ∷ 55 ∷ 58 ∷ 48 ∷ 48 ∷ 57 ∷ 56 ∷ []

abbrev more : List ℕ
more = 114 ∷ 117 ∷ 110 ∷ 55 ∷ 58 ∷ 48 ∷ 48 ∷ 57 ∷ 57 ∷ []

-- the first two names of the paper's listing; then `100` after `099`, and `007` after `07`: of another width neither is MATCH or a delta
pub worked : choices_of [] one ∷ choices_of one more ∷ choices_of (48 ∷ 57 ∷ 57 ∷ []) (49 ∷ 48 ∷ 48 ∷ []) ∷ choices_of (48 ∷ 55 ∷ []) (48 ∷ 48 ∷ 55 ∷ [])
    -- C-14: `A_B`, `aZAz`, `ab_c12Zz`, ``A[a`z{Z?``, `/0:9!~`, and `ab_d:2` after `ab_c:1`
    ∷ choices_of [] (65 ∷ 95 ∷ 66 ∷ [])
    ∷ choices_of [] (97 ∷ 90 ∷ 65 ∷ 122 ∷ [])
    ∷ choices_of [] (97 ∷ 98 ∷ 95 ∷ 99 ∷ 49 ∷ 50 ∷ 90 ∷ 122 ∷ [])
    ∷ choices_of [] (65 ∷ 91 ∷ 97 ∷ 96 ∷ 122 ∷ 123 ∷ 90 ∷ 63 ∷ [])
    ∷ choices_of [] (47 ∷ 48 ∷ 58 ∷ 57 ∷ 33 ∷ 126 ∷ [])
    ∷ choices_of (97 ∷ 98 ∷ 95 ∷ 99 ∷ 58 ∷ 49 ∷ []) (97 ∷ 98 ∷ 95 ∷ 100 ∷ 58 ∷ 50 ∷ [])
    ∷ []
    ≡ (Itself (String 0 3) ∷ Itself (Digits 7) ∷ Itself (Char 58) ∷ Itself (Digits0 (record { number = 98; width = 4 })) ∷ End ∷ [])
    ∷ (Match ∷ Match ∷ Match ∷ Delta0 1 ∷ End ∷ [])
    ∷ (Itself (Digits 100) ∷ End ∷ [])
    ∷ (Itself (Digits0 (record { number = 7; width = 3 })) ∷ End ∷ [])
    ∷ (Itself (Char 65) ∷ Itself (Char 95) ∷ Itself (Char 66) ∷ End ∷ [])
    ∷ (Itself (String 0 4) ∷ End ∷ [])
    ∷ (Itself (String 0 2) ∷ Itself (Char 95) ∷ Itself (Char 99) ∷ Itself (Digits 12) ∷ Itself (String 6 8) ∷ End ∷ [])
    ∷ (Itself (Char 65) ∷ Itself (Char 91) ∷ Itself (Char 97) ∷ Itself (Char 96) ∷ Itself (Char 122) ∷ Itself (Char 123) ∷ Itself (Char 90) ∷ Itself (Char 63) ∷ End ∷ [])
    ∷ (Itself (Char 47) ∷ Itself (Digits0 (record { number = 0; width = 1 })) ∷ Itself (Char 58) ∷ Itself (Digits 9) ∷ Itself (Char 33) ∷ Itself (Char 126) ∷ End ∷ [])
    ∷ (Match ∷ Match ∷ Itself (Char 100) ∷ Match ∷ Delta 1 ∷ End ∷ [])
    ∷ []
unfolding pick part is_digit value_of value_from class_of is_letter run_end run_limit run_at cut_at text_piece number_piece piece_at same rise_of lean_string lean_char by_rise lean_digits by_rise0 lean_digits0 lean choice_at choices_from choices_of
worked = refl

-- C-14: so many tokens, all of them `_`, and behind them the rest
abbrev signs : ℕ → List Choice → List Choice
signs n rest = replicate n (Itself (Char 95)) ++ rest ++ End ∷ []

-- C-14: 126, 127 and 254 times `_`, and 126 of them before `a_1` and before `7`: what remains at position 127, of whatever classes, is one token
pub rests :
    choices_of [] (replicate 126 95) ∷ choices_of [] (replicate 127 95) ∷ choices_of [] (replicate 254 95)
    ∷ choices_of [] (replicate 126 95 ++ 97 ∷ 95 ∷ 49 ∷ []) ∷ choices_of [] (replicate 126 95 ++ 55 ∷ []) ∷ []
    ≡ signs 126 [] ∷ signs 127 [] ∷ signs 126 (Itself (String 126 254) ∷ [])
    ∷ signs 126 (Itself (String 126 129) ∷ []) ∷ signs 126 (Itself (Char 55) ∷ []) ∷ []
unfolding pick part is_digit value_of value_from class_of is_letter run_end run_limit run_at cut_at text_piece number_piece piece_at same rise_of lean_string lean_char by_rise lean_digits by_rise0 lean_digits0 lean choice_at choices_from choices_of
rests = refl

-- at position 127 a single digit is a CHAR
pub last_char : piece_at (replicate 130 55) 127 129 ≡ Char 55
unfolding pick part is_digit value_of value_from class_of is_letter run_end run_limit run_at cut_at text_piece number_piece piece_at
last_char = refl
