-- What the writer answers, computed.
use Prim.Native.Nat.{ℕ}
use Rattle.std.specs.Prelude.{Ok, Err}
use Rattle.refusals.specs.declared.Reason.TheVariants as reason
use mathlib.Core.Path.{◌≡◌, refl}
use mathlib.Core.List.{List, [], ◌∷◌}
use lib.ListN.{replicate}
use Rattle.base.specs.Choice.{pick}
use Rattle.base.specs.Memory.{part, written}
use Rattle.comparing.specs.Same.{same}
use Rattle.digits.specs.Digits.{is_digit, value_of, value_from}
use Rattle.base.specs.Every.{every}
use Rattle.classes.specs.Classes.{is_allowed, is_letter, class_of}
use Rattle.spans.specs.Spans.{four_bytes}
use Rattle.block.specs.Block.{span_of}
use Rattle.splitting.specs.Split.{run_end, run_limit, run_at, cut_at}
use Rattle.pieces.specs.Pieces.{text_piece, number_piece, piece_at}
use Rattle.rises.specs.Rises.{rise_of}
use Rattle.choices.specs.Choices.{lean_string, lean_char, by_rise, lean_digits, by_rise0, lean_digits0, lean, choice_at, choices_from, choices_of}
use Rattle.references.specs.References.{anew, reference_of, leans_on}
use Rattle.laying.specs.Puts.{share, content_of, joined, start_in, total_of, bytes_of}
use Rattle.refusals.specs.declared.Refusal.TheVariants.{Plain, At}
use Rattle.inputs.specs.Inputs.{names_after, names_of, ended, good_name, judged_from}
use Rattle.numbering.specs.Types.{draft_plain, numbers_of, type_number, rules_of}
use Rattle.tokenputs.specs.TokenPuts.{piece_type, choice_type, choice_puts, token_puts}
use Rattle.valueputs.specs.ValuePuts.{piece_puts, value_puts}
use Rattle.nameputs.specs.NamePuts.{head_puts, reference_puts, name_puts, puts_from, puts_of}
use Rattle.writing.specs.Writes.{WriteAnswer, countable, laid_of, judged_of, write_of}

-- `run7:0098`, `run7:0099`, `run7:0100`, `run7:0100`
abbrev run : List ℕ
run =
    114 ∷ 117 ∷ 110 ∷ 55 ∷ 58 ∷ 48 ∷ 48 ∷ 57 ∷ 56 ∷ 10
    ∷ 114 ∷ 117 ∷ 110 ∷ 55 ∷ 58 ∷ 48 ∷ 48 ∷ 57 ∷ 57 ∷ 10
    ∷ 114 ∷ 117 ∷ 110 ∷ 55 ∷ 58 ∷ 48 ∷ 49 ∷ 48 ∷ 48 ∷ 10
    ∷ 114 ∷ 117 ∷ 110 ∷ 55 ∷ 58 ∷ 48 ∷ 49 ∷ 48 ∷ 48 ∷ 10
    ∷ []

abbrev answered : List ℕ → ℕ → WriteAnswer
answered input room = (write_of (rules_of draft_plain) input (replicate 2580 7) (replicate room 9)).answer

-- C-14: `A_B`
abbrev sign : List ℕ
sign = 65 ∷ 95 ∷ 66 ∷ 10 ∷ []

-- four names of 51 bytes, with room and without; a last name without byte 10, though an earlier one is empty; `A`, then a name with a space; `A_B` with room and without
pub worked : answered run 51 ∷ answered run 50 ∷ answered (10 ∷ 65 ∷ []) 0 ∷ answered (65 ∷ 10 ∷ 32 ∷ 10 ∷ []) 0 ∷ answered sign 12 ∷ answered sign 11 ∷ []
    ≡ Ok (record { names = 4; bytes = 51 }) ∷ Err (Plain reason.NoRoom) ∷ Err (Plain reason.BadCount) ∷ Err (At reason.BadName 1) ∷ Ok (record { names = 1; bytes = 12 }) ∷ Err (Plain reason.NoRoom) ∷ []
unfolding pick part written is_digit every is_allowed value_of value_from four_bytes span_of class_of is_letter run_end run_limit run_at cut_at text_piece number_piece piece_at same rise_of lean_string lean_char by_rise lean_digits by_rise0 lean_digits0 lean choice_at choices_from choices_of anew reference_of leans_on share content_of joined start_in total_of names_after names_of ended good_name judged_from numbers_of type_number piece_type choice_type piece_puts value_puts choice_puts token_puts head_puts reference_puts name_puts puts_from puts_of countable laid_of judged_of write_of
worked = refl

-- `A_B` is CHAR A, CHAR _, CHAR B; what lies behind them stays
pub punctuation : (write_of (rules_of draft_plain) sign (replicate 2580 7) (replicate 13 9)).bytes ≡ 6 ∷ 0 ∷ 0 ∷ 0 ∷ 0 ∷ 2 ∷ 65 ∷ 2 ∷ 95 ∷ 2 ∷ 66 ∷ 14 ∷ 9 ∷ []
unfolding pick part written is_digit every is_allowed value_of value_from four_bytes span_of class_of is_letter run_end run_limit run_at cut_at text_piece number_piece piece_at same rise_of lean_string lean_char by_rise lean_digits by_rise0 lean_digits0 lean choice_at choices_from choices_of anew reference_of leans_on share content_of joined start_in total_of bytes_of names_after names_of ended good_name judged_from numbers_of type_number piece_type choice_type piece_puts value_puts choice_puts token_puts head_puts reference_puts name_puts puts_from puts_of countable laid_of judged_of write_of
punctuation = refl
