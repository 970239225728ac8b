-- The paper's listing, byte for byte, and names with punctuation, computed.
use Prim.Native.Nat.{ℕ}
use mathlib.Core.Path.{◌≡◌, refl}
use mathlib.Core.List.{List, [], ◌∷◌}
use Rattle.base.specs.Choice.{pick}
use Rattle.base.specs.Memory.{part}
use Rattle.comparing.specs.Same.{same}
use Rattle.digits.specs.Digits.{low, padded, count_within, digit_count, printed, is_digit, value_of, value_from}
use Rattle.base.specs.Every.{every}
use Rattle.classes.specs.Classes.{is_allowed, is_letter, class_of}
use Rattle.spans.specs.Spans.{four_bytes}
use Rattle.block.specs.Block.{span_of}
use Rattle.splitting.specs.Split.{run_end, run_limit, run_at, cut_at}
use Rattle.pieces.specs.Pieces.{text_piece, number_piece, piece_at}
use Rattle.rises.specs.Rises.{rise_of}
use Rattle.choices.specs.Choices.{lean_string, lean_char, by_rise, lean_digits, by_rise0, lean_digits0, lean, choice_at, choices_from, choices_of}
use Rattle.references.specs.References.{anew, reference_of, leans_on}
use Rattle.laying.specs.Puts.{share, content_of, joined, start_in, total_of}
use Rattle.inputs.specs.Inputs.{names_after, names_of, ended, good_name, judged_from}
use Rattle.numbering.specs.Types.{numbers_of, type_number}
use Rattle.tokenputs.specs.TokenPuts.{piece_type, choice_type, choice_puts, token_puts}
use Rattle.valueputs.specs.ValuePuts.{piece_puts, value_puts}
use Rattle.nameputs.specs.NamePuts.{head_puts, reference_puts, name_puts, puts_from, puts_of}
use Rattle.writing.specs.Writes.{countable}
use Rattle.texts.specs.Words.{refused_word, at_word, string_word, char_word, digits_word, digits0_word, delta_word, delta0_word, match_word, end_word, dup_word, diff_word, names_word, bytes_word, slash, newline}
use Rattle.texts.specs.Texts.{string_text, char_text, padded_text, piece_text, choice_text}
use Rattle.lines.specs.Lines.{tokens_text, reference_text, name_text, line_of, lines_from, lines_of}
use Rattle.closing.specs.Closing.{refusal_text, totals_text}
use Rattle.listed.specs.Listing.{answer_text, judged_answer, answer_of, listing_of, listed_of}

-- `run7:0098`, `run7:0099`, `run7:0100`, `run7:0100`
abbrev run : List ℕ
run =
    114 ∷ 117 ∷ 110 ∷ 55 ∷ 58 ∷ 48 ∷ 48 ∷ 57 ∷ 56 ∷ 10
    ∷ 114 ∷ 117 ∷ 110 ∷ 55 ∷ 58 ∷ 48 ∷ 48 ∷ 57 ∷ 57 ∷ 10
    ∷ 114 ∷ 117 ∷ 110 ∷ 55 ∷ 58 ∷ 48 ∷ 49 ∷ 48 ∷ 48 ∷ 10
    ∷ 114 ∷ 117 ∷ 110 ∷ 55 ∷ 58 ∷ 48 ∷ 49 ∷ 48 ∷ 48 ∷ 10
    ∷ []

abbrev shown : List ℕ
shown =
    48 ∷ 32 ∷ 68 ∷ 73 ∷ 70 ∷ 70 ∷ 32 ∷ 48 ∷ 32 ∷ 83 ∷ 84 ∷ 82 ∷ 73 ∷ 78 ∷ 71 ∷ 32 ∷ 114 ∷ 117 ∷ 110 ∷ 32 ∷ 68 ∷ 73 ∷ 71 ∷ 73 ∷ 84 ∷ 83 ∷ 32 ∷ 55 ∷ 32 ∷ 67 ∷ 72 ∷ 65 ∷ 82 ∷ 32 ∷ 58 ∷ 32 ∷ 68 ∷ 73 ∷ 71 ∷ 73 ∷ 84 ∷ 83 ∷ 48 ∷ 32 ∷ 57 ∷ 56 ∷ 47 ∷ 52 ∷ 32 ∷ 69 ∷ 78 ∷ 68 ∷ 10
    ∷ 49 ∷ 32 ∷ 68 ∷ 73 ∷ 70 ∷ 70 ∷ 32 ∷ 49 ∷ 32 ∷ 77 ∷ 65 ∷ 84 ∷ 67 ∷ 72 ∷ 32 ∷ 77 ∷ 65 ∷ 84 ∷ 67 ∷ 72 ∷ 32 ∷ 77 ∷ 65 ∷ 84 ∷ 67 ∷ 72 ∷ 32 ∷ 68 ∷ 68 ∷ 69 ∷ 76 ∷ 84 ∷ 65 ∷ 48 ∷ 32 ∷ 49 ∷ 32 ∷ 69 ∷ 78 ∷ 68 ∷ 10
    ∷ 50 ∷ 32 ∷ 68 ∷ 73 ∷ 70 ∷ 70 ∷ 32 ∷ 49 ∷ 32 ∷ 77 ∷ 65 ∷ 84 ∷ 67 ∷ 72 ∷ 32 ∷ 77 ∷ 65 ∷ 84 ∷ 67 ∷ 72 ∷ 32 ∷ 77 ∷ 65 ∷ 84 ∷ 67 ∷ 72 ∷ 32 ∷ 68 ∷ 68 ∷ 69 ∷ 76 ∷ 84 ∷ 65 ∷ 48 ∷ 32 ∷ 49 ∷ 32 ∷ 69 ∷ 78 ∷ 68 ∷ 10
    ∷ 51 ∷ 32 ∷ 68 ∷ 85 ∷ 80 ∷ 32 ∷ 49 ∷ 10
    ∷ 52 ∷ 32 ∷ 110 ∷ 97 ∷ 109 ∷ 101 ∷ 115 ∷ 32 ∷ 53 ∷ 49 ∷ 32 ∷ 98 ∷ 121 ∷ 116 ∷ 101 ∷ 115 ∷ 10
    ∷ []

abbrev signed : List ℕ
signed =
    48 ∷ 32 ∷ 68 ∷ 73 ∷ 70 ∷ 70 ∷ 32 ∷ 48 ∷ 32 ∷ 67 ∷ 72 ∷ 65 ∷ 82 ∷ 32 ∷ 65 ∷ 32 ∷ 67 ∷ 72 ∷ 65 ∷ 82 ∷ 32 ∷ 95 ∷ 32 ∷ 67 ∷ 72 ∷ 65 ∷ 82 ∷ 32 ∷ 66 ∷ 32 ∷ 69 ∷ 78 ∷ 68 ∷ 10
    ∷ 49 ∷ 32 ∷ 110 ∷ 97 ∷ 109 ∷ 101 ∷ 115 ∷ 32 ∷ 49 ∷ 50 ∷ 32 ∷ 98 ∷ 121 ∷ 116 ∷ 101 ∷ 115 ∷ 10 ∷ []

-- the paper's listing; no byte, "0 names 0 bytes"; `A`, then a name with a space, "refused 8 at 1"; `A` without its byte 10, "refused 12"; `A_B` (C-14)
pub worked : listed_of run ∷ listed_of [] ∷ listed_of (65 ∷ 10 ∷ 32 ∷ 10 ∷ []) ∷ listed_of (65 ∷ []) ∷ listed_of (65 ∷ 95 ∷ 66 ∷ 10 ∷ []) ∷ []
    ≡ shown
    ∷ (48 ∷ 32 ∷ 110 ∷ 97 ∷ 109 ∷ 101 ∷ 115 ∷ 32 ∷ 48 ∷ 32 ∷ 98 ∷ 121 ∷ 116 ∷ 101 ∷ 115 ∷ 10 ∷ [])
    ∷ (114 ∷ 101 ∷ 102 ∷ 117 ∷ 115 ∷ 101 ∷ 100 ∷ 32 ∷ 56 ∷ 32 ∷ 97 ∷ 116 ∷ 32 ∷ 49 ∷ 10 ∷ [])
    ∷ (114 ∷ 101 ∷ 102 ∷ 117 ∷ 115 ∷ 101 ∷ 100 ∷ 32 ∷ 49 ∷ 50 ∷ 10 ∷ [])
    ∷ signed
    ∷ []
unfolding pick part low padded count_within digit_count printed is_digit every is_allowed value_of value_from four_bytes span_of class_of is_letter run_end run_limit run_at cut_at text_piece number_piece piece_at same rise_of lean_string lean_char by_rise lean_digits by_rise0 lean_digits0 lean choice_at choices_from choices_of anew reference_of leans_on share content_of joined start_in total_of names_after names_of ended good_name judged_from numbers_of type_number piece_type choice_type piece_puts value_puts choice_puts token_puts head_puts reference_puts name_puts puts_from puts_of countable refused_word at_word string_word char_word digits_word digits0_word delta_word delta0_word match_word end_word dup_word diff_word names_word bytes_word slash newline string_text char_text padded_text piece_text choice_text tokens_text reference_text name_text line_of lines_from lines_of refusal_text totals_text answer_text judged_answer answer_of listing_of listed_of
worked = refl
