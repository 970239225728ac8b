-- How long a token's text can be: at most thirty bytes for a byte of the token.
use Prim.Native.Nat.{ℕ, ◌-◌, ◌*◌, ◌≤◌, ◌<◌}
use mathlib.Core.Path.{◌≡◌, refl}
use mathlib.Core.List.{List, ◌++◌}
use native.Mathlib.Omega.{arith}
use lib.ListN.{length, length-append}
use Rattle.base.specs.Memory.{part}
use Rattle.base.proofs.Memory.{length_part}
use Rattle.digits.specs.Digits.{printed}
use Rattle.tokens.specs.declared.Padded.{Padded}
use Rattle.choices.specs.declared.Choice.{Choice}
use Rattle.choices.specs.declared.Choice.TheVariants.{Itself, End}
use Rattle.splitting.specs.Split.{cut_at}
use Rattle.choices.specs.Choices.{choice_at}
use Rattle.splitting.proofs.Runs.{cut_range}
use Rattle.pieces.proofs.Pieces.{piece_cases}
use Rattle.choices.proofs.Choices.{choice_cases}
use Rattle.texts.specs.Words.{string_word, char_word, digits_word, digits0_word, slash, delta_word, delta0_word, match_word, end_word}
use Rattle.texts.specs.Texts.{string_text, char_text, padded_text, piece_text, choice_text}
use Rattle.pages.proofs.Pages.{labelled}

padded_short : (x : Padded) → length (padded_text x) ≤ 30
unfolding padded_text digits0_word slash
padded_short x = omega (arith, length-append (digits0_word ++ printed x.number) (slash ++ printed x.width), labelled digits0_word x.number, labelled slash x.width)

string_short : (s : List ℕ) (a e : ℕ) → a < e → e ≤ length s → length (string_text s a e) ≤ 30 * (e - a)
unfolding string_text string_word
string_short s a e h k = omega (arith, length-append string_word (part s a e), length_part s a e (omega arith) k)

pub choice_short : (r s : List ℕ) (p a b : ℕ) → a < length s → length (choice_text s (choice_at r s p a b)) ≤ 30 * (cut_at s p a - a)
unfolding choice_text piece_text char_text char_word digits_word delta_word delta0_word match_word
choice_short r s p a b h =
    let q = cut_range s a h p in
    let P : Choice → Type 0 = λ c. length (choice_text s c) ≤ 30 * (cut_at s p a - a) in
    choice_cases P (omega arith) (λ d. omega (arith, labelled delta_word d)) (λ d. omega (arith, labelled delta0_word d)) r s p a b
    (piece_cases (λ t. P (Itself t)) s p a h (string_short s a (cut_at s p a) q.0 q.1) (omega arith) (λ m. omega (arith, labelled digits_word m)) (λ x k. omega (arith, padded_short x)))

pub end_short : (s : List ℕ) → length (choice_text s End) ≡ 4
unfolding choice_text end_word
end_short s = refl
