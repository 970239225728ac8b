-- How long the line that closes a listing can be.
use Prim.Native.Nat.{ℕ, ◌≤◌}
use mathlib.Core.List.{◌++◌}
use native.Mathlib.Omega.{arith}
use lib.ListN.{length, length-append}
use Rattle.digits.specs.Digits.{printed}
use Rattle.digits.proofs.Laws.{printed_short}
use Rattle.refusals.specs.Refusals.{number_of}
use Rattle.refusals.specs.declared.Refusal.{Refusal}
use Rattle.refusals.specs.declared.Refusal.TheVariants.{Plain, At}
use Rattle.texts.specs.Words.{newline, refused_word, at_word, names_word, bytes_word}
use Rattle.closing.specs.Closing.{refusal_text, totals_text}
use Rattle.pages.proofs.Pages.{labelled}

pub refusal_short : (r : Refusal) → length (refusal_text r) ≤ 100
unfolding refusal_text refused_word at_word newline
refusal_short (Plain r) = omega (arith, length-append (refused_word ++ printed (number_of r)) newline, labelled refused_word (number_of r))
refusal_short (At r k) = omega (
  arith,
  length-append (refused_word ++ printed (number_of r)) ((at_word ++ printed k) ++ newline),
  length-append (at_word ++ printed k) newline,
  labelled refused_word (number_of r),
  labelled at_word k,
)

pub totals_short : (n b : ℕ) → length (totals_text n b) ≤ 100
unfolding totals_text names_word bytes_word
totals_short n b = omega (
  arith,
  length-append (printed n) ((names_word ++ printed b) ++ bytes_word),
  length-append (names_word ++ printed b) bytes_word,
  printed_short n,
  labelled names_word b,
)
