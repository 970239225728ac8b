-- How long the lines of an input can be.
use Prim.Native.Nat.{ℕ, zero, suc, ◌+◌, ◌-◌, ◌*◌, ◌≤◌, ◌<◌}
use mathlib.Core.Path.{◌≡◌, refl, ap}
use mathlib.Core.Logic.{⊎_elim}
use mathlib.Core.List.{List, [], ◌∷◌, ◌++◌}
use native.Mathlib.Omega.{arith}
use borrow.Author.Tests.{lt-ltb}
use lib.Dec.{eqb}
use lib.ListN.{length, length-append}
use Rattle.base.proofs.Choice.{pick_true, pick_false, by_test}
use Rattle.base.proofs.Numbers.{lt_or_ge}
use Rattle.digits.specs.Digits.{printed}
use Rattle.digits.proofs.Laws.{printed_short}
use Rattle.distances.specs.declared.Reference.{Reference}
use Rattle.distances.specs.declared.Reference.TheVariants.{Dup, Diff}
use Rattle.splitting.specs.Split.{cut_at}
use Rattle.choices.specs.Choices.{choice_at, choices_from, choices_of}
use Rattle.references.specs.References.{reference_of, leans_on}
use Rattle.splitting.proofs.Runs.{cut_range}
use Rattle.inputs.specs.Inputs.{names_after}
use Rattle.texts.specs.Words.{end_word, dup_word, diff_word, newline}
use Rattle.texts.specs.Texts.{choice_text}
use Rattle.lines.specs.Lines.{tokens_text, reference_text, name_text, line_of, lines_from}
use Rattle.lines.proofs.Laws.{tokens_end}
use Rattle.pages.proofs.Pages.{labelled}
use Rattle.texts.proofs.Bounds.{choice_short, end_short}

-- Tokens: at most thirty bytes for a byte of a token

more : (r s : List ℕ) (f p a b : ℕ) → a < length s
    → tokens_text s (choices_from r s (suc f) p a b) ≡ choice_text s (choice_at r s p a b) ++ tokens_text s (choices_from r s f (p + 1) (cut_at s p a) (cut_at r p b))
unfolding choices_from tokens_text
more r s f p a b h = ap (tokens_text s) (pick_true _ _ (lt-ltb _ _ h))

none : (r s : List ℕ) (p a b : ℕ) → length (tokens_text s (choices_from r s 0 p a b)) ≡ 4
unfolding choices_from tokens_text choice_text end_word
none r s p a b = refl

tokens_short : (r s : List ℕ) (f p a b : ℕ) → a ≤ length s → length (tokens_text s (choices_from r s f p a b)) ≤ 30 * (length s - a) + 4
tokens_short r s zero p a b h = omega (arith, none r s p a b)
tokens_short r s (suc f) p a b h = ⊎_elim
    (λ l.
    let q = cut_range s a l p in
    omega (
      arith,
      ap length (more r s f p a b l),
      length-append (choice_text s (choice_at r s p a b)) (tokens_text s (choices_from r s f (p + 1) (cut_at s p a) (cut_at r p b))),
      choice_short r s p a b l,
      tokens_short r s f (p + 1) (cut_at s p a) (cut_at r p b) q.1,
    ))
    (λ l. omega (arith, ap length (tokens_end r s (suc f) p a b l), end_short s))
    (lt_or_ge a (length s))

-- Names

reference_short : (r s : List ℕ) (x : Reference) → length (reference_text r s x) ≤ 30 * length s + 20
unfolding reference_text choices_of diff_word dup_word
reference_short r s (Dup d) = omega (arith, labelled dup_word d.0)
reference_short r s (Diff d) = omega (
  arith,
  length-append (diff_word ++ printed d.0) (tokens_text s (choices_from r s 127 1 0 0)),
  labelled diff_word d.0,
  tokens_short r s 127 1 0 0 (omega arith),
)

line_short : (n : ℕ) (before s : List ℕ) → length (line_of n before s) ≤ 31 * length s + 31
unfolding line_of name_text newline
line_short n before s = omega (
  arith,
  length-append (printed n) (name_text n before s ++ newline),
  length-append (name_text n before s) newline,
  printed_short n,
  reference_short (leans_on n before) s (reference_of n before s),
)

-- the bytes of names, each with its byte 10
pub weight : List (List ℕ) → ℕ
weight [] = 0
weight (s ∷ ss) = length s + 1 + weight ss

pub lines_short : (n : ℕ) (before : List ℕ) (names : List (List ℕ)) → length (lines_from n before names) ≤ 31 * weight names
unfolding lines_from weight
lines_short n before [] = omega arith
lines_short n before (s ∷ ss) = omega (arith, length-append (line_of n before s) (lines_from (n + 1) s ss), line_short n before s, lines_short (n + 1) s ss)

pub weight_names : (so l : List ℕ) → weight (names_after so l) ≤ length so + length l
unfolding names_after weight
weight_names so [] = omega arith
weight_names so (b ∷ l) = by_test (eqb b 10)
    (λ e. omega (arith, ap weight (pick_true {A = List (List ℕ)} (so ∷ names_after [] l) (names_after (so ++ b ∷ []) l) e), weight_names [] l))
    (λ e. omega (arith, ap weight (pick_false {A = List (List ℕ)} (so ∷ names_after [] l) (names_after (so ++ b ∷ []) l) e), weight_names (so ++ b ∷ []) l, length-append so (b ∷ [])))
