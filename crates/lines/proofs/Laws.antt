-- What the texts of a name's tokens, of a name and of the names are, in the forms in which the walks want them.
use Prim.Native.Nat.{ℕ, zero, suc, ◌+◌, ◌-◌, ◌≤◌, ◌<◌}
use mathlib.Core.Path.{◌≡◌, ap, ◌∙◌}
use mathlib.Core.List.{List, [], ◌∷◌, ◌++◌, append-nil}
use native.Mathlib.Omega.{arith}
use borrow.Author.Tests.{lt-ltb, le-ltb}
use lib.ListN.{length}
use Rattle.base.proofs.Choice.{pick_true, pick_false}
use Rattle.digits.specs.Digits.{printed}
use Rattle.spans.specs.declared.Distance.{Distance}
use Rattle.choices.specs.declared.Choice.TheVariants.{End}
use Rattle.distances.specs.declared.Reference.TheVariants.{Dup, Diff}
use Rattle.splitting.specs.Split.{cut_at}
use Rattle.choices.specs.Choices.{choice_at, choices_from, choices_of}
use Rattle.references.specs.References.{reference_of, leans_on}
use Rattle.texts.specs.Words.{dup_word, diff_word}
use Rattle.texts.specs.Texts.{choice_text}
use Rattle.lines.specs.Lines.{tokens_text, reference_text, name_text, line_of, lines_from}

-- The tokens of a name

-- one token more, p being below 128
pub tokens_more : (r s : List ℕ) (p a b : ℕ) → p < 128 → a < length s
    → tokens_text s (choices_from r s (128 - p) p a b) ≡ choice_text s (choice_at r s p a b) ++ tokens_text s (choices_from r s (128 - (p + 1)) (p + 1) (cut_at s p a) (cut_at r p b))
unfolding choices_from tokens_text
tokens_more r s p a b h k =
    ap (λ (f : ℕ). tokens_text s (choices_from r s f p a b)) (let e : 128 - p ≡ suc (128 - (p + 1)) = omega arith in e)
    ∙ ap (tokens_text s) (pick_true _ _ (lt-ltb _ _ k))

-- END
pub tokens_end : (r s : List ℕ) (f p a b : ℕ) → length s ≤ a → tokens_text s (choices_from r s f p a b) ≡ choice_text s End
unfolding choices_from tokens_text
tokens_end r s zero p a b h = append-nil (choice_text s End)
tokens_end r s (suc f) p a b h = ap (tokens_text s) (pick_false _ _ (le-ltb _ _ h)) ∙ append-nil (choice_text s End)

-- DUP or DIFF

pub dup_text : (n : ℕ) (before s : List ℕ) (d : Distance) → reference_of n before s ≡ Dup d → name_text n before s ≡ dup_word ++ printed d.0
unfolding name_text reference_text
dup_text n before s d e = rw e

pub diff_text : (n : ℕ) (before s : List ℕ) (d : Distance) → reference_of n before s ≡ Diff d
    → name_text n before s ≡ (diff_word ++ printed d.0) ++ tokens_text s (choices_of (leans_on n before) s)
unfolding name_text reference_text
diff_text n before s d e = rw e

-- The names

pub lines_none : (n : ℕ) (before : List ℕ) (names : List (List ℕ)) → names ≡ [] → lines_from n before names ≡ []
unfolding lines_from
lines_none n before names e = rw e

pub lines_more : (n : ℕ) (before : List ℕ) (names : List (List ℕ)) (s : List ℕ) (ss : List (List ℕ)) → names ≡ s ∷ ss → lines_from n before names ≡ line_of n before s ++ lines_from (n + 1) s ss
unfolding lines_from
lines_more n before names s ss e = rw e
