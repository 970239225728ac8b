-- Each token of a name is what the papers' words make it.
use Prim.Native.Nat.{ℕ, ◌+◌, ◌<◌}
use mathlib.Core.Path.{◌≡◌, refl, sym, ap, ◌∙◌}
use mathlib.Core.Bool.{true, false}
use mathlib.Core.Logic.{◌⊎◌, ⊎_elim}
use mathlib.Core.List.{List}
use borrow.Author.Tests.{eq-eqb, ne_eqb, eqb-true, eqb-false}
use lib.Dec.{eqb}
use lib.ListN.{length, get_or}
use Rattle.base.specs.Choice.{pick}
use Rattle.base.proofs.Choice.{by_test, pick_true, pick_false, never}
use Rattle.digits.specs.Digits.{is_digit}
use Rattle.classes.specs.declared.Class.TheVariants.{Digit}
use Rattle.classes.specs.Classes.{class_of}
use Rattle.classes.proofs.Laws.{class_digit, digit_class_law, same_of, same_not}
use Rattle.splitting.specs.Split.{cut_at}
use Rattle.splitting.proofs.Runs.{cut_last, cut_run}
use Rattle.splitting.proofs.Rule.{rule}
use Rattle.pieces.specs.declared.Piece.TheVariants.{Char}
use Rattle.pieces.specs.Pieces.{text_piece, number_piece, piece_at}
use Rattle.pieces.specs.Becomes.{Becomes, EachBecomes}

zero_digit : is_digit 48 ≡ true
unfolding is_digit pick
zero_digit = refl

module _ (s : List ℕ) (p at : ℕ) (h : at < length s) where
  a_number : (p ≡ 127 → ⊥) → is_digit (get_or s at 0) ≡ true → piece_at s p at ≡ number_piece s at (cut_at s p at)
  unfolding piece_at
  a_number f d =
      pick_false _ _ (ne_eqb _ _ f) ∙ pick_true _ _ (same_of _ _ (class_digit _ d))
      ∙ ap (number_piece s at) (sym (cut_run s at h p f))

  at_last : p ≡ 127 → piece_at s p at ≡ text_piece s at (cut_at s p at)
  unfolding piece_at
  at_last e = pick_true _ _ (eq-eqb _ _ e) ∙ ap (text_piece s at) (sym (cut_last s at h p e))

  no_digit_law : is_digit (get_or s at 0) ≡ false → (p ≡ 127 → ⊥) → piece_at s p at ≡ text_piece s at (cut_at s p at)
  unfolding piece_at
  no_digit_law d f =
      let k : class_of (get_or s at 0) ≡ Digit → ⊥ = λ e. never (sym d ∙ digit_class_law _ e) in
      pick_false _ _ (ne_eqb _ _ f) ∙ pick_false _ _ (same_not _ _ k) ∙ ap (text_piece s at) (sym (cut_run s at h p f))

  a_text : (p ≡ 127) ⊎ (is_digit (get_or s at 0) ≡ false) → piece_at s p at ≡ text_piece s at (cut_at s p at)
  a_text = ⊎_elim at_last (λ d. by_test (eqb p 127) (λ e. at_last (eqb-true _ _ e)) (λ e. no_digit_law d (eqb-false _ _ e)))

  one_byte : cut_at s p at ≡ at + 1 → text_piece s at (cut_at s p at) ≡ Char (get_or s at 0)
  unfolding text_piece
  one_byte q = pick_true _ _ (eq-eqb _ _ q)

  one : Becomes s p at
  unfolding number_piece text_piece
  one = record {
    digits0 = λ f z. a_number f (ap is_digit z ∙ zero_digit) ∙ pick_true _ _ (eq-eqb _ _ z);
    digits = λ f d n. a_number f d ∙ pick_false _ _ (ne_eqb _ _ n);
    char = λ t q. a_text t ∙ one_byte q;
    string = λ t n. a_text t ∙ pick_false _ _ (ne_eqb _ _ n);
    alone = λ d l f. no_digit_law d f ∙ one_byte ((rule.split s p at h f).alone d l);
  }

pub each_becomes : EachBecomes
each_becomes s p at h = one s p at h
