-- What holds of a token by cases: it lies in its name.
use Prim.Native.Nat.{ℕ, ◌+◌, ◌≤◌, ◌<◌}
use mathlib.Core.Path.{◌≡◌, sym, subst}
use mathlib.Core.List.{List}
use native.Mathlib.Omega.{arith}
use borrow.Author.Tests.{eqb-true, eqb-false}
use lib.Dec.{eqb}
use lib.ListN.{length, get_or}
use Rattle.base.proofs.Choice.{by_test, pick_true, pick_false, pick_either}
use Rattle.classes.specs.declared.Class.TheVariants.{Digit}
use Rattle.classes.specs.Classes.{class_of, same_class}
use Rattle.classes.proofs.Laws.{same_true}
use Rattle.tokens.specs.declared.Padded.{Padded}
use Rattle.pieces.specs.declared.Piece.{Piece}
use Rattle.pieces.specs.declared.Piece.TheVariants.{String, Char, Digits, Digits0}
use Rattle.splitting.specs.Split.{run_at, cut_at}
use Rattle.pieces.specs.Pieces.{text_piece, number_piece, piece_at, Within}
use Rattle.splitting.proofs.Runs.{run_number, cut_last, cut_run, cut_range}

-- a token, by its kind
module _ (P : Piece → Type 0) (s : List ℕ) (p at : ℕ) (h : at < length s)
    (string : P (String at (cut_at s p at))) (char : P (Char (get_or s at 0)))
    (digits : (n : ℕ) → P (Digits n)) (digits0 : (x : Padded) → x.width ≤ 9 → P (Digits0 x)) where
  text_case : P (text_piece s at (cut_at s p at))
  unfolding text_piece
  text_case = pick_either P (eqb (cut_at s p at) (at + 1)) _ _ char string

  number_case : class_of (get_or s at 0) ≡ Digit → P (number_piece s at (run_at s at))
  unfolding number_piece
  number_case e = pick_either P (eqb (get_or s at 0) 48) _ _ (digits0 _ (run_number s at h e).0) (digits _)

  pub piece_cases : P (piece_at s p at)
  unfolding piece_at
  piece_cases = by_test (eqb p 127)
      (λ e. subst P (sym (pick_true _ _ e)) (subst (λ (n : ℕ). P (text_piece s at n)) (cut_last s at h p (eqb-true _ _ e)) text_case))
      (λ e. subst P (sym (pick_false _ _ e)) (by_test (same_class (class_of (get_or s at 0)) Digit)
      (λ d. subst P (sym (pick_true _ _ d)) (number_case (same_true _ _ d)))
      (λ d. subst P (sym (pick_false _ _ d)) (subst (λ (n : ℕ). P (text_piece s at n)) (cut_run s at h p (eqb-false _ _ e)) text_case))))

pub piece_within : (s : List ℕ) (p at : ℕ) → at < length s → Within s (piece_at s p at)
piece_within s p at h =
    let r = cut_range s at h p in
    piece_cases (Within s) s p at h (omega arith, r.1) tt (λ n. tt) (λ x k. omega arith)
