-- What holds of a choice by cases: other than a delta, MATCH or END it is the token itself.
use Prim.Native.Nat.{ℕ, ◌<◌}
use mathlib.Core.List.{List}
use lib.Dec.{eqb, ltb}
use lib.ListN.{length}
use Rattle.base.specs.Memory.{part}
use Rattle.comparing.specs.Same.{same}
use Rattle.base.proofs.Choice.{pick_either}
use Rattle.tokens.specs.declared.Padded.{Padded}
use Rattle.pieces.specs.declared.Piece.{Piece}
use Rattle.pieces.specs.declared.Piece.TheVariants.{String, Char, Digits, Digits0}
use Rattle.rises.specs.declared.Rise.{Rise}
use Rattle.choices.specs.declared.Choice.{Choice}
use Rattle.choices.specs.declared.Choice.TheVariants.{Itself, Delta, Delta0, Match}
use Rattle.pieces.specs.Pieces.{piece_at}
use Rattle.choices.specs.Choices.{ChoiceWithin, lean_string, lean_char, by_rise, lean_digits, by_rise0, lean_digits0, lean, choice_at}
use Rattle.rises.specs.Rises.{rise_of}
use Rattle.rises.specs.declared.Rise.TheVariants as rise
use Rattle.pieces.proofs.Pieces.{piece_within}

-- a choice, by whether it is the token itself
module _ (P : Choice → Type 0) (match : P Match) (delta : (d : ℕ) → P (Delta d)) (delta0 : (d : ℕ) → P (Delta0 d)) where
  rise_case : (n : ℕ) (r : Rise) → P (Itself (Digits n)) → P (by_rise n r)
  unfolding by_rise
  rise_case n rise.Same q = match
  rise_case n (rise.Up d) q = delta d
  rise_case n rise.Other q = q

  rise0_case : (x : Padded) (r : Rise) → P (Itself (Digits0 x)) → P (by_rise0 x r)
  unfolding by_rise0
  rise0_case x rise.Same q = match
  rise0_case x (rise.Up d) q = delta0 d
  rise0_case x rise.Other q = q

  pub lean_cases : (s : List ℕ) (t : Piece) (r : List ℕ) (u : Piece) → P (Itself t) → P (lean s t r u)
  unfolding lean lean_string lean_char lean_digits lean_digits0
  lean_cases s (String a e) r (String b f) q = pick_either P (same (part s a e) (part r b f)) Match (Itself (String a e)) match q
  lean_cases s (String a e) r (Char b) q = q
  lean_cases s (String a e) r (Digits m) q = q
  lean_cases s (String a e) r (Digits0 y) q = q
  lean_cases s (Char a) r (String b f) q = q
  lean_cases s (Char a) r (Char b) q = pick_either P (eqb a b) Match (Itself (Char a)) match q
  lean_cases s (Char a) r (Digits m) q = q
  lean_cases s (Char a) r (Digits0 y) q = q
  lean_cases s (Digits n) r (String b f) q = q
  lean_cases s (Digits n) r (Char b) q = q
  lean_cases s (Digits n) r (Digits m) q = rise_case n (rise_of m n) q
  lean_cases s (Digits n) r (Digits0 y) q = q
  lean_cases s (Digits0 x) r (String b f) q = q
  lean_cases s (Digits0 x) r (Char b) q = q
  lean_cases s (Digits0 x) r (Digits m) q = q
  lean_cases s (Digits0 x) r (Digits0 y) q =
      pick_either P (eqb x.width y.width) (by_rise0 x (rise_of y.number x.number)) (Itself (Digits0 x)) (rise0_case x (rise_of y.number x.number) q) q

  pub choice_cases : (r s : List ℕ) (p a b : ℕ) → P (Itself (piece_at s p a)) → P (choice_at r s p a b)
  unfolding choice_at
  choice_cases r s p a b q = pick_either P (ltb b (length r)) _ _ (lean_cases s (piece_at s p a) r (piece_at r p b) q) q

pub choice_within : (r s : List ℕ) (p a b : ℕ) → a < length s → ChoiceWithin s (choice_at r s p a b)
choice_within r s p a b h = choice_cases (ChoiceWithin s) tt (λ d. tt) (λ d. tt) r s p a b (piece_within s p a h)
