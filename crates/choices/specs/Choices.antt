-- The writing rule, "A token equal in kind and values to the earlier row is MATCH": what is written for each token of a name s,
-- r being the earlier name, whose rows are its own split; r is empty where there is none.
use Rattle.std.specs.Prelude.{ℕ, zero, suc, ◌+◌, List, [], ◌∷◌, ltb, eqb, length}
use Rattle.base.specs.Choice.{pick}
use Rattle.base.specs.Memory.{part}
use Rattle.comparing.specs.Same.{same}
use Rattle.tokens.specs.declared.Padded.{Padded}
use Rattle.pieces.specs.declared.Piece.{Piece}
use Rattle.pieces.specs.declared.Piece.TheVariants.{String, Char, Digits, Digits0}
use Rattle.rises.specs.declared.Rise.{Rise}
use Rattle.choices.specs.declared.Choice.{Choice}
use Rattle.choices.specs.declared.Choice.TheVariants.{Itself, Delta, Delta0, Match, End}
use Rattle.splitting.specs.Split.{cut_at}
use Rattle.pieces.specs.Pieces.{piece_at, Within}
use Rattle.rises.specs.declared.Rise.TheVariants as rise
use Rattle.rises.specs.Rises.{rise_of}

-- a choice of a token that is within its name
abbrev pub ChoiceWithin : List ℕ → Choice → Type 0
ChoiceWithin s (Itself t) = Within s t
ChoiceWithin s (Delta d) = Unit
ChoiceWithin s (Delta0 d) = Unit
ChoiceWithin s Match = Unit
ChoiceWithin s End = Unit

-- a STRING after the earlier row
unfoldable pub lean_string : List ℕ → ℕ → ℕ → List ℕ → Piece → Choice
lean_string s a e r (String b f) = pick (same (part s a e) (part r b f)) Match (Itself (String a e))
lean_string s a e r (Char b) = Itself (String a e)
lean_string s a e r (Digits n) = Itself (String a e)
lean_string s a e r (Digits0 x) = Itself (String a e)

-- a CHAR
unfoldable pub lean_char : ℕ → Piece → Choice
lean_char a (String b f) = Itself (Char a)
lean_char a (Char b) = pick (eqb a b) Match (Itself (Char a))
lean_char a (Digits n) = Itself (Char a)
lean_char a (Digits0 x) = Itself (Char a)

unfoldable pub by_rise : ℕ → Rise → Choice
by_rise n rise.Same = Match
by_rise n (rise.Up d) = Delta d
by_rise n rise.Other = Itself (Digits n)

-- a DIGITS
unfoldable pub lean_digits : ℕ → Piece → Choice
lean_digits n (String b f) = Itself (Digits n)
lean_digits n (Char b) = Itself (Digits n)
lean_digits n (Digits m) = by_rise n (rise_of m n)
lean_digits n (Digits0 x) = Itself (Digits n)

unfoldable pub by_rise0 : Padded → Rise → Choice
by_rise0 x rise.Same = Match
by_rise0 x (rise.Up d) = Delta0 d
by_rise0 x rise.Other = Itself (Digits0 x)

-- a DIGITS0 leans on one of equal width only
unfoldable pub lean_digits0 : Padded → Piece → Choice
lean_digits0 x (String b f) = Itself (Digits0 x)
lean_digits0 x (Char b) = Itself (Digits0 x)
lean_digits0 x (Digits m) = Itself (Digits0 x)
lean_digits0 x (Digits0 y) = pick (eqb x.width y.width) (by_rise0 x (rise_of y.number x.number)) (Itself (Digits0 x))

-- a token of s after the earlier row, a token of r
unfoldable pub lean : List ℕ → Piece → List ℕ → Piece → Choice
lean s (String a e) r u = lean_string s a e r u
lean s (Char a) r u = lean_char a u
lean s (Digits n) r u = lean_digits n u
lean s (Digits0 x) r u = lean_digits0 x u

-- what is written for the token that begins at a, the earlier name's row at this position, if it has one, beginning at b
unfoldable pub choice_at : List ℕ → List ℕ → ℕ → ℕ → ℕ → Choice
choice_at r s p a b = pick (ltb b (length r)) (lean s (piece_at s p a) r (piece_at r p b)) (Itself (piece_at s p a))

-- from position p on, f tokens at most, then END
unfoldable pub choices_from : List ℕ → List ℕ → ℕ → ℕ → ℕ → ℕ → List Choice
choices_from r s zero p a b = End ∷ []
choices_from r s (suc f) p a b = pick (ltb a (length s)) (choice_at r s p a b ∷ choices_from r s f (p + 1) (cut_at s p a) (cut_at r p b)) (End ∷ [])

-- positions 1 to 127 and END
unfoldable pub choices_of : List ℕ → List ℕ → List Choice
choices_of r s = choices_from r s 127 1 0 0
