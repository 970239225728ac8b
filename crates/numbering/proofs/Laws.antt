-- What is known of a type's number: a numbering's are all different, so that each is read as its type.
use Prim.Native.Nat.{ℕ, zero, suc, ◌<◌}
use mathlib.Core.Path.{◌≡◌, refl, sym, ap, ◌∙◌}
use mathlib.Core.Bool.{true, false, not}
use mathlib.Core.List.{List, [], ◌∷◌}
use native.Mathlib.Omega.{arith}
use borrow.Author.Tests.{eq-eqb, ne_eqb}
use lib.Dec.{eqb}
use lib.ListN.{length, get_or}
use Rattle.base.specs.Choice.{pick}
use Rattle.base.proofs.Choice.{never, both_true, pick_true, pick_false}
use Rattle.base.proofs.Every.{every_at}
use Rattle.block.specs.declared.Kind.{Kind}
use Rattle.block.specs.declared.Kind.TheVariants as kind
use Rattle.numbering.specs.declared.TokenType.{TokenType}
use Rattle.numbering.specs.declared.TokenType.TheVariants as type
use Rattle.numbering.specs.Types.{distinct, Numbers, draft_numbers, numbers_of, type_of, type_number}

-- numbers of which none stands there twice
never_eqb : (a b : ℕ) → not (eqb a b) ≡ true → a ≡ b → ⊥
never_eqb a b h e = let f : eqb a b ≡ true = eq-eqb a b e in never (ap not (sym f) ∙ h)

distinct_apart : (l : List ℕ) (i j : ℕ) → distinct l ≡ true → i < j → j < length l → get_or l i 0 ≡ get_or l j 0 → ⊥
unfolding distinct
distinct_apart [] i j d h k = absurd (omega (arith, k))
distinct_apart (a ∷ l) zero zero d h k = absurd (omega (arith, h))
distinct_apart (a ∷ l) zero (suc j) d h k = never_eqb a (get_or l j 0) (every_at (λ b. not (eqb a b)) l (both_true _ _ d).0 j (omega (arith, k)))
distinct_apart (a ∷ l) (suc i) zero d h k = absurd (omega (arith, h))
distinct_apart (a ∷ l) (suc i) (suc j) d h k = distinct_apart l i j (both_true _ _ d).1 (omega (arith, h)) (omega (arith, k))

-- of a numbering, in the order of its fields
module _ (n : Numbers) where
  abbrev all : List ℕ
  all = n.dup ∷ n.diff ∷ n.string ∷ n.char ∷ n.digits ∷ n.digits0 ∷ n.delta ∷ n.delta0 ∷ n.match ∷ n.end ∷ []

  apart : (i j : ℕ) → i < j → j < 10 → get_or all i 0 ≡ get_or all j 0 → ⊥
  apart i j h k = distinct_apart all i j n.different h k

  other : (i j : ℕ) → i < j → j < 10 → eqb (get_or all j 0) (get_or all i 0) ≡ false
  other i j h k = ne_eqb _ _ (λ e. apart i j h k (sym e))

  -- DIFF's number isn't DUP's
  pub dup_not_diff : n.diff ≡ n.dup → ⊥
  dup_not_diff e = apart 0 1 (omega arith) (omega arith) (sym e)

  -- past the four that stand by themselves
  before_last : (j : ℕ) (x : TokenType) → 5 < j → j < 10
      → pick (eqb (get_or all j 0) n.string) type.String (pick (eqb (get_or all j 0) n.char) type.Char
      (pick (eqb (get_or all j 0) n.digits0) type.Digits0 (pick (eqb (get_or all j 0) n.digits) type.Digits x))) ≡ x
  before_last j x h k =
      pick_false _ _ (other 2 j (omega (arith, h)) k) ∙ pick_false _ _ (other 3 j (omega (arith, h)) k)
      ∙ pick_false _ _ (other 5 j (omega (arith, h)) k) ∙ pick_false _ _ (other 4 j (omega (arith, h)) k)

  -- a type's number is read as the type
  pub type_back : (t : TokenType) → (t ≡ type.Other → ⊥) → type_of n (type_number n t) ≡ t
  unfolding type_of type_number
  type_back type.String k = pick_true _ _ (eq-eqb n.string n.string refl)
  type_back type.Char k = pick_false _ _ (other 2 3 (omega arith) (omega arith)) ∙ pick_true _ _ (eq-eqb n.char n.char refl)
  type_back type.Digits k =
      pick_false _ _ (other 2 4 (omega arith) (omega arith)) ∙ pick_false _ _ (other 3 4 (omega arith) (omega arith))
      ∙ pick_false _ _ (ne_eqb _ _ (apart 4 5 (omega arith) (omega arith))) ∙ pick_true _ _ (eq-eqb n.digits n.digits refl)
  type_back type.Digits0 k =
      pick_false _ _ (other 2 5 (omega arith) (omega arith)) ∙ pick_false _ _ (other 3 5 (omega arith) (omega arith)) ∙ pick_true _ _ (eq-eqb n.digits0 n.digits0 refl)
  type_back type.Delta k = before_last 6 _ (omega arith) (omega arith) ∙ pick_true _ _ (eq-eqb n.delta n.delta refl)
  type_back type.Delta0 k = before_last 7 _ (omega arith) (omega arith) ∙ pick_false _ _ (other 6 7 (omega arith) (omega arith)) ∙ pick_true _ _ (eq-eqb n.delta0 n.delta0 refl)
  type_back type.Match k =
      before_last 8 _ (omega arith) (omega arith) ∙ pick_false _ _ (other 6 8 (omega arith) (omega arith)) ∙ pick_false _ _ (other 7 8 (omega arith) (omega arith))
      ∙ pick_true _ _ (eq-eqb n.match n.match refl)
  type_back type.End k =
      before_last 9 _ (omega arith) (omega arith) ∙ pick_false _ _ (other 6 9 (omega arith) (omega arith)) ∙ pick_false _ _ (other 7 9 (omega arith) (omega arith))
      ∙ pick_false _ _ (other 8 9 (omega arith) (omega arith)) ∙ pick_true _ _ (eq-eqb n.end n.end refl)
  type_back type.Other k = absurd (k refl)

-- the one kind of block there is
pub only_draft : (k : Kind) → numbers_of k ≡ draft_numbers
unfolding numbers_of
only_draft kind.Draft = refl
