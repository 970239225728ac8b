-- The numbers of the types, as the paper's table gives them: with the code's `draft_type`, `draft_number`, `dup_number` and `diff_number` the only place
-- that knows them. Those of the tokens, at positions 1 to 128, are given there and back; DUP and DIFF stand at position 0 alone and are no tokens.
use Rattle.std.specs.Prelude.{ℕ, ◌≡◌, refl, Bool, true, not, List, [], ◌∷◌, eqb}
use Rattle.base.specs.Choice.{pick, both}
use Rattle.base.specs.Every.{every}
use Rattle.block.specs.declared.Kind.{Kind}
use Rattle.block.specs.declared.Kind.TheVariants as kind
use Rattle.block.specs.declared.Mode.{Mode}
use Rattle.block.specs.declared.Mode.TheVariants as mode
use Rattle.block.specs.declared.Setting.{Setting}
use Rattle.numbering.specs.declared.TokenType.{TokenType}
use Rattle.numbering.specs.declared.TokenType.TheVariants.{String, Char, Digits, Digits0, Delta, Delta0, Match, End, Other}

-- no number stands there twice
unfoldable pub distinct : List ℕ → Bool
distinct [] = true
distinct (a ∷ l) = both (every (λ b. not (eqb a b)) l) (distinct l)

-- a numbering: a number for each type, all different
pub record Numbers : Type 0 where
  pub dup : ℕ
  pub diff : ℕ
  pub string : ℕ
  pub char : ℕ
  pub digits : ℕ
  pub digits0 : ℕ
  pub delta : ℕ
  pub delta0 : ℕ
  pub match : ℕ
  pub end : ℕ
  pub different : distinct (dup ∷ diff ∷ string ∷ char ∷ digits ∷ digits0 ∷ delta ∷ delta0 ∷ match ∷ end ∷ []) ≡ true

-- the draft's
pub draft_different : distinct (5 ∷ 6 ∷ 1 ∷ 2 ∷ 7 ∷ 4 ∷ 11 ∷ 12 ∷ 13 ∷ 14 ∷ []) ≡ true
unfolding distinct every pick
draft_different = refl

abbrev pub draft_numbers : Numbers
draft_numbers = record {
  dup = 5;
  diff = 6;
  string = 1;
  char = 2;
  digits = 7;
  digits0 = 4;
  delta = 11;
  delta0 = 12;
  match = 13;
  end = 14;
  different = draft_different;
}

unfoldable pub numbers_of : Kind → Numbers
numbers_of kind.Draft = draft_numbers

-- the type that a byte says
unfoldable pub type_of : Numbers → ℕ → TokenType
type_of n b =
    pick (eqb b n.string) String
    (pick (eqb b n.char) Char
    (pick (eqb b n.digits0) Digits0
    (pick (eqb b n.digits) Digits
    (pick (eqb b n.delta) Delta
    (pick (eqb b n.delta0) Delta0
    (pick (eqb b n.match) Match
    (pick (eqb b n.end) End
    Other)))))))

-- the table the other way round; `Other` stands for bytes that are not in it
unfoldable pub type_number : Numbers → TokenType → ℕ
type_number n String = n.string
type_number n Char = n.char
type_number n Digits = n.digits
type_number n Digits0 = n.digits0
type_number n Delta = n.delta
type_number n Delta0 = n.delta0
type_number n Match = n.match
type_number n End = n.end
type_number n Other = 0

-- the draft's plain setting
abbrev pub draft_plain : Setting
draft_plain = record { kind = kind.Draft; mode = mode.Plain }

-- what a block is read and written by
pub record Rules : Type 0 where
  pub numbers : Numbers
  pub mode : Mode

abbrev pub rules_of : Setting → Rules
rules_of set = record { numbers = numbers_of set.kind; mode = set.mode }
