-- What the writer chose for a token is right: the earlier row, if it leans on one, gives the token again.
use Prim.Native.Nat.{ℕ, ◌+◌, ◌-◌, ◌≤◌, ◌<◌}
use mathlib.Core.Path.{◌≡◌, refl, sym, ap, ◌∙◌, subst}
use mathlib.Core.Bool.{true}
use mathlib.Core.List.{List, [], ◌∷◌}
use native.Mathlib.Omega.{arith}
use borrow.Author.Tests.{ltb-true, ltb-false, eqb-true, eq-eqb}
use lib.Dec.{ltb, eqb}
use lib.ListN.{length}
use Rattle.base.specs.Memory.{part}
use Rattle.comparing.specs.Same.{same}
use Rattle.base.proofs.Choice.{both_of, pick_holds}
use Rattle.comparing.proofs.Equal.{same_equal}
use Rattle.base.proofs.Holding.{Holds}
use Rattle.tokens.specs.declared.Padded.{Padded}
use Rattle.tables.specs.declared.Row.{Row}
use Rattle.sources.specs.Source.{Earlier}
use Rattle.repeats.specs.Repeats.{has_row, row_here, has_kind}
use Rattle.pieces.specs.declared.Piece.{Piece}
use Rattle.pieces.specs.declared.Piece.TheVariants.{String, Char, Digits, Digits0}
use Rattle.rises.specs.declared.Rise.{Rise}
use Rattle.choices.specs.declared.Choice.{Choice}
use Rattle.choices.specs.declared.Choice.TheVariants.{Itself, Delta, Delta0, Match, End}
use Rattle.pieces.specs.Pieces.{piece_at}
use Rattle.rises.specs.Rises.{rise_of}
use Rattle.choices.specs.Choices.{lean_string, lean_char, by_rise, lean_digits, by_rise0, lean_digits0, lean, choice_at}
use Rattle.roundtrip.specs.Rows.{piece_bytes, piece_kind, piece_number, piece_width}

-- a kept row is that of a token of a name
pub record RowIs (text : List ℕ) (row : Row) (s : List ℕ) (x : Piece) : Type 0 where
  pub kind : row.kind ≡ piece_kind x
  pub number : row.number ≡ piece_number x
  pub width : row.width ≡ piece_width x
  pub length : row.length ≡ length (piece_bytes s x)
  pub holds : Holds text row.start (piece_bytes s x)

pub row_same : (text : List ℕ) (row : Row) (r s : List ℕ) (y x : Piece) → piece_kind y ≡ piece_kind x → piece_number y ≡ piece_number x → piece_width y ≡ piece_width x
    → piece_bytes r y ≡ piece_bytes s x → RowIs text row r y → RowIs text row s x
row_same text row r s y x k n w b i =
    record {
      kind = i.kind ∙ k;
      number = i.number ∙ n;
      width = i.width ∙ w;
      length = i.length ∙ ap length b;
      holds = subst (λ (l : List ℕ). Holds text row.start l) b i.holds;
    }

-- a choice that gives token x of s at position p again
abbrev pub Right : Earlier → ℕ → List ℕ → Piece → Choice → Type 0
Right e p s x (Itself t) = t ≡ x
Right e p s x (Delta d) = (has_kind e p 7 ≡ true) × (Digits ((row_here e p).number + d) ≡ x)
Right e p s x (Delta0 d) = (has_kind e p 4 ≡ true) × (Digits0 (record { number = (row_here e p).number + d; width = (row_here e p).width }) ≡ x)
Right e p s x Match = (has_row e p ≡ true) × RowIs e.text (row_here e p) s x
Right e p s x End = ⊥

padded_same : (y : Padded) (n w : ℕ) → n ≡ y.number → w ≡ y.width → Digits0 (record { number = n; width = w }) ≡ Digits0 y
padded_same y n w a b = rw (a, b)

-- the earlier name r has a row at this position, that of its token y
module _ (e : Earlier) (p : ℕ) (s r : List ℕ) (has : has_row e p ≡ true) where
  has_kind_law : (k : ℕ) → (row_here e p).kind ≡ k → has_kind e p k ≡ true
  unfolding has_kind
  has_kind_law k q = both_of has (eq-eqb _ _ q)

  string_right : (a z : ℕ) (y : Piece) → RowIs e.text (row_here e p) r y → Right e p s (String a z) (lean_string s a z r y)
  unfolding lean_string piece_kind piece_number piece_width piece_bytes
  string_right a z (String b f) i =
      pick_holds (Right e p s (String a z)) (same (part s a z) (part r b f)) Match (Itself (String a z))
      (λ t. (has, row_same e.text (row_here e p) r s (String b f) (String a z) refl refl refl (sym (same_equal _ _ t)) i))
      (λ t. refl)
  string_right a z (Char b) i = refl
  string_right a z (Digits n) i = refl
  string_right a z (Digits0 x) i = refl

  char_right : (a : ℕ) (y : Piece) → RowIs e.text (row_here e p) r y → Right e p s (Char a) (lean_char a y)
  unfolding lean_char piece_kind piece_number piece_width piece_bytes
  char_right a (String b f) i = refl
  char_right a (Char b) i =
      pick_holds (Right e p s (Char a)) (eqb a b) Match (Itself (Char a))
      (λ t. (has, row_same e.text (row_here e p) r s (Char b) (Char a) refl refl refl (ap (λ (n : ℕ). n ∷ []) (sym (eqb-true _ _ t))) i))
      (λ t. refl)
  char_right a (Digits n) i = refl
  char_right a (Digits0 x) i = refl

  digits_right : (n : ℕ) (y : Piece) → RowIs e.text (row_here e p) r y → Right e p s (Digits n) (lean_digits n y)
  unfolding lean_digits by_rise rise_of piece_kind piece_number piece_width piece_bytes
  digits_right n (String b f) i = refl
  digits_right n (Char b) i = refl
  digits_right n (Digits m) i =
      let q : (row_here e p).number ≡ m = i.number in
      pick_holds (λ (x : Rise). Right e p s (Digits n) (by_rise n x)) (eqb n m) _ _
      (λ t. (has, subst (λ (k : ℕ). RowIs e.text (row_here e p) s (Digits k)) (sym (eqb-true n m t)) (row_same e.text (row_here e p) r s (Digits m) (Digits m) refl refl refl refl i)))
      (λ t.
      pick_holds (λ (x : Rise). Right e p s (Digits n) (by_rise n x)) (ltb n m) _ _
      (λ u. refl)
      (λ u.
      let l : m ≤ n = ltb-false n m u in
      pick_holds (λ (x : Rise). Right e p s (Digits n) (by_rise n x)) (ltb 255 (n - m)) _ _
      (λ v. refl)
      (λ v. let w : (row_here e p).number + (n - m) ≡ n = omega arith in (has_kind_law 7 i.kind, ap Digits w))))
  digits_right n (Digits0 x) i = refl

  digits0_right : (x : Padded) (y : Piece) → RowIs e.text (row_here e p) r y → Right e p s (Digits0 x) (lean_digits0 x y)
  unfolding lean_digits0 by_rise0 rise_of piece_kind piece_number piece_width piece_bytes
  digits0_right x (String b f) i = refl
  digits0_right x (Char b) i = refl
  digits0_right x (Digits m) i = refl
  digits0_right x (Digits0 y) i =
      let q : (row_here e p).number ≡ y.number = i.number in
      let g : (row_here e p).width ≡ y.width = i.width in
      pick_holds (Right e p s (Digits0 x)) (eqb x.width y.width) _ _
      (λ t.
      let w : x.width ≡ y.width = eqb-true _ _ t in
      pick_holds (λ (z : Rise). Right e p s (Digits0 x) (by_rise0 x z)) (eqb x.number y.number) _ _
      (λ u.
      let n : x.number ≡ y.number = eqb-true _ _ u in (
        has,
        subst (λ (z : Piece). RowIs e.text (row_here e p) s z) (padded_same x y.number y.width (sym n) (sym w))
            (row_same e.text (row_here e p) r s (Digits0 y) (Digits0 y) refl refl refl refl i),
      ))
      (λ u.
      pick_holds (λ (z : Rise). Right e p s (Digits0 x) (by_rise0 x z)) (ltb x.number y.number) _ _
      (λ v. refl)
      (λ v.
      let l : y.number ≤ x.number = ltb-false x.number y.number v in
      pick_holds (λ (z : Rise). Right e p s (Digits0 x) (by_rise0 x z)) (ltb 255 (x.number - y.number)) _ _
      (λ o. refl)
      (λ o. (has_kind_law 4 i.kind, padded_same x _ _ (omega arith) (g ∙ sym w))))))
      (λ t. refl)

  pub lean_right : (x y : Piece) → RowIs e.text (row_here e p) r y → Right e p s x (lean s x r y)
  unfolding lean
  lean_right (String a z) y i = string_right a z y i
  lean_right (Char a) y i = char_right a y i
  lean_right (Digits n) y i = digits_right n y i
  lean_right (Digits0 x) y i = digits0_right x y i

-- the earlier name's row at position p is that of its token there, where it has one
pub record Here (e : Earlier) (p : ℕ) (r : List ℕ) (b : ℕ) : Type 0 where
  pub has : has_row e p ≡ true
  pub row : RowIs e.text (row_here e p) r (piece_at r p b)

pub choice_right : (e : Earlier) (p : ℕ) (s r : List ℕ) (a b : ℕ) → (b < length r → Here e p r b) → Right e p s (piece_at s p a) (choice_at r s p a b)
unfolding choice_at
choice_right e p s r a b h =
    pick_holds (Right e p s (piece_at s p a)) (ltb b (length r)) _ _
    (λ t. let g = h (ltb-true _ _ t) in lean_right e p s r g.has (piece_at s p a) (piece_at r p b) g.row)
    (λ t. refl)
