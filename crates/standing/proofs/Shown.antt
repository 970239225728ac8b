-- A read's token as a value of the words, with its bytes taken from where they stand; and the earlier name's rows as its values.
use Prim.Native.Nat.{ℕ, ◌+◌, ◌≤◌, ◌<◌}
use mathlib.Core.Path.{◌≡◌, refl, sym, ap, ◌∙◌}
use mathlib.Core.List.{List, [], ◌∷◌}
use native.Mathlib.Omega.{arith}
use lib.ListN.{length}
use Rattle.base.specs.Choice.{pick}
use Rattle.base.specs.Memory.{part}
use Rattle.base.proofs.Holding.{Holds, holds_part, holds_first}
use Rattle.digits.proofs.Laws.{length_padded}
use Rattle.tables.specs.declared.Row.{Row}
use Rattle.tokens.specs.declared.Token.{Token}
use Rattle.tokens.specs.declared.Token.TheVariants.{String, Char, Digits, Digits0}
use Rattle.tokens.specs.Tokens.{bytes_of, kind_of, number_of, width_of, length_of, row_of}
use Rattle.sources.specs.Source.{Earlier}
use Rattle.repeats.specs.Repeats.{token_of, row_here}
use Rattle.words.specs.Values.{Value, string, char, digits, digits0, prints, row, row_for}

unfoldable pub shown : List ℕ → List ℕ → Token → Value
shown bytes text (String t) = string (part (pick t.kept text bytes) t.start t.end)
shown bytes text (Char b) = char b
shown bytes text (Digits n) = digits n
shown bytes text (Digits0 p) = digits0 p.number p.width

module _ (bytes text : List ℕ) where
  -- it prints the same bytes
  pub shown_prints : (t : Token) → prints (shown bytes text t) ≡ bytes_of bytes text t
  unfolding shown prints bytes_of
  shown_prints (String t) = refl
  shown_prints (Char b) = refl
  shown_prints (Digits n) = refl
  shown_prints (Digits0 p) = refl

  -- and has the same row
  pub shown_row : (t : Token) (place : ℕ) → length (prints (shown bytes text t)) ≡ length_of t → row_for (shown bytes text t) place ≡ row_of t place
  unfolding shown prints row_for row_of kind_of number_of width_of length_of
  shown_row (String t) place e = ap (row 1 0 0 place) e
  shown_row (Char b) place e = refl
  shown_row (Digits n) place e = refl
  shown_row (Digits0 p) place e = ap (row 4 p.number p.width place) e

-- a row is a value's, and the value's printed bytes stand where the row says
pub record Shows (text : List ℕ) (r : Row) (v : Value) : Type 0 where
  pub place : ℕ
  pub row : r ≡ row_for v place
  pub holds : Holds text place (prints v)

module _ (bytes text : List ℕ) (r : Row) where
  token_of_law : (place : ℕ) (v : Value) → Holds text place (prints v) → shown bytes text (token_of text (row_for v place)) ≡ v
  unfolding shown token_of pick row_for prints
  token_of_law place (string t) h = ap string (holds_part text place t h)
  token_of_law place (char b) h = ap char (holds_first text place b [] h)
  token_of_law place (digits n) h = refl
  token_of_law place (digits0 n w) h = refl

  long_of : (place : ℕ) (v : Value) → Holds text place (prints v) → length (prints v) ≡ length_of (token_of text (row_for v place))
  unfolding token_of pick row_for prints length_of
  long_of place (string t) h = omega arith
  long_of place (char b) h = refl
  long_of place (digits n) h = refl
  long_of place (digits0 n w) h = length_padded n w

  -- MATCH: the row's kind and values
  pub shows_token : (v : Value) → Shows text r v → shown bytes text (token_of text r) ≡ v
  shows_token v h = ap (λ (x : Row). shown bytes text (token_of text x)) h.row ∙ token_of_law h.place v h.holds

  pub shows_long : (v : Value) → Shows text r v → length (prints v) ≡ length_of (token_of text r)
  shows_long v h = long_of h.place v h.holds ∙ ap (λ (x : Row). length_of (token_of text x)) (sym h.row)

-- the earlier name's rows from position p on are these values
pub data RowsTell (e : Earlier) : ℕ → List Value → Type 0 where
  none : (p : ℕ) → e.count < p → RowsTell e p []
  more : (p : ℕ) (v : Value) (vs : List Value) → p ≤ e.count → Shows e.text (row_here e p) v → RowsTell e (p + 1) vs → RowsTell e p (v ∷ vs)
