-- Laws of halving and of the move, as the loop and the calls want them.
use Prim.Native.Nat.{ℕ, zero, suc, ◌+◌, ◌-◌, ◌/◌, ◌≤◌, ◌<◌}
use mathlib.Core.Path.{◌≡◌, refl, sym, ap, ap₂, ◌∙◌}
use mathlib.Core.List.{List, [], ◌∷◌}
use native.Mathlib.Omega.{arith}
use native.Mathlib.Numerals.{add-one}
use lib.ListN.{length, get_or, set, drop, drop_of_length-le}
use lib.Seq.{paste, drop-cons}
use lib.Dec.{ltb}
use borrow.Author.Tests.{lt-ltb, le-ltb}
use Rattle.std.specs.List.{swap}
use Rattle.std.proofs.lemmas.List.Edits.{swap_is}
use Rattle.base.specs.Choice.{both}
use Rattle.base.proofs.Choice.{took, left, both_of, both_left, both_right}
use Rattle.model.specs.declared.Model.{Model}
use Rattle.base.proofs.Fills.{fill_read, fill_turn}
use Rattle.model.specs.Model.{model, most, sum_of, sum, halves, halved, settled, neighbour, swapped, exceeds, raised}

-- ---- halving

pub halves_length : (l : List ℕ) → length (halves l) ≡ length l
unfolding halves
halves_length [] = refl
halves_length (f ∷ l) = ap suc (halves_length l)

pub halves_at : (l : List ℕ) (i : ℕ) → get_or (halves l) i 0 ≡ get_or l i 0 - get_or l i 0 / 2
unfolding halves
halves_at [] i = refl
halves_at (f ∷ l) zero = refl
halves_at (f ∷ l) (suc i) = halves_at l i

pub halves_least : (l : List ℕ) → sum (halves l) ≤ sum l
unfolding halves sum_of
halves_least [] = omega arith
halves_least (f ∷ l) = omega (arith, halves_least l)

-- a turn of the loop: so far, the one here, and the rest
pub halves_turn : (l : List ℕ) (i t : ℕ) → i < length l → t + (get_or l i 0 - get_or l i 0 / 2) + sum (halves (drop (i + 1) l)) ≡ t + sum (halves (drop i l))
unfolding halves sum_of
halves_turn l i t h = rw (add-one i, drop-cons l i 0 h) (omega arith)

pub halves_done : (l : List ℕ) (i t : ℕ) → length l ≤ i → t + sum (halves (drop i l)) ≡ t
unfolding halves sum_of
halves_done l i t h = rw (drop_of_length-le l h) (omega arith)

-- a frequency read in the loop that halves them all, in place
module _ (f₀ f : List ℕ) (i t : ℕ) (e : f ≡ paste f₀ 0 (halves f₀) i) (h : i < length f₀) where
  halve_read : get_or f i 0 ≡ get_or f₀ i 0
  halve_read = ap (λ (l : List ℕ). get_or l i 0) e ∙ fill_read f₀ (halves f₀) (halves_length f₀) i (omega arith)

  pub halve_turn : set f i (get_or f i 0 - get_or f i 0 / 2) ≡ paste f₀ 0 (halves f₀) (i + 1)
  halve_turn =
      ap (λ (l : List ℕ). set l i (get_or f i 0 - get_or f i 0 / 2)) e
      ∙ fill_turn f₀ (halves f₀) (halves_length f₀) i (get_or f i 0 - get_or f i 0 / 2) h (ap (λ (v : ℕ). v - v / 2) halve_read ∙ sym (halves_at f₀ i))

  pub halve_sum : t + sum (halves (drop i f₀)) ≡ sum (halves f₀) → t + (get_or f i 0 - get_or f i 0 / 2) + sum (halves (drop (i + 1) f₀)) ≡ sum (halves f₀)
  halve_sum q = ap (λ (v : ℕ). t + (v - v / 2) + sum (halves (drop (i + 1) f₀))) halve_read ∙ halves_turn f₀ i t h ∙ q

-- every frequency halved, or none
module _ (m : Model) where
  pub settled_halved : most < m.total → {f : List ℕ} {t : ℕ} → f ≡ halves m.frequencies → t ≡ sum (halves m.frequencies) → model m.symbols f t ≡ settled m
  unfolding settled halved
  settled_halved h d e = took (halved m) m (lt-ltb most m.total h) (ap₂ (model m.symbols) d e)

  pub settled_same : m.total ≤ most → m ≡ settled m
  unfolding settled
  settled_same h = left (halved m) m (le-ltb most m.total h) refl

-- ---- the move

neighbour_is : (x : ℕ) → neighbour x ≡ x - 1
unfolding neighbour
neighbour_is x = omega arith

pub swapped_is : (l : List ℕ) (x : ℕ) → swapped l x ≡ set (set l x (get_or l (x - 1) 0)) (x - 1) (get_or l x 0)
unfolding swapped
swapped_is l x = rw (neighbour_is x)

pub exceeds_is : (f : List ℕ) (x : ℕ) → exceeds f x ≡ both (ltb 0 x) (ltb (get_or f (x - 1) 0) (get_or f x 0))
unfolding exceeds
exceeds_is f x = rw (neighbour_is x)

module _ (s f : List ℕ) (t x : ℕ) where
  abbrev up : Model
  up = model (swapped s x) (swapped f x) t

  -- place 0 has no neighbour
  pub stays_first : x ≡ 0 → model s f t ≡ raised (model s f t) x
  unfolding raised
  stays_first e = left up _ (exceeds_is f x ∙ both_left _ (le-ltb 0 x (omega arith))) refl

  pub stays_below : 0 < x → get_or f x 0 ≤ get_or f (x - 1) 0 → model s f t ≡ raised (model s f t) x
  unfolding raised
  stays_below p h = left up _ (exceeds_is f x ∙ both_right (lt-ltb 0 x p) (le-ltb (get_or f (x - 1) 0) (get_or f x 0) h)) refl

  -- both lists, each with the two places exchanged
  pub moves_up : 0 < x → x < length s → x < length f → get_or f (x - 1) 0 < get_or f x 0
      → {a b : List ℕ} → a ≡ swap s x (x - 1) → b ≡ swap f x (x - 1) → model a b t ≡ raised (model s f t) x
  unfolding raised
  moves_up p i j h d e =
      ap₂ (λ (y z : List ℕ). model y z t)
      (d ∙ sym (swap_is s x (x - 1) 0 i (omega arith)) ∙ sym (swapped_is s x))
      (e ∙ sym (swap_is f x (x - 1) 0 j (omega arith)) ∙ sym (swapped_is f x))
      ∙ took up _ (exceeds_is f x ∙ both_of (lt-ltb 0 x p) (lt-ltb (get_or f (x - 1) 0) (get_or f x 0) h)) refl
