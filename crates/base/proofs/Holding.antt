-- A list that stands in memory from a place on: its parts, its elements, and which writes leave it.
use Prim.Native.Nat.{ℕ, ◌+◌, ◌-◌, ◌≤◌, ◌<◌}
use mathlib.Core.Path.{◌≡◌, refl, sym, ap, ◌∙◌, subst}
use mathlib.Core.List.{List, [], ◌∷◌, ◌++◌, append_assoc}
use native.Mathlib.Omega.{arith}
use native.Mathlib.Nat.{add-zero}
use lib.ListN.{length, take, drop, get_or, take-append-drop, get_or-append}
use lib.Seq.{length-take-le, get_or-drop, drop_at, take_at, drop-drop}
use Rattle.base.specs.Memory.{written, part}
use Rattle.base.proofs.Below.{same_part, take_written}

pub record Holds (m : List ℕ) (at : ℕ) (s : List ℕ) : Type 0 where
  pub rest : List ℕ
  pub begins : drop at m ≡ s ++ rest

pub holds_written : (d : List ℕ) (at : ℕ) (s : List ℕ) → at ≤ length d → Holds (written d at s) at s
unfolding written
holds_written d at s h =
    record {
      rest = drop (at + length s) d;
      begins = ap (drop at) (append_assoc (take at d) s (drop (at + length s) d)) ∙ drop_at (take at d) (s ++ drop (at + length s) d) at (length-take-le at d h);
    }

module _ (m : List ℕ) (at : ℕ) where
  pub holds_none : Holds m at []
  holds_none = record { rest = drop at m; begins = refl }

  pub holds_left : (a b : List ℕ) → Holds m at (a ++ b) → Holds m at a
  holds_left a b h = record { rest = b ++ h.rest; begins = h.begins ∙ append_assoc a b h.rest }

  pub holds_right : (a b : List ℕ) → Holds m at (a ++ b) → Holds m (at + length a) b
  holds_right a b h =
      record {
        rest = h.rest;
        begins = sym (drop-drop (length a) at m) ∙ ap (drop (length a)) (h.begins ∙ append_assoc a b h.rest) ∙ drop_at a (b ++ h.rest) (length a) refl;
      }

  pub holds_join : (a b : List ℕ) → Holds m at a → Holds m (at + length a) b → Holds m at (a ++ b)
  holds_join a b h k =
      record {
        rest = k.rest;
        begins =
            h.begins
            ∙ ap (λ (l : List ℕ). a ++ l) (sym (drop_at a h.rest (length a) refl) ∙ ap (drop (length a)) (sym h.begins) ∙ drop-drop (length a) at m ∙ k.begins)
            ∙ sym (append_assoc a b k.rest);
      }

  pub holds_part : (s : List ℕ) → Holds m at s → part m at (at + length s) ≡ s
  unfolding part
  holds_part s h =
      let n : at + length s - at ≡ length s = omega arith in
      ap (λ (k : ℕ). take k (drop at m)) n ∙ ap (take (length s)) h.begins ∙ take_at s h.rest (length s) refl

  pub part_holds : (s : List ℕ) → part m at (at + length s) ≡ s → Holds m at s
  unfolding part
  part_holds s e =
      let n : at + length s - at ≡ length s = omega arith in
      record {
        rest = drop (length s) (drop at m);
        begins = sym (take-append-drop (length s) (drop at m)) ∙ ap (λ (l : List ℕ). l ++ drop (length s) (drop at m)) (ap (λ (k : ℕ). take k (drop at m)) (sym n) ∙ e);
      }

  pub holds_at : (s : List ℕ) → Holds m at s → (k : ℕ) → k < length s → get_or m (at + k) 0 ≡ get_or s k 0
  holds_at s h k l = sym (get_or-drop at m k 0) ∙ ap (λ (z : List ℕ). get_or z k 0) h.begins ∙ get_or-append s h.rest 0 k l

  pub holds_first : (a : ℕ) (s : List ℕ) → Holds m at (a ∷ s) → get_or m at 0 ≡ a
  holds_first a s h = ap (λ (n : ℕ). get_or m n 0) (sym (add-zero at)) ∙ holds_at (a ∷ s) h 0 (omega arith)

-- what is the same below a place holds the same there
pub holds_same : (m n : List ℕ) (at : ℕ) (s : List ℕ) (u : ℕ) → take u m ≡ take u n → at + length s ≤ u → Holds m at s → Holds n at s
holds_same m n at s u e l h = part_holds n at s (sym (same_part m n u e at (at + length s) (omega arith) l) ∙ holds_part m at s h)

-- a write behind it leaves it
pub holds_stays : (d : List ℕ) (at : ℕ) (s : List ℕ) (to : ℕ) (t : List ℕ) → at + length s ≤ to → to ≤ length d → Holds d at s → Holds (written d to t) at s
holds_stays d at s to t l k h = holds_same d (written d to t) at s to (sym (take_written d to t to (omega arith) k)) l h

-- a part of what stands there
pub holds_inner : (m : List ℕ) (at : ℕ) (s : List ℕ) (from to : ℕ) → from ≤ to → to ≤ length s → Holds m at s → Holds m (at + from) (part s from to)
unfolding part
holds_inner m at s from to l k h =
    let q : Holds m at (take from s ++ drop from s) = subst (λ (x : List ℕ). Holds m at x) (sym (take-append-drop from s)) h in
    let r : Holds m (at + from) (drop from s) = subst (λ (n : ℕ). Holds m (at + n) (drop from s)) (length-take-le from s (omega arith)) (holds_right m at (take from s) (drop from s) q) in
    holds_left m (at + from) (take (to - from) (drop from s)) (drop (to - from) (drop from s))
    (subst (λ (x : List ℕ). Holds m (at + from) x) (sym (take-append-drop (to - from) (drop from s))) r)
