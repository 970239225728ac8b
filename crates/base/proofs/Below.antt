-- Two memories that are the same up to a place: what stands below it is the same in both.
use Prim.Native.Nat.{ℕ, zero, suc, ◌+◌, ◌-◌, ◌≤◌, ◌<◌, min}
use mathlib.Core.Path.{◌≡◌, sym, ap, ◌∙◌}
use mathlib.Core.List.{List, [], ◌∷◌, ◌++◌}
use native.Mathlib.Omega.{arith}
use lib.ListN.{length, take, drop, get_or, length-append, length-take}
use lib.Seq.{take-take, take-nil, take-append-le, get_or-take, length-take-le, ext_get_or}
use Rattle.base.specs.Memory.{part, written}

front : (m n u : ℕ) (l : List ℕ) → m + n ≤ u → take n (drop m (take u l)) ≡ take n (drop m l)
front zero n u l h = take-take n u l (omega arith)
front (suc m) n u [] h = ap (λ (l : List ℕ). take n (drop (suc m) l)) (take-nil u)
front (suc m) n zero (x ∷ l) h = absurd (omega arith)
front (suc m) n (suc u) (x ∷ l) h = front m n u l (omega arith)

pub part_front : (l : List ℕ) (from to u : ℕ) → to ≤ u → from ≤ to → part (take u l) from to ≡ part l from to
unfolding part
part_front l from to u h k = front from (to - from) u l (omega arith)

module _ (a b : List ℕ) (u : ℕ) (e : take u a ≡ take u b) where
  pub same_part : (from to : ℕ) → from ≤ to → to ≤ u → part a from to ≡ part b from to
  same_part from to h k = sym (part_front a from to u k h) ∙ ap (λ (l : List ℕ). part l from to) e ∙ part_front b from to u k h

  pub same_at : (i : ℕ) → i < u → get_or a i 0 ≡ get_or b i 0
  same_at i h = sym (get_or-take u a i 0 h) ∙ ap (λ (l : List ℕ). get_or l i 0) e ∙ get_or-take u b i 0 h

  pub same_below : (v : ℕ) → v ≤ u → take v a ≡ take v b
  same_below v h = sym (take-take v u a h) ∙ ap (take v) e ∙ take-take v u b h

pub same_of : (a b : List ℕ) (u : ℕ) → length a ≡ length b → ((i : ℕ) → i < u → get_or a i 0 ≡ get_or b i 0) → take u a ≡ take u b
same_of a b u l f =
    ext_get_or 0 (take u a) (take u b) (length-take u a ∙ ap (min u) l ∙ sym (length-take u b))
    (λ i h. let m : i < u = omega (arith, length-take u a) in get_or-take u a i 0 m ∙ f i m ∙ sym (get_or-take u b i 0 m))

-- a write leaves what stands below it
pub take_written : (d : List ℕ) (at : ℕ) (s : List ℕ) (u : ℕ) → u ≤ at → at ≤ length d → take u (written d at s) ≡ take u d
unfolding written
take_written d at s u h k =
    let l : length (take at d) ≡ at = length-take-le at d k in
    let m : u ≤ length (take at d ++ s) = omega (arith, length-append (take at d) s) in
    take-append-le u (take at d ++ s) (drop (at + length s) d) m
    ∙ take-append-le u (take at d) s (omega arith)
    ∙ take-take u at d h
