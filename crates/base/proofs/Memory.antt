-- Laws of parts and writes, in the forms in which loops and sequences of writes want them.
use Prim.Native.Nat.{ℕ, ◌+◌, ◌-◌, ◌≤◌, ◌<◌}
use mathlib.Core.Path.{◌≡◌, sym, ap, ◌∙◌}
use mathlib.Core.List.{List, [], ◌∷◌, ◌++◌, append_assoc}
use native.Mathlib.Omega.{arith}
use native.Mathlib.Nat.{add_assoc}
use native.Mathlib.Numerals.{add-one, add-two, add-three}
use lib.ListN.{length, take, drop, set, get_or, length-append, length-drop, length-take, get_or-append}
use lib.Seq.{paste-zero, sets-eq, paste, paste-suc, take-length, length-take-le, take_at, drop-append-add, drop-drop, get_or-take, get_or-drop, get_or-append-add}
use Rattle.base.specs.Memory.{written, part}

pub one_written : {A : Type 0} (l : List A) (at : ℕ) (b : A) → at + 1 ≤ length l → set l at b ≡ written l at (b ∷ [])
unfolding written
one_written l at b h = sets-eq (b ∷ []) l at h

pub four_written : (l : List ℕ) (at a b c d : ℕ) → at + 4 ≤ length l → set (set (set (set l at a) (at + 1) b) (at + 2) c) (at + 3) d ≡ written l at (a ∷ b ∷ c ∷ d ∷ [])
unfolding written
four_written l at a b c d h = rw (add-one, add-two, add-three) (sets-eq (a ∷ b ∷ c ∷ d ∷ []) l at h)

module _ (d : List ℕ) (at : ℕ) (s : List ℕ) where
  pub length_written : at + length s ≤ length d → length (written d at s) ≡ length d
  unfolding written
  length_written h = simp (length-append, length-drop, length-take-le at d (omega arith)) (omega arith)

  -- two writes, one behind the other, are one
  pub written_next : (t : List ℕ) → at + length s ≤ length d → written (written d at s) (at + length s) t ≡ written d at (s ++ t)
  unfolding written
  written_next t h =
      let p : List ℕ = take at d ++ s in
      let k : length p ≡ at + length s = length-append (take at d) s ∙ ap (λ (n : ℕ). n + length s) (length-take-le at d (omega arith)) in
      let e : drop (at + length s + length t) (p ++ drop (at + length s) d) ≡ drop (at + length s + length t) d =
      ap (λ (n : ℕ). drop (n + length t) (p ++ drop (at + length s) d)) (sym k)
      ∙ drop-append-add p (drop (at + length s) d) (length t) ∙ drop-drop (length t) (at + length s) d in
      ap (λ (l : List ℕ). l ++ t ++ drop (at + length s + length t) (p ++ drop (at + length s) d)) (take_at p (drop (at + length s) d) (at + length s) k)
      ∙ ap (λ (l : List ℕ). p ++ t ++ l) e
      ∙ simp (length-append, append_assoc, add_assoc)

  pub written_none : written d at [] ≡ d
  unfolding written
  written_none = sym (paste-zero d at [])

  -- a copy loop that has come to its end
  pub pasted : (n : ℕ) → n ≡ length s → paste d at s n ≡ written d at s
  unfolding written
  pasted n e = rw (e, take-length)

  -- below a write the list is as it was
  pub below_written : (i : ℕ) → i < at → at ≤ length d → get_or (written d at s) i 0 ≡ get_or d i 0
  unfolding written
  below_written i h k =
      let l : length (take at d) ≡ at = length-take-le at d k in
      let m : i < length (take at d ++ s) = omega (arith, length-append (take at d) s) in
      get_or-append (take at d ++ s) (drop (at + length s) d) 0 i m
      ∙ get_or-append (take at d) s 0 i (omega arith)
      ∙ get_or-take at d i 0 h

  module _ (h : at ≤ length d) where
    head_length : length (take at d ++ s) ≡ at + length s
    head_length = length-append (take at d) s ∙ ap (λ (n : ℕ). n + length s) (length-take-le at d h)

    -- where a write went stands what was written
    pub within_written : (j : ℕ) → j < length s → get_or (written d at s) (at + j) 0 ≡ get_or s j 0
    unfolding written
    within_written j k =
        get_or-append (take at d ++ s) (drop (at + length s) d) 0 (at + j) (omega (arith, head_length))
        ∙ ap (λ (n : ℕ). get_or (take at d ++ s) (n + j) 0) (sym (length-take-le at d h))
        ∙ get_or-append-add (take at d) s j 0

    -- above a write the list is as it was
    pub above_written : (i : ℕ) → at + length s ≤ i → get_or (written d at s) i 0 ≡ get_or d i 0
    unfolding written
    above_written i k =
        let r : ℕ = i - (at + length s) in
        let e : length (take at d ++ s) + r ≡ i = omega (arith, head_length) in
        ap (λ (n : ℕ). get_or (take at d ++ s ++ drop (at + length s) d) n 0) (sym e)
        ∙ get_or-append-add (take at d ++ s) (drop (at + length s) d) r 0
        ∙ get_or-drop (at + length s) d r 0
        ∙ ap (λ (n : ℕ). get_or d n 0) (omega arith)

pub length_part : (s : List ℕ) (from to : ℕ) → from ≤ to → to ≤ length s → length (part s from to) ≡ to - from
unfolding part
length_part s from to h k = simp (length-take, length-drop) (omega arith)

pub get_d_part : (s : List ℕ) (from to j : ℕ) → j < to - from → get_or (part s from to) j 0 ≡ get_or s (from + j) 0
unfolding part
get_d_part s from to j h = rw (get_or-take, get_or-drop)

-- an element of a part that is known
pub part_at : (s p : List ℕ) (from to j : ℕ) → part s from to ≡ p → j < to - from → get_or s (from + j) 0 ≡ get_or p j 0
part_at s p from to j e h = sym (get_d_part s from to j h) ∙ ap (λ (l : List ℕ). get_or l j 0) e

-- a turn of the loop that copies
pub text_step : (s d : List ℕ) (at j : ℕ) → at + length s ≤ length d → j < length s → set (paste d at s j) (at + j) (get_or s j 0) ≡ paste d at s (j + 1)
text_step s d at j r l = paste-suc d at s j 0 (omega arith) (omega arith) ∙ ap (λ (n : ℕ). paste d at s n) (sym (add-one j))

pub copy_step : (s d : List ℕ) (from to at j : ℕ) → from ≤ to → to ≤ length s → at + (to - from) ≤ length d → j < to - from
    → set (paste d at (part s from to) j) (at + j) (get_or s (from + j) 0) ≡ paste d at (part s from to) (j + 1)
copy_step s d from to at j h k r l =
    ap (λ (v : ℕ). set (paste d at (part s from to) j) (at + j) v) (sym (get_d_part s from to j l))
    ∙ paste-suc d at (part s from to) j 0 (omega arith) (omega (arith, length_part s from to h k))
    ∙ ap (λ (n : ℕ). paste d at (part s from to) n) (sym (add-one j))

-- a copy leaves what stands below it
pub below_paste : (d : List ℕ) (at : ℕ) (s : List ℕ) (j k : ℕ) → k < at → at ≤ length d → get_or (paste d at s j) k 0 ≡ get_or d k 0
below_paste d at s j k h l =
    let e : length (take at d) ≡ at = length-take-le at d l in
    let m : k < length (take at d ++ take j s) = omega (arith, length-append (take at d) (take j s)) in
    get_or-append (take at d ++ take j s) (drop (at + j) d) 0 k m
    ∙ get_or-append (take at d) (take j s) 0 k (omega arith)
    ∙ get_or-take at d k 0 h

-- a turn of the loop that copies inside one buffer
pub within_step : (d b : List ℕ) (from to at j : ℕ) → from ≤ to → to ≤ at → at + (to - from) ≤ length d → j < to - from → b ≡ paste d at (part d from to) j
    → set b (at + j) (get_or b (from + j) 0) ≡ paste d at (part d from to) (j + 1)
within_step d b from to at j h k r l e =
    let v : get_or b (from + j) 0 ≡ get_or d (from + j) 0 =
    ap (λ (x : List ℕ). get_or x (from + j) 0) e ∙ below_paste d at (part d from to) j (from + j) (omega arith) (omega arith) in
    ap (λ (n : ℕ). set b (at + j) n) v
    ∙ ap (λ (x : List ℕ). set x (at + j) (get_or d (from + j) 0)) e
    ∙ copy_step d d from to at j h (omega arith) r l
