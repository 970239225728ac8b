-- Laws of a loop that writes a whole list, element after element: of a list as long as it, so many are in their places.
use Prim.Native.Nat.{ℕ, ◌+◌, ◌≤◌, ◌<◌}
use mathlib.Core.Path.{◌≡◌, sym, ap, subst, ◌∙◌}
use mathlib.Core.List.{List, append-nil}
use native.Mathlib.Omega.{arith}
use native.Mathlib.Nat.{zero-add}
use lib.ListN.{length, get_or, set, drop, drop_of_length-le}
use lib.Seq.{paste, drop-paste, get_or-drop}
use Rattle.base.specs.Memory.{written, part}
use Rattle.base.proofs.Memory.{pasted, copy_step}
use Rattle.base.proofs.Lists.{part_all}

module _ (d s : List ℕ) (e : length s ≡ length d) where
  -- what isn't written yet is as it was
  pub fill_read : (i : ℕ) → i ≤ length d → get_or (paste d 0 s i) i 0 ≡ get_or d i 0
  fill_read i h =
      let at-0 : (l : List ℕ) → get_or (drop (0 + i) l) 0 0 ≡ get_or l i 0 = λ l. get_or-drop (0 + i) l 0 0 ∙ ap (λ (j : ℕ). get_or l j 0) (omega arith) in
      sym (at-0 (paste d 0 s i))
      ∙ ap (λ (l : List ℕ). get_or l 0 0) (drop-paste d 0 s i (omega arith) (omega (arith, e)))
      ∙ at-0 d

  -- a turn is one of the loop that copies all of s
  pub fill_turn : (i v : ℕ) → i < length d → v ≡ get_or s i 0 → set (paste d 0 s i) i v ≡ paste d 0 s (i + 1)
  fill_turn i v h q =
      let all : List ℕ = part s 0 (length s) in
      subst (λ (p : List ℕ). set (paste d 0 p i) i v ≡ paste d 0 p (i + 1)) (part_all s)
      (ap (λ (w : ℕ). set (paste d 0 all i) i w) q
      ∙ ap (λ (j : ℕ). set (paste d 0 all i) j (get_or s j 0)) (sym (zero-add i))
      ∙ copy_step s d 0 (length s) 0 i (omega arith) (omega arith) (omega (arith, e)) (omega (arith, e)))

  -- what is written over all of a list is all there is
  pub fill_done : (i : ℕ) → i ≡ length d → paste d 0 s i ≡ s
  unfolding written
  fill_done i q =
      let none : length d ≤ 0 + length s = omega (arith, e) in
      pasted d 0 s i (q ∙ sym e) ∙ rw (drop_of_length-le d none) (append-nil s)
