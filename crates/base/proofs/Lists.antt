-- Laws of lists, parts and writes that loops want.
use Prim.Native.Nat.{ℕ, suc, ◌+◌, ◌-◌, ◌≤◌, ◌<◌}
use mathlib.Core.Path.{◌≡◌, refl, sym, ap, ◌∙◌}
use mathlib.Core.List.{List, [], ◌∷◌, ◌++◌, append_assoc}
use native.Mathlib.Omega.{arith}
use native.Mathlib.Numerals.{add-one}
use lib.ListN.{length, get_or, take, drop, set, length-append, length-drop}
use lib.Seq.{drop_at, take_at, take-suc, take_all, take-add, drop-cons, get_or-drop, drop-drop}
use Rattle.base.specs.Memory.{written, part}
use Rattle.base.proofs.Memory.{one_written, written_next}

-- a write whose first element is set beforehand
pub written_first : (d : List ℕ) (at b : ℕ) (s : List ℕ) → at + 1 ≤ length d → written (set d at b) (at + 1) s ≡ written d at (b ∷ s)
written_first d at b s h = ap (λ (l : List ℕ). written l (at + 1) s) (one_written d at b h) ∙ written_next d at (b ∷ []) s h

pub part_first : (s : List ℕ) (from to : ℕ) → from < to → to ≤ length s → part s from to ≡ get_or s from 0 ∷ part s (from + 1) to
unfolding part
part_first s from to h k =
    let e : to - from ≡ suc (to - (from + 1)) = omega arith in
    let l : from < length s = omega arith in
    rw (e, drop-cons s from 0 l, add-one)

pub part_none : (s : List ℕ) (from to : ℕ) → to ≤ from → part s from to ≡ []
unfolding part
part_none s from to h = let e : to - from ≡ 0 = omega arith in rw e

-- with one element more
pub part_last : (s : List ℕ) (from i : ℕ) → from ≤ i → i < length s → part s from (i + 1) ≡ part s from i ++ get_or s i 0 ∷ []
unfolding part
part_last s from i h k =
    let m : i + 1 - from ≡ suc (i - from) = omega arith in
    let n : from + (i - from) ≡ i = omega arith in
    ap (λ (j : ℕ). take j (drop from s)) m
    ∙ take-suc (drop from s) (i - from) 0 (omega (arith, length-drop from s))
    ∙ ap (λ (b : ℕ). take (i - from) (drop from s) ++ b ∷ []) (get_or-drop from s (i - from) 0 ∙ ap (λ (j : ℕ). get_or s j 0) n)

-- a part and the one behind it
pub part_next : (l : List ℕ) (a n m : ℕ) → part l a (a + n) ++ part l (a + n) (a + n + m) ≡ part l a (a + (n + m))
unfolding part
part_next l a n m =
    let x : a + n - a ≡ n = omega arith in
    let y : a + n + m - (a + n) ≡ m = omega arith in
    let z : a + (n + m) - a ≡ n + m = omega arith in
    rw (x, y, z, ← drop-drop n a l) (sym (take-add n m (drop a l)))

pub part_all : (s : List ℕ) → part s 0 (length s) ≡ s
unfolding part
part_all s = take_all (length s - 0) s (omega arith)

pub take_part : (s : List ℕ) (a c : ℕ) → a ≤ c → take a s ++ part s a c ≡ take c s
unfolding part
take_part s a c h = let e : a + (c - a) ≡ c = omega arith in sym (ap (λ (n : ℕ). take n s) (sym e) ∙ take-add a (c - a) s)

-- a write in the middle
pub written_mid : (p x r s : List ℕ) (at : ℕ) → length p ≡ at → length x ≡ length s → written (p ++ x ++ r) at s ≡ p ++ s ++ r
unfolding written
written_mid p x r s at e f =
    let l : List ℕ = p ++ x ++ r in
    let a : l ≡ p ++ (x ++ r) = append_assoc p x r in
    ap (λ (t : List ℕ). t ++ s ++ drop (at + length s) l) (ap (take at) a ∙ take_at p (x ++ r) at e)
    ∙ ap (λ (t : List ℕ). p ++ s ++ t) (drop_at (p ++ x) r (at + length s) (length-append p x ∙ omega arith))

pub none_long : (l : List ℕ) → length l ≡ 0 → l ≡ []
none_long [] e = refl
none_long (x ∷ l) e = absurd (omega arith)
