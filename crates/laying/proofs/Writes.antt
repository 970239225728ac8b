-- Two puts into one span, one behind the other, are one; and how long a text with its zero byte is.
use Prim.Native.Nat.{ℕ, ◌+◌, ◌-◌, ◌*◌, ◌<◌, ◌≤◌}
use mathlib.Core.Path.{◌≡◌, refl, ap, ◌∙◌}
use mathlib.Core.List.{List, [], ◌∷◌, ◌++◌}
use native.Mathlib.Omega.{arith}
use lib.ListN.{length, get_or, set, length-append, length-set}
use lib.Seq.{get_or-set_same}
use Rattle.std.proofs.lemmas.List.{set-set}
use Rattle.base.specs.Choice.{pick}
use Rattle.base.specs.Memory.{written, part}
use Rattle.base.proofs.Memory.{length_part, length_written, written_next}
use Rattle.block.specs.Block.{end_of}
use Rattle.laying.specs.declared.Pass.{Pass}
use Rattle.laying.specs.declared.Pass.TheVariants.{Total, Sizes, Fill}
use Rattle.laying.specs.Puts.{put}
use Rattle.laying.specs.Passes.{counts, fills, moved, World, world, step_of, Room}

length_moved : (d : List ℕ) (k n : ℕ) → length (moved d k n) ≡ length d
unfolding moved
length_moved d k n = length-set d (2 * k + 1) (end_of d k + n)

module _ (d : List ℕ) (k : ℕ) (h : 2 * k + 1 < length d) where
  end_moved : (n : ℕ) → end_of (moved d k n) k ≡ end_of d k + n
  unfolding moved end_of
  end_moved n = get_or-set_same d (2 * k + 1) (get_or d (2 * k + 1) 0 + n) 0 h

  moved_twice : (n m : ℕ) → moved (moved d k n) k m ≡ moved d k (n + m)
  unfolding moved
  moved_twice n m =
      set-set d (2 * k + 1) (end_of d k + n) (end_of (moved d k n) k + m)
      ∙ ap (set d (2 * k + 1)) (omega (arith, end_moved n))

pub room_next : (pass : Pass) (k n : ℕ) (xs : List ℕ) (w : World) → Room pass k (length xs + n) w → Room pass k n (step_of pass (put k xs) w)
unfolding step_of counts fills pick
room_next Total k n xs w r = record { inside = r.inside; table = r.table; sum = omega (arith, r.sum); count = λ e. omega (arith, r.count e); place = λ e. omega (arith, r.place e) }
room_next Sizes k n xs w r =
    let h : 2 * k + 1 < length w.dir = omega (arith, r.inside, r.table) in
    record {
      inside = r.inside;
      table = length_moved w.dir k (length xs) ∙ r.table;
      sum = omega (arith, r.sum);
      count = λ e. omega (arith, r.count e, end_moved w.dir k h (length xs));
      place = λ e. omega (arith, r.place e, end_moved w.dir k h (length xs));
    }
room_next Fill k n xs w r =
    let h : 2 * k + 1 < length w.dir = omega (arith, r.inside, r.table) in
    let p : end_of w.dir k + (length xs + n) ≤ length w.bytes = r.place refl in
    record {
      inside = r.inside;
      table = length_moved w.dir k (length xs) ∙ r.table;
      sum = omega (arith, r.sum);
      count = λ e. omega (arith, r.count e, end_moved w.dir k h (length xs));
      place = λ e. omega (arith, end_moved w.dir k h (length xs), length_written w.bytes (end_of w.dir k) xs (omega arith));
    }

pub step_next : (pass : Pass) (k : ℕ) (xs ys : List ℕ) (w : World) → Room pass k (length xs + length ys) w
    → step_of pass (put k ys) (step_of pass (put k xs) w) ≡ step_of pass (put k (xs ++ ys)) w
unfolding step_of counts fills pick
step_next Total k xs ys w r = ap (λ (t : ℕ). world t w.dir w.bytes) (omega (arith, length-append xs ys))
step_next Sizes k xs ys w r =
    let h : 2 * k + 1 < length w.dir = omega (arith, r.inside, r.table) in
    rw (moved_twice w.dir k h, length-append) (ap (λ (t : ℕ). world t (moved w.dir k (length xs + length ys)) w.bytes) (omega arith))
step_next Fill k xs ys w r =
    let h : 2 * k + 1 < length w.dir = omega (arith, r.inside, r.table) in
    let p : end_of w.dir k + (length xs + length ys) ≤ length w.bytes = r.place refl in
    rw (moved_twice w.dir k h, end_moved w.dir k h, length-append, written_next w.bytes (end_of w.dir k) xs ys (omega arith))
    (ap (λ (t : ℕ). world t (moved w.dir k (length xs + length ys)) (written w.bytes (end_of w.dir k) (xs ++ ys))) (omega arith))

pub length_text_law : (s : List ℕ) (from to : ℕ) → from ≤ to → to ≤ length s → length (part s from to ++ 0 ∷ []) ≡ to - from + 1
length_text_law s from to h k = length-append (part s from to) (0 ∷ []) ∙ ap (λ (n : ℕ). n + 1) (length_part s from to h k)
