-- Laws of `every` and `each`: what they tell of each number, and a turn of a loop.
use Prim.Native.Nat.{ℕ, zero, suc, ◌+◌, ◌≤◌, ◌<◌}
use mathlib.Core.Path.{◌≡◌, refl, sym, ap, ◌∙◌}
use mathlib.Core.Bool.{Bool, true}
use mathlib.Core.List.{List, [], ◌∷◌, ◌++◌}
use mathlib.Core.Logic.{⊎_elim}
use native.Mathlib.Omega.{arith}
use native.Mathlib.Nat.{eq-or-lt_of_le}
use lib.ListN.{length, get_or}
use Rattle.base.specs.Choice.{pick, both}
use Rattle.base.specs.Memory.{part}
use Rattle.base.proofs.Choice.{both_true, both_of, both_all, both_both}
use Rattle.base.specs.Every.{every, numbers, each}
use Rattle.base.proofs.Lists.{part_first}

module _ (test : ℕ → Bool) where
  pub every_none : every test [] ≡ true
  unfolding every
  every_none = refl

  pub every_more : (b : ℕ) (l : List ℕ) → every test (b ∷ l) ≡ both (test b) (every test l)
  unfolding every
  every_more b l = refl

  pub every_one : (b : ℕ) → every test (b ∷ []) ≡ test b
  unfolding every
  every_one b = both_all (test b)

  pub every_append : (l m : List ℕ) → every test (l ++ m) ≡ both (every test l) (every test m)
  unfolding every pick
  every_append [] m = refl
  every_append (b ∷ l) m = ap (both (test b)) (every_append l m) ∙ sym (both_both (test b) (every test l) (every test m))

  -- at each place, from the whole
  pub every_at : (l : List ℕ) → every test l ≡ true → (i : ℕ) → i < length l → test (get_or l i 0) ≡ true
  unfolding every
  every_at [] e i h = absurd (omega arith)
  every_at (b ∷ l) e zero h = (both_true (test b) (every test l) e).0
  every_at (b ∷ l) e (suc i) h = every_at l (both_true (test b) (every test l) e).1 i (omega arith)

  -- the whole, from each place
  pub every_of : (l : List ℕ) → ((i : ℕ) → i < length l → test (get_or l i 0) ≡ true) → every test l ≡ true
  unfolding every
  every_of [] f = refl
  every_of (b ∷ l) f = both_of (f 0 (omega arith)) (every_of l (λ i h. f (suc i) (omega arith)))

  -- a turn of a loop over a part
  pub every_part : (s : List ℕ) (from to : ℕ) → from < to → to ≤ length s → every test (part s from to) ≡ both (test (get_or s from 0)) (every test (part s (from + 1) to))
  every_part s from to h k = ap (every test) (part_first s from to h k) ∙ every_more (get_or s from 0) (part s (from + 1) to)

-- a weaker test passes too
pub every_weaker : (test other : ℕ → Bool) → ((b : ℕ) → test b ≡ true → other b ≡ true) → (l : List ℕ) → every test l ≡ true → every other l ≡ true
every_weaker test other f l e = every_of other l (λ i h. f (get_or l i 0) (every_at test l e i h))

-- each of so many numbers
pub every_each : (f : ℕ → Bool) (n i j : ℕ) → each f i n ≡ true → i ≤ j → j < i + n → f j ≡ true
unfolding every numbers
every_each f zero i j t h k = absurd (omega arith)
every_each f (suc n) i j t h k =
    let b = both_true (f i) (each f (i + 1) n) t in
    ⊎_elim (λ (w : i ≡ j). rw w at b.0) (λ (w : i < j). every_each f n (i + 1) j b.1 (omega arith) (omega arith)) (eq-or-lt_of_le h)

pub each_every : (f : ℕ → Bool) (n i : ℕ) → ((j : ℕ) → i ≤ j → j < i + n → f j ≡ true) → each f i n ≡ true
unfolding every numbers
each_every f zero i t = refl
each_every f (suc n) i t = both_of (t i (omega arith) (omega arith)) (each_every f n (i + 1) (λ j h k. t j (omega arith) (omega arith)))

pub every_same : (f g : ℕ → Bool) (n i : ℕ) → ((j : ℕ) → i ≤ j → j < i + n → f j ≡ g j) → each f i n ≡ each g i n
unfolding every numbers
every_same f g zero i t = refl
every_same f g (suc n) i t = rw (t i (omega arith) (omega arith), every_same f g n (i + 1) (λ j h k. t j (omega arith) (omega arith)))

-- so many numbers, by their places
pub numbers_length : (n i : ℕ) → length (numbers i n) ≡ n
unfolding numbers
numbers_length zero i = refl
numbers_length (suc n) i = ap suc (numbers_length n (i + 1))

pub numbers_at : (n i j : ℕ) → j < n → get_or (numbers i n) j 0 ≡ i + j
unfolding numbers
numbers_at zero i j h = absurd (omega arith)
numbers_at (suc n) i zero h = omega arith
numbers_at (suc n) i (suc j) h = numbers_at n (i + 1) j (omega arith) ∙ omega arith

-- the loop carries "so far and the rest from here is the whole"
module _ (f : ℕ → Bool) (i n : ℕ) (ok all : Bool) (inv : both ok (each f i n) ≡ all) where
  pub every_turn : {next : Bool} (m : ℕ) → n ≡ suc m → next ≡ both ok (f i) → both next (each f (i + 1) m) ≡ all
  unfolding every numbers
  every_turn m e q = ap (λ (b : Bool). both b (each f (i + 1) m)) q ∙ both_both ok (f i) (each f (i + 1) m) ∙ (rw e at inv)

  pub every_done : n ≡ 0 → ok ≡ all
  unfolding every numbers
  every_done e = sym (both_all ok) ∙ (rw e at inv)
