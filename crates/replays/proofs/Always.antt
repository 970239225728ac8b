-- A table is sound at its start, and after every step. These laws stand above the code of a step, so that an altered step is refused by that code and not by them.
use Prim.Native.Nat.{ℕ, zero, suc, ◌+◌, ◌-◌, ◌*◌, ◌/◌, ◌≤◌, ◌<◌}
use mathlib.Core.Path.{◌≡◌, refl, sym, ap, subst, ◌∙◌}
use mathlib.Core.Logic.{◌≢◌, ⊎_elim}
use mathlib.Core.List.{List, [], ◌∷◌}
use native.Mathlib.Omega.{arith}
use native.Mathlib.Nat.{eq-or-lt_of_le}
use lib.ListN.{length, get_or, set, replicate, length-set, length-replicate}
use lib.Seq.{get_or-set_other}
use lib.Dec.{ltb, eqb}
use borrow.Author.Tests.{eq-eqb, ne_eqb, lt-ltb, le-ltb, ltb-true, ltb-false, eqb-false}
use Rattle.base.specs.Choice.{pick}
use Rattle.base.specs.Every.{numbers}
use Rattle.base.proofs.Choice.{pick_true, pick_false, pick_holds, pick_either, both_true, by_test}
use Rattle.base.proofs.Every.{numbers_length}
use Rattle.base.proofs.Numbers.{by_order}
use Rattle.model.specs.declared.Model.{Model}
use Rattle.model.specs.Model.{model, growth, most, places, started, place_of, sum_of, sum, halves, grown, halved, settled, swapped, exceeds, raised, step_at}
use Rattle.model.specs.Sound.{Table, Sound, is, times, beyond, outside}
use Rattle.refusals.specs.declared.Refusal.TheVariants.{Plain}
use Rattle.refusals.specs.declared.Reason.TheVariants.{BadSymbol}
use Rattle.std.specs.Prelude.{⊤, Result, Ok, Err}
use Rattle.refusals.specs.declared.Refusal.{Refusal}
use Rattle.replays.specs.Replays.{Replaying, replaying, turn_of}
use Rattle.model.proofs.Laws.{halves_length, swapped_is, exceeds_is}
use Rattle.model.proofs.Sums.{sum_set}

pub is_same : (s x : ℕ) → x ≡ s → is s x ≡ 1
unfolding is
is_same s x e = pick_true {A = ℕ} 1 0 (eq-eqb x s e)

pub is_other : (s x : ℕ) → x ≢ s → is s x ≡ 0
unfolding is
is_other s x e = pick_false {A = ℕ} 1 0 (ne_eqb x s e)

pub beyond_not : (n x : ℕ) → x < n → beyond n x ≡ 0
unfolding beyond
beyond_not n x h = pick_true {A = ℕ} 0 1 (lt-ltb x n h)

pub beyond_it : (n x : ℕ) → n ≤ x → beyond n x ≡ 1
unfolding beyond
beyond_it n x h = pick_false {A = ℕ} 0 1 (le-ltb x n h)

-- ---- where two numbers change places

module _ (worth : ℕ → ℕ) where
  pub sum_swapped : (l : List ℕ) (x : ℕ) → 0 < x → x < length l → sum_of worth (swapped l x) ≡ sum_of worth l
  sum_swapped l x p h =
      let y : ℕ = x - 1 in
      let a : ℕ = get_or l y 0 in
      let b : ℕ = get_or l x 0 in
      let other : y ≢ x = λ e. omega arith in
      let e : get_or (set l x a) y 0 ≡ a = get_or-set_other l x y a 0 other in
      let k : y < length (set l x a) = omega (arith, length-set l x a) in
      omega (arith, sum_set worth l x a h, sum_set worth (set l x a) y b k, ap worth e, ap (sum_of worth) (swapped_is l x))

-- ---- the start

ones_sum : (worth : ℕ → ℕ) (n : ℕ) → sum_of worth (replicate n 1) ≡ n * worth 1
unfolding sum_of
ones_sum worth zero = omega arith
ones_sum worth (suc n) = omega (arith, ones_sum worth n)

-- numbers that are worth nothing
nothing : (worth : ℕ → ℕ) (n i : ℕ) → ((j : ℕ) → i ≤ j → j < i + n → worth j ≡ 0) → sum_of worth (numbers i n) ≡ 0
unfolding sum_of numbers
nothing worth zero i f = refl
nothing worth (suc n) i f = omega (arith, f i (omega arith) (omega arith), nothing worth n (i + 1) (λ j h k. f j (omega arith) (omega arith)))

numbers_once : (n i s : ℕ) → i ≤ s → s < i + n → times s (numbers i n) ≡ 1
unfolding sum_of numbers
numbers_once zero i s h k = absurd (omega arith)
numbers_once (suc n) i s h k =
    ⊎_elim
    (λ (e : i ≡ s). omega (arith, is_same s i e, nothing (is s) n (i + 1) (λ j p q. is_other s j (λ w. omega arith))))
    (λ (l : i < s). omega (arith, is_other s i (λ w. omega arith), numbers_once n (i + 1) s (omega arith) (omega arith)))
    (eq-or-lt_of_le h)

pub sound_started : (n : ℕ) → n ≤ places → Sound n (started n)
unfolding started
sound_started n h =
    record {
      table = record {
        placed = numbers_length n 0;
        paired = length-replicate {A = ℕ} n 1;
        once = λ s k. numbers_once n 0 s (omega arith) (omega arith);
        no_other = nothing (beyond n) n 0 (λ j p q. beyond_not n j (omega arith));
        no_zero = ones_sum (is 0) n ∙ ap (λ (w : ℕ). n * w) (is_other 0 1 (λ e. omega arith)) ∙ omega arith;
        summed = sym (ones_sum (λ x. x) n ∙ omega arith);
      };
      sized = h;
      at_most = omega arith;
    }

-- ---- one step

module _ (n x : ℕ) (m : Model) (t : Table n m) (h : x < n) where
  in_frequencies : x < length m.frequencies
  in_frequencies = omega (arith, t.paired)

  grown_table : Table n (grown m x)
  unfolding grown
  grown_table =
      let f = m.frequencies in
      let v : ℕ = get_or f x 0 + growth in
      let zero-not : is 0 v ≡ 0 = is_other 0 v (λ e. omega arith) in
      record {
        placed = t.placed;
        paired = length-set f x v ∙ t.paired;
        once = t.once;
        no_other = t.no_other;
        no_zero = omega (arith, sum_set (is 0) f x v in_frequencies, zero-not, t.no_zero);
        summed = omega (arith, sum_set (λ y. y) f x v in_frequencies, t.summed);
      }

  -- what a move leaves of either list
  swapped_length : (l : List ℕ) → length (swapped l x) ≡ length l
  swapped_length l = ap length (swapped_is l x) ∙ length-set (set l x (get_or l (x - 1) 0)) (x - 1) (get_or l x 0) ∙ length-set l x (get_or l (x - 1) 0)

  moved_table : 0 < x → Table n (model (swapped m.symbols x) (swapped m.frequencies x) m.total)
  moved_table p =
      let f = m.frequencies in
      let s = m.symbols in
      let k : x < length s = omega (arith, t.placed) in
      record {
        placed = swapped_length s ∙ t.placed;
        paired = swapped_length f ∙ t.paired;
        once = λ a q. sum_swapped (is a) s x p k ∙ t.once a q;
        no_other = sum_swapped (beyond n) s x p k ∙ t.no_other;
        no_zero = sum_swapped (is 0) f x p in_frequencies ∙ t.no_zero;
        summed = t.summed ∙ sym (sum_swapped (λ y. y) f x p in_frequencies);
      }

  raised_table : Table n (raised m x)
  unfolding raised
  raised_table =
      pick_holds (Table n) (exceeds m.frequencies x) (model (swapped m.symbols x) (swapped m.frequencies x) m.total) m
      (λ e. moved_table (ltb-true 0 x (both_true (ltb 0 x) (ltb (get_or m.frequencies (x - 1) 0) (get_or m.frequencies x 0)) (sym (exceeds_is m.frequencies x) ∙ e)).0))
      (λ e. t)

-- a frequency that isn't 0 stays so
halves_zero : (l : List ℕ) → times 0 (halves l) ≡ times 0 l
unfolding sum_of halves
halves_zero [] = refl
halves_zero (f ∷ l) =
    let less : ℕ = f - f / 2 in
    let same : is 0 less ≡ is 0 f =
    by_order 0 f
    (λ (p : 0 < f). is_other 0 less (λ e. omega arith) ∙ sym (is_other 0 f (λ e. omega arith)))
    (λ (p : f ≤ 0). is_same 0 less (omega arith) ∙ sym (is_same 0 f (omega arith))) in
    omega (arith, same, halves_zero l)

-- halved, all together are at most half of the sum and of how many they are
pub halves_most : (l : List ℕ) → 2 * sum (halves l) ≤ sum l + length l
unfolding sum_of halves
halves_most [] = omega arith
halves_most (f ∷ l) = omega (arith, halves_most l)

halved_table : (n : ℕ) (m : Model) → Table n m → Table n (halved m)
unfolding halved
halved_table n m t =
    record {
      placed = t.placed;
      paired = halves_length m.frequencies ∙ t.paired;
      once = t.once;
      no_other = t.no_other;
      no_zero = halves_zero m.frequencies ∙ t.no_zero;
      summed = refl;
    }

-- a total of at most 65,512 is at most 65,504 afterwards
settled_sound : (n : ℕ) (m : Model) → Table n m → n ≤ places → m.total ≤ most + growth → Sound n (settled m)
unfolding settled halved
settled_sound n m t h k =
    pick_holds (Sound n) (ltb most m.total) (halved m) m
    (λ e. record { table = halved_table n m t; sized = h; at_most = omega (arith, halves_most m.frequencies, t.summed, t.paired) })
    (λ e. record { table = t; sized = h; at_most = ltb-false most m.total e })

grows : (m : Model) (x : ℕ) → m.total ≤ most → (grown m x).total ≤ most + growth
unfolding grown
grows m x h = omega arith

raised_total : (m : Model) (x : ℕ) → (raised m x).total ≡ m.total
unfolding raised
raised_total m x = pick_either (λ (r : Model). r.total ≡ m.total) (exceeds m.frequencies x) (model (swapped m.symbols x) (swapped m.frequencies x) m.total) m refl refl

pub sound_step : (n : ℕ) (m : Model) → Sound n m → (x : ℕ) → x < n → Sound n (step_at m x)
unfolding step_at
sound_step n m s x h =
    let g : Sound n (settled (grown m x)) = settled_sound n (grown m x) (grown_table n x m s.table h) s.sized (grows m x s.at_most) in
    let total-same : (raised (settled (grown m x)) x).total ≡ (settled (grown m x)).total = raised_total (settled (grown m x)) x in
    record { table = raised_table n x (settled (grown m x)) g.table h; sized = s.sized; at_most = omega (arith, total-same, g.at_most) }

-- a table has as many symbols as its list
pub by_length : (n : ℕ) (m : Model) → Sound n m → Sound (length m.symbols) m
by_length n m g = subst (λ (k : ℕ). Sound k m) (sym g.table.placed) g

-- one symbol, whether it stands in the table or not
pub sound_turn : (n : ℕ) (m : Model) → Sound n m → (s : ℕ) → Sound n (turn_of m s).model
unfolding turn_of
sound_turn n m t s =
    pick_holds (λ (r : Replaying). Sound n r.model) (ltb (place_of m.symbols s) (length m.symbols)) (replaying (Ok tt) (step_at m (place_of m.symbols s))) (replaying (Err (Plain BadSymbol)) m)
    (λ e. sound_step n m t (place_of m.symbols s) (omega (arith, ltb-true (place_of m.symbols s) (length m.symbols) e, t.table.placed)))
    (λ e. t)

pub sound_after : (n : ℕ) (m : Model) → Sound n m → (s : ℕ) (a : Result ⊤ Refusal) (t : Model) → replaying a t ≡ turn_of m s → Sound n t
sound_after n m g s a t e = subst (Sound n) (ap (λ (r : Replaying). r.model) (sym e)) (sound_turn n m g s)

-- ---- the place of a symbol

-- a symbol that stands in a list has a place there
pub place_within : (l : List ℕ) (s : ℕ) → 0 < times s l → place_of l s < length l
unfolding place_of sum_of pick
place_within [] s h = absurd (omega arith)
place_within (x ∷ l) s h =
    by_test (eqb x s)
    (λ e. rw e (omega arith))
    (λ e. rw e (omega (arith, place_within l s (omega (arith, is_other s x (eqb-false x s e))))))

-- and one that stands in it nowhere has none
pub place_outside : (n : ℕ) (l : List ℕ) (s : ℕ) → outside n l ≡ 0 → n ≤ s → length l ≤ place_of l s
unfolding place_of sum_of pick
place_outside n [] s e h = omega arith
place_outside n (x ∷ l) s e h =
    by_order x n
    (λ (k : x < n). rw (ne_eqb x s (λ w. omega arith)) (omega (arith, place_outside n l s (omega arith) h)))
    (λ (k : n ≤ x). absurd (omega (arith, beyond_it n x k)))
