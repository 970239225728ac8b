-- Laws of a replay: a turn of its loop, and its ends.
use Prim.Native.Nat.{ℕ, suc, ◌+◌, ◌≤◌, ◌<◌}
use mathlib.Core.Path.{◌≡◌, refl, sym, ap, ap₂, ◌∙◌}
use mathlib.Core.List.{List, [], ◌∷◌, ◌++◌}
use native.Mathlib.Omega.{arith}
use native.Mathlib.Numerals.{add-one}
use lib.ListN.{length, get_or, drop, take, drop_of_length-le}
use lib.Seq.{drop-cons}
use lib.Dec.{ltb, leb}
use borrow.Author.Tests.{lt-ltb, le-ltb, le-leb, lt-leb}
use Rattle.base.specs.Memory.{written}
use Rattle.base.proofs.Choice.{took, left, both_of, both_left, both_right}
use Rattle.refusals.specs.declared.Refusal.{Refusal}
use Rattle.refusals.specs.declared.Refusal.TheVariants.{Plain}
use Rattle.refusals.specs.declared.Reason.TheVariants.{BadSize, BadSymbol}
use Rattle.model.specs.declared.Model.{Model}
use Rattle.model.specs.Model.{model, places, started, place_of, step_at}
use Rattle.model.specs.Sound.{Sound}
use Rattle.std.specs.Prelude.{⊤, Result, Ok, Err}
use Rattle.replays.specs.Replays.{Replaying, replaying, turn_of, onward, replay_from, replay_fresh, with_table, in_place, table_in, step_of, is_size, replay_of}
use Rattle.replays.proofs.Always.{by_length}

pub replay_none : (m : Model) → replaying (Ok tt) m ≡ replay_from m []
unfolding replay_from
replay_none m = refl

-- ---- one symbol

module _ (m : Model) (s : ℕ) where
  pub turn_stops : length m.symbols ≤ place_of m.symbols s → replaying (Err (Plain BadSymbol)) m ≡ turn_of m s
  unfolding turn_of
  turn_stops h = left (replaying (Ok tt) (step_at m (place_of m.symbols s))) _ (le-ltb (place_of m.symbols s) (length m.symbols) h) refl

  pub turn_steps : (x : ℕ) → x ≡ place_of m.symbols s → x < length m.symbols → (t : Model) → t ≡ step_at m x → replaying (Ok tt) t ≡ turn_of m s
  unfolding turn_of
  turn_steps x e h t k =
      took _ (replaying (Err (Plain BadSymbol)) m) (ap (λ (y : ℕ). ltb y (length m.symbols)) (sym e) ∙ lt-ltb x (length m.symbols) h) (ap (replaying (Ok tt)) (k ∙ ap (step_at m) e))

  -- a turn, then the rest
  module _ (rest : List ℕ) where
    abbrev then : Replaying → Replaying
    then r = onward r.answer r.model (λ (x : Model). replay_from x rest)

    pub more : (a : Result ⊤ Refusal) (t : Model) → a ≡ Ok tt → replaying a t ≡ turn_of m s → replay_from t rest ≡ replay_from m (s ∷ rest)
    unfolding onward replay_from
    more a t g e = ap (λ (x : Result ⊤ Refusal). then (replaying x t)) (sym g) ∙ ap then e

    pub no_more : (a : Result ⊤ Refusal) (t : Model) (c : Refusal) → a ≡ Err c → replaying a t ≡ turn_of m s → replaying a t ≡ replay_from m (s ∷ rest)
    unfolding onward replay_from
    no_more a t c g e = ap (λ (x : Result ⊤ Refusal). replaying x t) g ∙ ap (λ (x : Result ⊤ Refusal). then (replaying x t)) (sym g) ∙ ap then e

    pub stops_at : length m.symbols ≤ place_of m.symbols s → replaying (Err (Plain BadSymbol)) m ≡ replay_from m (s ∷ rest)
    stops_at h = no_more (Err (Plain BadSymbol)) m (Plain BadSymbol) refl (turn_stops h)

    pub steps_by : place_of m.symbols s < length m.symbols → replay_from (step_at m (place_of m.symbols s)) rest ≡ replay_from m (s ∷ rest)
    steps_by h = more (Ok tt) (step_at m (place_of m.symbols s)) refl (turn_steps (place_of m.symbols s) refl h (step_at m (place_of m.symbols s)) refl)

-- ---- a turn of the loop, and its ends

module _ (m : Model) (trace : List ℕ) (i : ℕ) where
  -- the trace is at its end
  pub replay_ends : length trace ≤ i → replaying (Ok tt) m ≡ replay_from m (drop i trace)
  unfolding replay_from
  replay_ends h = rw (drop_of_length-le trace h)

  module _ (h : i < length trace) (a : Result ⊤ Refusal) (t : Model) (e : replaying a t ≡ turn_of m (get_or trace i 0)) where
    -- the next symbol is refused
    pub replay_stops : (c : Refusal) → a ≡ Err c → replaying a t ≡ replay_from m (drop i trace)
    replay_stops c g = no_more m (get_or trace i 0) (drop (suc i) trace) a t c g e ∙ ap (replay_from m) (sym (drop-cons trace i 0 h))

    -- or the trace goes on from what it leaves
    pub replay_steps : a ≡ Ok tt → replay_from t (drop (i + 1) trace) ≡ replay_from m (drop i trace)
    replay_steps g =
        ap (λ (l : ℕ). replay_from t (drop l trace)) (add-one i)
        ∙ more m (get_or trace i 0) (drop (suc i) trace) a t g e
        ∙ ap (replay_from m) (sym (drop-cons trace i 0 h))

-- a table lent as the first places of a record comes back in them
back_in_place : (d s : List ℕ) (n : ℕ) → length s ≡ n → s ++ drop n d ≡ written d 0 s
unfolding written
back_in_place d s n e = let k : n ≡ 0 + length s = omega arith in ap (λ (j : ℕ). s ++ drop j d) k

pub in_place_law : (m : Model) (a : Result ⊤ Refusal) (s f : List ℕ) (t n : ℕ) (r : Replaying) → replaying a (model s f t) ≡ r → length s ≡ n → length f ≡ n
    → replaying a (model (s ++ drop n m.symbols) (f ++ drop n m.frequencies) t) ≡ in_place m r
unfolding with_table in_place
in_place_law m a s f t n r e p q =
    ap₂ (λ (x y : List ℕ). replaying a (model x y t)) (back_in_place m.symbols s n p) (back_in_place m.frequencies f n q)
    ∙ ap (in_place m) e

-- a table that stands in the first places of a record is lent
pub first_sound : (n : ℕ) (s f : List ℕ) (t : ℕ) → Sound n (table_in n (model s f t)) → Sound (length (take n s)) (model (take n s) (take n f) t)
unfolding table_in
first_sound n s f t g = by_length n (model (take n s) (take n f) t) g

-- and comes back, with one symbol's turn
pub steps_in_place : (n y : ℕ) (m : Model) (a : Result ⊤ Refusal) (s f : List ℕ) (t : ℕ) → replaying a (model s f t) ≡ turn_of (model (take n m.symbols) (take n m.frequencies) m.total) y
    → length s ≡ n → length f ≡ n → replaying a (model (s ++ drop n m.symbols) (f ++ drop n m.frequencies) t) ≡ step_of n y m
unfolding table_in step_of
steps_in_place n y m a s f t e p q = in_place_law m a s f t n _ e p q

pub fresh_is : (n : ℕ) (trace : List ℕ) → replay_fresh n trace ≡ replay_from (started n) trace
unfolding replay_fresh
fresh_is n trace = cc

module _ (n : ℕ) (trace : List ℕ) (m : Model) where
  pub none_sized : n ≡ 0 → replaying (Err (Plain BadSize)) m ≡ replay_of n trace m
  unfolding replay_of is_size
  none_sized h = left _ _ (both_left (leb n places) (lt-leb 1 n (omega arith))) refl

  pub over_sized : 0 < n → places < n → replaying (Err (Plain BadSize)) m ≡ replay_of n trace m
  unfolding replay_of is_size
  over_sized p h = left _ _ (both_right (le-leb 1 n p) (lt-leb n places h)) refl

  pub well_sized : 0 < n → n ≤ places → in_place m (replay_fresh n trace) ≡ replay_of n trace m
  unfolding replay_of is_size
  well_sized p h = took _ _ (both_of (le-leb 1 n p) (le-leb n places h)) cc

  -- a table lent as the first places of a record, started and taken through the trace, comes back in them
  pub replay_left : (a : Result ⊤ Refusal) (s f : List ℕ) (t : ℕ) → 0 < n → n ≤ places → replaying a (model s f t) ≡ replay_fresh n trace → length s ≡ n → length f ≡ n
      → replaying a (model (s ++ drop n m.symbols) (f ++ drop n m.frequencies) t) ≡ replay_of n trace m
  replay_left a s f t h k e p q = in_place_law m a s f t n _ e p q ∙ well_sized h k
