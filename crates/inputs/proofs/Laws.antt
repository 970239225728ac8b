-- What is known of the names of an input: byte by byte, and name by name.
use Prim.Native.Nat.{ℕ, zero, suc, ◌+◌, ◌-◌, ◌≤◌, ◌<◌}
use Rattle.std.specs.Prelude.{Some, None}
use mathlib.Core.Path.{◌≡◌, refl, sym, ap, ◌∙◌, subst}
use mathlib.Core.Bool.{true, false}
use mathlib.Core.Logic.{⊎_elim}
use mathlib.Core.List.{List, [], ◌∷◌, ◌++◌}
use native.Mathlib.Omega.{arith}
use native.Mathlib.Numerals.{add-one}
use borrow.Author.Tests.{eq-eqb, ne_eqb, eqb-true, eqb-false, leb-true, le-leb, lt-leb}
use lib.Dec.{eqb, leb}
use lib.ListN.{length, get_or, drop}
use lib.Seq.{drop-cons, drop-length}
use Rattle.base.specs.Choice.{pick}
use Rattle.base.specs.Memory.{part}
use Rattle.base.proofs.Choice.{pick_true, pick_false, both_true, both_left, both_right, by_test, took, left, never, fails}
use Rattle.base.proofs.Numbers.{lt_or_ge}
use Rattle.base.proofs.Every.{every_part}
use Rattle.base.proofs.Lists.{part_none, part_last}
use Rattle.base.proofs.Memory.{length_part}
use Rattle.classes.specs.Classes.{is_allowed, all_allowed}
use Rattle.classes.proofs.Laws.{allowed_then}
use Rattle.inputs.specs.Inputs.{names_after, NameAt, AllowedTo, ended, good_name, judged_from}

pub names_none : (so : List ℕ) → names_after so [] ≡ []
unfolding names_after
names_none so = refl

pub names_out : (s so : List ℕ) (i : ℕ) → i ≡ length s → names_after so (drop i s) ≡ []
names_out s so i e = ap (names_after so) (ap (λ (n : ℕ). drop n s) e ∙ drop-length s) ∙ names_none so

module _ (s so : List ℕ) (i : ℕ) (h : i < length s) where
  step : names_after so (drop i s) ≡ pick (eqb (get_or s i 0) 10) (so ∷ names_after [] (drop (i + 1) s)) (names_after (so ++ get_or s i 0 ∷ []) (drop (i + 1) s))
  unfolding names_after
  step = rw (drop-cons s i 0 h, add-one)

  pub names_here : get_or s i 0 ≡ 10 → names_after so (drop i s) ≡ so ∷ names_after [] (drop (i + 1) s)
  names_here e = step ∙ pick_true _ _ (eq-eqb _ _ e)

  pub names_next : (get_or s i 0 ≡ 10 → ⊥) → names_after so (drop i s) ≡ names_after (so ++ get_or s i 0 ∷ []) (drop (i + 1) s)
  names_next f = step ∙ pick_false _ _ (ne_eqb _ _ f)

-- inside one name, which starts at a place and has not ended before another
pub record InName (s : List ℕ) (at i : ℕ) : Type 0 where
  pub low : at ≤ i
  pub high : i < length s
  pub within : names_after (part s at i) (drop i s) ≡ names_after [] (drop at s)

pub name_starts : (s : List ℕ) (at : ℕ) → at < length s → InName s at at
name_starts s at h = record {
  low = omega arith;
  high = h;
  within = ap (λ (so : List ℕ). names_after so (drop at s)) (part_none s at at (omega arith));
}

module _ (s : List ℕ) (at i : ℕ) (n : InName s at i) where
  -- one byte more
  pub name_more : i + 1 < length s → (get_or s i 0 ≡ 10 → ⊥) → InName s at (i + 1)
  name_more h f = record {
    low = omega (arith, n.low);
    high = h;
    within = ap (λ (so : List ℕ). names_after so (drop (i + 1) s)) (part_last s at i n.low n.high) ∙ sym (names_next s (part s at i) i n.high f) ∙ n.within;
  }

  pub name_ends : get_or s i 0 ≡ 10 → NameAt s at i
  name_ends e = record { low = n.low; high = n.high; first = sym n.within ∙ names_here s (part s at i) i n.high e }

-- how many names does not hang on how the first begins
same_count : (l so to : List ℕ) → length (names_after so l) ≡ length (names_after to l)
unfolding names_after
same_count [] so to = refl
same_count (b ∷ l) so to = by_test (eqb b 10)
    (λ e. ap length (pick_true _ _ e) ∙ sym (ap length (pick_true _ _ e)))
    (λ e. ap length (pick_false _ _ e) ∙ same_count l (so ++ b ∷ []) (to ++ b ∷ []) ∙ sym (ap length (pick_false _ _ e)))

pub count_here : (s : List ℕ) (i : ℕ) → i < length s → get_or s i 0 ≡ 10 → length (names_after [] (drop i s)) ≡ 1 + length (names_after [] (drop (i + 1) s))
count_here s i h e =
    let p : length (names_after [] (drop i s)) ≡ suc (length (names_after [] (drop (i + 1) s))) = ap length (names_here s [] i h e) in
    omega arith

pub count_next : (s : List ℕ) (i : ℕ) → i < length s → (get_or s i 0 ≡ 10 → ⊥) → length (names_after [] (drop i s)) ≡ length (names_after [] (drop (i + 1) s))
count_next s i h f = ap length (names_next s [] i h f) ∙ same_count (drop (i + 1) s) ([] ++ get_or s i 0 ∷ []) []

-- an input whose last byte is 10

pub last_ten : (s : List ℕ) → ended s ≡ true → 0 < length s → get_or s (length s - 1) 0 ≡ 10
unfolding ended
last_ten s e h = eqb-true _ _ (sym (pick_false true (eqb (get_or s (length s - 1) 0) 10) (ne_eqb (length s) 0 (λ z. omega arith))) ∙ e)

pub not_last : (s : List ℕ) (i : ℕ) → ended s ≡ true → i < length s → (get_or s i 0 ≡ 10 → ⊥) → i + 1 < length s
not_last s i e h f = ⊎_elim (λ l. l)
    (λ l. absurd (f (ap (λ (j : ℕ). get_or s j 0) (let z : i ≡ length s - 1 = omega arith in z) ∙ last_ten s e (omega arith))))
    (lt_or_ge (i + 1) (length s))

-- the first bad name

pub judged_none : (n : ℕ) (names : List (List ℕ)) → names ≡ [] → None ≡ judged_from n names
unfolding judged_from
judged_none n names e = rw e

pub judged_bad : (n : ℕ) (names : List (List ℕ)) (s : List ℕ) (ss : List (List ℕ)) → names ≡ s ∷ ss → good_name s ≡ false → Some n ≡ judged_from n names
unfolding judged_from
judged_bad n names s ss e f = rw e (left _ _ f refl)

pub judged_next : (n : ℕ) (names : List (List ℕ)) (s : List ℕ) (ss : List (List ℕ)) → names ≡ s ∷ ss → good_name s ≡ true → judged_from (n + 1) ss ≡ judged_from n names
unfolding judged_from
judged_next n names s ss e f = rw e (took _ _ f refl)

module _ (s : List ℕ) (from to : ℕ) (h : from ≤ to) (k : to ≤ length s) where
  pub good_short : to - from < 1 → false ≡ good_name (part s from to)
  unfolding good_name
  good_short l = sym (both_left _ (lt-leb _ _ (let e : length (part s from to) < 1 = omega (arith, length_part s from to h k) in e)))

  pub good_long : 1 ≤ to - from → 254 < to - from → false ≡ good_name (part s from to)
  unfolding good_name
  good_long l m =
      let n : length (part s from to) ≡ to - from = length_part s from to h k in
      sym (both_right (le-leb 1 (length (part s from to)) (omega arith)) (both_left _ (lt-leb (length (part s from to)) 254 (omega arith))))

  pub good_by : 1 ≤ to - from → to - from ≤ 254 → all_allowed (part s from to) ≡ good_name (part s from to)
  unfolding good_name
  good_by l m =
      let n : length (part s from to) ≡ to - from = length_part s from to h k in
      sym (pick_true _ _ (le-leb 1 (length (part s from to)) (omega arith)) ∙ pick_true _ _ (le-leb (length (part s from to)) 254 (omega arith)))

-- what a good name is
pub good_holds : (s : List ℕ) → good_name s ≡ true → (1 ≤ length s) × ((length s ≤ 254) × (all_allowed s ≡ true))
unfolding good_name
good_holds s e =
    let a = both_true (leb 1 (length s)) _ e in
    let b = both_true (leb (length s) 254) (all_allowed s) a.1 in
    (leb-true _ _ a.0, (leb-true _ _ b.0, b.1))

-- names that are all good, one by one
pub fine_first : (n : ℕ) (s : List ℕ) (ss : List (List ℕ)) → judged_from n (s ∷ ss) ≡ None → (good_name s ≡ true) × (judged_from (n + 1) ss ≡ None)
unfolding judged_from
fine_first n s ss e = by_test (good_name s)
    (λ g. (g, sym (pick_true _ _ g) ∙ e))
    (λ g. absurd (let f : Some n ≡ None = sym (pick_false _ _ g) ∙ e in let z : ◌≡◌ {A = ℕ} 0 1 = cc in omega arith))

-- bytes that are allowed

ten_barred : is_allowed 10 ≡ false
unfolding is_allowed pick
ten_barred = refl

pub allowed_no_ten : (b : ℕ) → is_allowed b ≡ true → b ≡ 10 → ⊥
allowed_no_ten b e z = never (sym ten_barred ∙ ap is_allowed (sym z) ∙ e)

-- so they lie inside one name
allowed_inside : (k : ℕ) (s : List ℕ) (at i end : ℕ) → end ≡ i + k → end < length s → InName s at i → all_allowed (part s i end) ≡ true → InName s at end
allowed_inside zero s at i end e h n a = subst (InName s at) (let z : i ≡ end = omega arith in z) n
allowed_inside (suc k) s at i end e h n a =
    let t = both_true (is_allowed (get_or s i 0)) (all_allowed (part s (i + 1) end)) (sym (every_part is_allowed s i end (omega arith) (omega arith)) ∙ a) in
    allowed_inside k s at (i + 1) end (omega arith) h (name_more s at i n (omega arith) (allowed_no_ten _ t.0)) t.1

-- a name that begins with a byte that isn't allowed is bad, however it goes on
bad_begun : (l so : List ℕ) (n : ℕ) → all_allowed so ≡ false → 1 ≤ length (names_after so l) → Some n ≡ judged_from n (names_after so l)
unfolding names_after
bad_begun [] so n e h = absurd (omega arith)
bad_begun (b ∷ l) so n e h = by_test (eqb b 10)
    (λ t. judged_bad n _ so (names_after [] l) (pick_true _ _ t) (fails (λ g. never (sym e ∙ (good_holds so g).1.1))))
    (λ t.
    let q : names_after so (b ∷ l) ≡ names_after (so ++ b ∷ []) l = pick_false _ _ t in
    bad_begun l (so ++ b ∷ []) n (allowed_then so b ∙ both_left _ e) (omega (arith, ap length q)) ∙ ap (judged_from n) (sym q))

-- an ended input has a name from each of its places on
some_left : (k : ℕ) (s : List ℕ) (i : ℕ) → ended s ≡ true → i < length s → length s ≤ i + k → 1 ≤ length (names_after [] (drop i s))
some_left zero s i e h l = absurd (omega arith)
some_left (suc k) s i e h l = by_test (eqb (get_or s i 0) 10)
    (λ t. omega (arith, count_here s i h (eqb-true _ _ t)))
    (λ t.
    let f = eqb-false (get_or s i 0) 10 t in
    omega (arith, count_next s i h f, some_left k s (i + 1) e (not_last s i e h f) (omega arith)))

module _ (s : List ℕ) (at end : ℕ) (a : AllowedTo s at end) where
  allowed_to : InName s at end
  allowed_to = let l = a.low in let h = a.high in allowed_inside (end - at) s at at end (omega arith) h (name_starts s at (omega arith)) a.allowed

  pub allowed_name : get_or s end 0 ≡ 10 → NameAt s at end
  allowed_name e = name_ends s at end allowed_to e

  pub judged_barred : (n : ℕ) → ended s ≡ true → (get_or s end 0 ≡ 10 → ⊥) → Some n ≡ judged_from n (names_after [] (drop at s))
  judged_barred n e f =
      let so : List ℕ = part s at end ++ get_or s end 0 ∷ [] in
      let q : names_after [] (drop at s) ≡ names_after so (drop (end + 1) s) = sym allowed_to.within ∙ names_next s (part s at end) end a.high f in
      let barred : all_allowed so ≡ false = allowed_then (part s at end) (get_or s end 0) ∙ both_right a.allowed a.barred in
      bad_begun (drop (end + 1) s) so n barred (omega (arith, ap length q, some_left (length s) s at e (omega (arith, a.low, a.high)) (omega arith))) ∙ ap (judged_from n) (sym q)
