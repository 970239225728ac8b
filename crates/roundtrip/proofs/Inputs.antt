-- The writer's input: the names that it has, each with its byte 10, are the input.
use Prim.Native.Nat.{ℕ, ◌+◌, ◌-◌, ◌*◌, ◌≤◌}
use Rattle.std.specs.Prelude.{Some, None}
use mathlib.Core.Path.{◌≡◌, refl, sym, ap, ◌∙◌}
use mathlib.Core.Bool.{true, false}
use mathlib.Core.List.{List, [], ◌∷◌, ◌++◌, append_assoc, append-nil}
use native.Mathlib.Omega.{arith}
use borrow.Author.Tests.{eqb-true, eq-eqb, ne_eqb}
use lib.Dec.{eqb}
use lib.ListN.{length, get_or, length-append}
use Rattle.comparing.specs.Same.{same}
use Rattle.base.proofs.Choice.{pick_true, pick_false, by_test, pick_holds}
use Rattle.references.specs.References.{anew}
use Rattle.inputs.specs.Inputs.{names_after, names_of, ended, good_name, judged_from}
use Rattle.inputs.proofs.Laws.{good_holds}
use Rattle.roundtrip.specs.Room.{listed, text_wanted, rows_added, rows_for, rows_wanted}
use Rattle.roundtrip.proofs.Spelling.{Good, tokens_most}
use Rattle.roundtrip.proofs.Reading.{AllGood}

pub good_is : (s : List ℕ) → good_name s ≡ true → Good s
good_is s e = let g = good_holds s e in record { some = g.0; short = g.1.0; allowed = g.1.1 }

pub all_good : (names : List (List ℕ)) (n : ℕ) → judged_from n names ≡ None → AllGood names
unfolding judged_from AllGood
all_good [] n e = tt
all_good (s ∷ ss) n e =
    by_test (good_name s)
    (λ t. (good_is s t, all_good ss (n + 1) (sym (pick_true (judged_from (n + 1) ss) (Some n) t) ∙ e)))
    (λ t. let q : Some n ≡ None = sym (pick_false (judged_from (n + 1) ss) (Some n) t) ∙ e in cc)

-- the bytes of text that names want are all of them with their bytes 10
pub listed_length : (names : List (List ℕ)) → length (listed names) ≡ text_wanted names
unfolding listed text_wanted
listed_length [] = refl
listed_length (s ∷ ss) = length-append (s ++ 10 ∷ []) (listed ss) ∙ omega (arith, length-append s (10 ∷ []), listed_length ss)

names_here : (so : List ℕ) (b : ℕ) (l : List ℕ) → b ≡ 10 → names_after so (b ∷ l) ≡ so ∷ names_after [] l
unfolding names_after
names_here so b l e = pick_true _ _ (eq-eqb b 10 e)

names_on : (so : List ℕ) (b : ℕ) (l : List ℕ) → eqb b 10 ≡ false → names_after so (b ∷ l) ≡ names_after (so ++ b ∷ []) l
unfolding names_after
names_on so b l e = pick_false _ _ e

listed_more : (s : List ℕ) (ss : List (List ℕ)) → listed (s ∷ ss) ≡ (s ++ 10 ∷ []) ++ listed ss
unfolding listed
listed_more s ss = refl

-- bytes that end with byte 10
listed_after : (so : List ℕ) (b : ℕ) (l : List ℕ) → get_or (b ∷ l) (length l) 0 ≡ 10 → listed (names_after so (b ∷ l)) ≡ so ++ b ∷ l
unfolding listed names_after
listed_after so b [] e =
    ap listed (names_here so b [] e) ∙ append-nil (so ++ 10 ∷ []) ∙ ap (λ (x : ℕ). so ++ x ∷ []) (sym e)
listed_after so b (c ∷ l) e =
    by_test (eqb b 10)
    (λ t.
    let q : b ≡ 10 = eqb-true b 10 t in
    ap listed (names_here so b (c ∷ l) q) ∙ listed_more so (names_after [] (c ∷ l)) ∙ ap (λ (x : List ℕ). (so ++ 10 ∷ []) ++ x) (listed_after [] c l e)
    ∙ append_assoc so (10 ∷ []) (c ∷ l) ∙ ap (λ (x : ℕ). so ++ x ∷ c ∷ l) (sym q))
    (λ t. ap listed (names_on so b (c ∷ l) t) ∙ listed_after (so ++ b ∷ []) c l e ∙ append_assoc so (b ∷ []) (c ∷ l))

pub listed_back : (input : List ℕ) → ended input ≡ true → listed (names_of input) ≡ input
unfolding names_of names_after listed ended
listed_back [] e = refl
listed_back (b ∷ l) e =
    let n : length (b ∷ l) - 1 ≡ length l = omega arith in
    listed_after [] b l
    (ap (λ (i : ℕ). get_or (b ∷ l) i 0) (sym n)
    ∙ eqb-true _ _ (sym (pick_false true (eqb (get_or (b ∷ l) (length (b ∷ l) - 1) 0) 10) (ne_eqb (length (b ∷ l)) 0 (λ q. omega arith))) ∙ e))

-- Room that always suffices

pub text_most : (names : List (List ℕ)) → AllGood names → text_wanted names ≤ 255 * length names
unfolding AllGood text_wanted
text_most [] g = omega arith
text_most (s ∷ ss) g = omega (arith, g.0.short, text_most ss g.1)

added_most : (n : ℕ) (before s : List ℕ) → rows_added n before s ≤ 127
unfolding rows_added
added_most n before s =
    pick_holds (λ (x : ℕ). x ≤ 127) (anew n) _ _ (λ t. tokens_most s)
    (λ t. pick_holds (λ (x : ℕ). x ≤ 127) (same before s) _ _ (λ u. omega arith) (λ u. tokens_most s))

rows_for_most : (names : List (List ℕ)) (n : ℕ) (before : List ℕ) → rows_for n before names ≤ 127 * length names
unfolding rows_for
rows_for_most [] n before = omega arith
rows_for_most (s ∷ ss) n before = omega (arith, added_most n before s, rows_for_most ss (n + 1) s)

pub rows_most_law : (names : List (List ℕ)) → rows_wanted names ≤ 127 * length names
unfolding rows_wanted
rows_most_law names = rows_for_most names 0 []
