-- A rule of a table, at each of its entries, from one test that is computed over the whole table.
use mathlib.Core.Path.{◌≡◌, ◌∙◌, subst, sym}
use mathlib.Core.Bool.{Bool, true, false}
use mathlib.Core.List.{List, [], ◌∷◌}
use Prim.Native.Nat.{ℕ, zero, suc, ◌+◌, ◌<◌}
use native.Mathlib.Nat.{add-zero, zero-add, add-suc, suc-add, le_of_suc-le-suc, not-suc-le-zero}
use lib.Dec.{T, eqb, eqb→eq}
use lib.ListN.{length, get_or}

abbrev together : Bool → Bool → Bool
together true b = b
together false b = false

-- from place i on, each entry is what the rule gives at its place
abbrev pub follows : (ℕ → ℕ) → ℕ → List ℕ → Bool
follows f i [] = true
follows f i (x ∷ xs) = together (eqb x (f i)) (follows f (suc i) xs)

first : (a b : Bool) → T (together a b) → T a
first true b t = tt
first false b t = t

rest : (a b : Bool) → T (together a b) → T b
rest true b t = t
rest false b t = absurd t

from : (f : ℕ → ℕ) (xs : List ℕ) (i : ℕ) → T (follows f i xs) → (k : ℕ) → k < length xs → get_or xs k 0 ≡ f (i + k)
from f [] i t k h = absurd (not-suc-le-zero h)
from f (x ∷ xs) i t zero h = rw add-zero (eqb→eq x (f i) (first (eqb x (f i)) (follows f (suc i) xs) t))
from f (x ∷ xs) i t (suc k) h =
    subst (λ (m : ℕ). get_or xs k 0 ≡ f m) (suc-add i k ∙ sym (add-suc i k))
    (from f xs (suc i) (rest (eqb x (f i)) (follows f (suc i) xs) t) k (le_of_suc-le-suc h))

pub rule : (f : ℕ → ℕ) (xs : List ℕ) → T (follows f 0 xs) → (k : ℕ) → k < length xs → get_or xs k 0 ≡ f k
rule f xs t k h = subst (λ (m : ℕ). get_or xs k 0 ≡ f m) (zero-add k) (from f xs 0 t k h)
