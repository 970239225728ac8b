-- Laws of `pick`, and of tests that hold together. Those that end in `r ≡ pick ..` are in a contract's direction: what the code answers is what the definition says.
use Prim.Native.Nat.{ℕ}
use mathlib.Core.Path.{◌≡◌, refl, sym, ◌∙◌}
use mathlib.Core.Bool.{Bool, true, false, ◌&&◌}
use native.Mathlib.Omega.{arith}
use Rattle.base.specs.Choice.{pick, both}

pub took : {A : Type 0} {b : Bool} (x y : A) {r : A} → b ≡ true → r ≡ x → r ≡ pick b x y
unfolding pick
took x y e q = rw e q

pub left : {A : Type 0} {b : Bool} (x y : A) {r : A} → b ≡ false → r ≡ y → r ≡ pick b x y
unfolding pick
left x y e q = rw e q

pub pick_true : {A : Type 0} {b : Bool} (x y : A) → b ≡ true → pick b x y ≡ x
unfolding pick
pick_true x y e = rw e

pub pick_false : {A : Type 0} {b : Bool} (x y : A) → b ≡ false → pick b x y ≡ y
unfolding pick
pick_false x y e = rw e

-- what holds of both, each where it is picked, holds of the one picked
pub pick_holds : {A : Type 0} (P : A → Type 0) (b : Bool) (x y : A) → (b ≡ true → P x) → (b ≡ false → P y) → P (pick b x y)
unfolding pick
pick_holds P true x y f g = f refl
pick_holds P false x y f g = g refl

pub pick_either : {A : Type 0} (P : A → Type 0) (b : Bool) (x y : A) → P x → P y → P (pick b x y)
pick_either P b x y p q = pick_holds P b x y (λ _. p) (λ _. q)

pub pick_same : {A : Type 0} (b : Bool) (x y z w : A) → (b ≡ true → x ≡ z) → (b ≡ false → y ≡ w) → pick b x y ≡ pick b z w
unfolding pick
pick_same true x y z w f g = f refl
pick_same false x y z w f g = g refl

-- two choices by one test
pub pick_two : {A B : Type 0} (P : A → B → Type 0) (b : Bool) (x y : A) (z w : B) → (b ≡ true → P x z) → (b ≡ false → P y w) → P (pick b x y) (pick b z w)
unfolding pick
pick_two P true x y z w f g = f refl
pick_two P false x y z w f g = g refl

pub never : false ≡ true → ⊥
never e = let z : ◌≡◌ {A = ℕ} 0 1 = cc in omega arith

-- two tests that hold together, one by one
pub both_true : (a b : Bool) → both a b ≡ true → (a ≡ true) × (b ≡ true)
unfolding pick
both_true true b e = (refl, e)
both_true false b e = absurd (never e)

pub both_of : {a b : Bool} → a ≡ true → b ≡ true → both a b ≡ true
unfolding pick
both_of p q = rw (p, q)

pub both_left : {a : Bool} (b : Bool) → a ≡ false → both a b ≡ false
unfolding pick
both_left b p = rw p

pub both_right : {a b : Bool} → a ≡ true → b ≡ false → both a b ≡ false
unfolding pick
both_right p q = rw (p, q)

pub both_none : (b : Bool) → both true b ≡ b
unfolding pick
both_none b = refl

pub both_all : (a : Bool) → both a true ≡ a
unfolding pick
both_all true = refl
both_all false = refl

pub both_both : (a b c : Bool) → both (both a b) c ≡ both a (both b c)
unfolding pick
both_both true b c = refl
both_both false b c = refl

-- the code's way to say both
pub and_both : (a b : Bool) → a && b ≡ both a b
unfolding pick
and_both true b = refl
and_both false b = refl

pub and_true : (a b : Bool) → a && b ≡ true → (a ≡ true) × (b ≡ true)
and_true a b e = both_true a b (sym (and_both a b) ∙ e)

-- a test holds or not
pub by_test : {P : Type 0} (b : Bool) → (b ≡ true → P) → (b ≡ false → P) → P
by_test true f g = f refl
by_test false f g = g refl

pub fails : {b : Bool} → (b ≡ true → ⊥) → b ≡ false
fails {b} n = by_test b (λ e. absurd (n e)) (λ e. e)
