-- What is known of a resolved token: how many bytes it prints, its row, and which memory its bytes depend on.
use Prim.Native.Nat.{ℕ, ◌≤◌}
use mathlib.Core.Path.{◌≡◌, refl}
use mathlib.Core.Bool.{Bool, true, false}
use mathlib.Core.List.{List}
use mathlib.Core.Logic.{◌⊎◌, inl, inr}
use native.Mathlib.Omega.{arith}
use lib.ListN.{length, take}
use Rattle.base.specs.Choice.{pick}
use Rattle.base.specs.Memory.{part}
use Rattle.base.proofs.Memory.{length_part}
use Rattle.base.proofs.Below.{same_part}
use Rattle.digits.proofs.Laws.{length_padded}
use Rattle.tokens.specs.declared.Token.{Token}
use Rattle.tokens.specs.declared.Token.TheVariants.{String, Char, Digits, Digits0}
use Rattle.tokens.specs.Tokens.{bytes_of, kind_of, length_of}
use Rattle.tokens.specs.Inside.{Inside, KeptBelow}

pub length_bytes : (bytes text : List ℕ) (t : Token) → Inside bytes text t → length (bytes_of bytes text t) ≡ length_of t
unfolding bytes_of length_of
length_bytes bytes text (String t) i = length_part _ _ _ i.0 i.1
length_bytes bytes text (Char b) i = refl
length_bytes bytes text (Digits n) i = refl
length_bytes bytes text (Digits0 p) i = length_padded p.number p.width

pub kinds : (t : Token) → (kind_of t ≡ 1) ⊎ ((kind_of t ≡ 2) ⊎ ((kind_of t ≡ 4) ⊎ (kind_of t ≡ 7)))
unfolding kind_of
kinds (String t) = inl refl
kinds (Char b) = inr (inl refl)
kinds (Digits n) = inr (inr (inr refl))
kinds (Digits0 p) = inr (inr (inl refl))

text_same : (k : Bool) (bytes text other : List ℕ) (from to u : ℕ) → from ≤ to → (k ≡ true → to ≤ u) → take u text ≡ take u other
    → part (pick k text bytes) from to ≡ part (pick k other bytes) from to
unfolding pick
text_same true bytes text other from to u h k e = same_part text other u e from to h (k refl)
text_same false bytes text other from to u h k e = refl

-- of the kept text only what stands below where a STRING ends matters
pub bytes_same : (bytes text other : List ℕ) (u : ℕ) (t : Token) → Inside bytes text t → KeptBelow u t → take u text ≡ take u other → bytes_of bytes text t ≡ bytes_of bytes other t
unfolding bytes_of
bytes_same bytes text other u (String t) i k e = text_same t.kept bytes text other t.start t.end u i.0 k e
bytes_same bytes text other u (Char b) i k e = refl
bytes_same bytes text other u (Digits n) i k e = refl
bytes_same bytes text other u (Digits0 p) i k e = refl

within : (k : Bool) (bytes text other : List ℕ) (to u : ℕ) → (k ≡ true → to ≤ u) → u ≤ length other → to ≤ length (pick k text bytes) → to ≤ length (pick k other bytes)
unfolding pick
within true bytes text other to u k l h = let m : to ≤ u = k refl in omega arith
within false bytes text other to u k l h = h

pub below_more : (u v : ℕ) (t : Token) → KeptBelow u t → u ≤ v → KeptBelow v t
below_more u v (String t) k h = λ e. let m : t.end ≤ u = k e in omega arith
below_more u v (Char b) k h = tt
below_more u v (Digits n) k h = tt
below_more u v (Digits0 p) k h = tt
