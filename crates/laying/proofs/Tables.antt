-- What is known of a directory as a table of starts and ends: one end read or moved, and sizes made places.
use Prim.Native.Nat.{ℕ, zero, suc, ◌+◌, ◌-◌, ◌*◌, ◌≤◌, ◌<◌}
use mathlib.Core.Path.{◌≡◌, refl, sym, ap, ◌∙◌}
use mathlib.Core.List.{List, [], ◌∷◌, ◌++◌, append_assoc, append-nil}
use native.Mathlib.Omega.{arith}
use native.Mathlib.Numerals.{add-one}
use lib.ListN.{length, get_or, set, drop, length-append, replicate}
use lib.Seq.{get_or_at, set_at, drop-cons, drop-length}
use Rattle.block.specs.Block.{end_of}
use Rattle.laying.specs.Puts.{joined, table_of}
use Rattle.laying.specs.Passes.{moved, offset_in, places_of, cleared}
use Rattle.laying.proofs.Joined.{joined_none, joined_more, joined_same, joined_at, joined_but, joined_last, length_joined_suc}

-- a start and an end
abbrev pair : (ℕ → ℕ) → (ℕ → ℕ) → ℕ → List ℕ
pair a b i = a i ∷ b i ∷ []

length_pairs : (a b : ℕ → ℕ) (n i : ℕ) → length (joined (pair a b) i n) ≡ 2 * n
length_pairs a b zero i = ap length (joined_none (pair a b) i)
length_pairs a b (suc n) i =
    let p : length (joined (pair a b) i (suc n)) ≡ suc (suc (length (joined (pair a b) (i + 1) n))) = ap length (joined_more (pair a b) i n) in
    omega (arith, length_pairs a b n (i + 1))

pub length_table : (a b : ℕ → ℕ) → length (table_of a b) ≡ 2580
unfolding table_of
length_table a b = length_pairs a b 1290 0

-- behind two numbers comes the rest
two : (l : List ℕ) (x y : ℕ) (r : List ℕ) → l ++ (x ∷ y ∷ []) ++ r ≡ (l ++ x ∷ []) ++ y ∷ r
two l x y r = append_assoc l (x ∷ y ∷ []) r ∙ sym (append_assoc l (x ∷ []) (y ∷ r))

length_one : (l : List ℕ) (x n : ℕ) → length l ≡ 2 * n → length (l ++ x ∷ []) ≡ 2 * n + 1
length_one l x n e = length-append l (x ∷ []) ∙ ap (λ (m : ℕ). m + 1) e

module _ (a b : ℕ → ℕ) (k : ℕ) (h : k < 1290) where
  before : List ℕ
  before = joined (pair a b) 0 k ++ a k ∷ []

  after : List ℕ
  after = joined (pair a b) (k + 1) (1290 - (k + 1))

  cut : table_of a b ≡ before ++ b k ∷ after
  unfolding table_of before after
  cut = joined_at (pair a b) k 1290 h ∙ two (joined (pair a b) 0 k) (a k) (b k) (joined (pair a b) (k + 1) (1290 - (k + 1)))

  length_before : length before ≡ 2 * k + 1
  unfolding before
  length_before = length_one (joined (pair a b) 0 k) (a k) k (length_pairs a b k 0)

  pub end_table : end_of (table_of a b) k ≡ b k
  unfolding end_of
  end_table = ap (λ (l : List ℕ). get_or l (2 * k + 1) 0) cut ∙ get_or_at before (b k) after 0 (2 * k + 1) length_before

  pub moved_table : (c : ℕ → ℕ) (n : ℕ) → c k ≡ b k + n → ((j : ℕ) → (j ≡ k → ⊥) → b j ≡ c j) → moved (table_of a b) k n ≡ table_of a c
  unfolding moved table_of before after
  moved_table c n e f =
      let J : List ℕ = joined (pair a b) 0 k in
      let put : joined (pair a c) 0 1290 ≡ J ++ (a k ∷ c k ∷ []) ++ joined (pair a b) (k + 1) (1290 - (k + 1)) =
      joined_but (pair a b) (pair a c) k 1290 h (λ j g. ap (λ (x : ℕ). a j ∷ x ∷ []) (f j g)) in
      ap (λ (l : List ℕ). set l (2 * k + 1) (end_of (table_of a b) k + n)) cut
      ∙ set_at before (b k) after (end_of (table_of a b) k + n) (2 * k + 1) length_before
      ∙ ap (λ (x : ℕ). before ++ x ∷ after) (ap (λ (x : ℕ). x + n) end_table ∙ sym e)
      ∙ sym (two J (a k) (c k) (joined (pair a b) (k + 1) (1290 - (k + 1))))
      ∙ sym put

pub table_same : (a b c d : ℕ → ℕ) → ((j : ℕ) → j < 1290 → a j ≡ c j) → ((j : ℕ) → j < 1290 → b j ≡ d j) → table_of a b ≡ table_of c d
unfolding table_of
table_same a b c d p q = joined_same (pair a b) (pair c d) 1290 0 (λ j h k. rw (p j (omega arith), q j (omega arith)))

-- Sizes made places

pub offset_more : (d : List ℕ) (i : ℕ) → offset_in d (i + 1) ≡ offset_in d i + end_of d i
unfolding offset_in
offset_more d i = ap (offset_in d) (add-one i)

pub offset_grows : (d : List ℕ) (n i : ℕ) → offset_in d i ≤ offset_in d (i + n)
offset_grows d zero i = let e : offset_in d (i + 0) ≡ offset_in d i = ap (offset_in d) (let z : i + 0 ≡ i = omega arith in z) in omega arith
offset_grows d (suc n) i =
    let e : offset_in d (i + suc n) ≡ offset_in d (i + 1 + n) = ap (offset_in d) (let z : i + suc n ≡ i + 1 + n = omega arith in z) in
    omega (arith, offset_more d i, offset_grows d n (i + 1))

-- the first i spans laid out
pub laid : List ℕ → ℕ → List ℕ
laid d i = joined (pair (offset_in d) (offset_in d)) 0 i ++ drop (2 * i) d

pub laid_none : (d : List ℕ) → laid d 0 ≡ d
unfolding laid
laid_none d = ap (λ (l : List ℕ). l ++ d) (joined_none (pair (offset_in d) (offset_in d)) 0)

pub laid_all : (d : List ℕ) → length d ≡ 2580 → laid d 1290 ≡ places_of d
unfolding laid places_of table_of
laid_all d e =
    let n : drop 2580 d ≡ [] = ap (λ (m : ℕ). drop m d) (sym e) ∙ drop-length d in
    ap (λ (l : List ℕ). joined (pair (offset_in d) (offset_in d)) 0 1290 ++ l) n ∙ append-nil (joined (pair (offset_in d) (offset_in d)) 0 1290)

module _ (d : List ℕ) (i : ℕ) (h : 2 * i + 1 < length d) where
  done : List ℕ
  done = joined (pair (offset_in d) (offset_in d)) 0 i

  rest : List ℕ
  rest = drop (2 * (i + 1)) d

  opened : laid d i ≡ done ++ get_or d (2 * i) 0 ∷ get_or d (2 * i + 1) 0 ∷ rest
  unfolding laid done rest
  opened =
      let p : drop (2 * i) d ≡ get_or d (2 * i) 0 ∷ drop (suc (2 * i)) d = drop-cons d (2 * i) 0 (omega arith) in
      let q : drop (suc (2 * i)) d ≡ get_or d (suc (2 * i)) 0 ∷ drop (suc (suc (2 * i))) d = drop-cons d (suc (2 * i)) 0 (omega arith) in
      let m : suc (2 * i) ≡ 2 * i + 1 = omega arith in
      let n : suc (suc (2 * i)) ≡ 2 * (i + 1) = omega arith in
      ap (λ (l : List ℕ). done ++ l)
      (p ∙ ap (λ (l : List ℕ). get_or d (2 * i) 0 ∷ l) (q ∙ ap (λ (k : ℕ). get_or d k 0 ∷ drop (suc (suc (2 * i))) d) m ∙ ap (λ (k : ℕ). get_or d (2 * i + 1) 0 ∷ drop k d) n))

  length_done : length done ≡ 2 * i
  unfolding done
  length_done = length_pairs (offset_in d) (offset_in d) i 0

  pub laid_read : get_or (laid d i) (2 * i + 1) 0 ≡ end_of d i
  unfolding end_of
  laid_read =
      let x : ℕ = get_or d (2 * i) 0 in
      let y : ℕ = get_or d (2 * i + 1) 0 in
      ap (λ (l : List ℕ). get_or l (2 * i + 1) 0) (opened ∙ sym (append_assoc done (x ∷ []) (y ∷ rest)))
      ∙ get_or_at (done ++ x ∷ []) y rest 0 (2 * i + 1) (length_one done x i length_done)

  pub laid_more : (at : ℕ) → at ≡ offset_in d i → set (set (laid d i) (2 * i) at) (2 * i + 1) at ≡ laid d (i + 1)
  unfolding laid done rest
  laid_more at e =
      let x : ℕ = get_or d (2 * i) 0 in
      let y : ℕ = get_or d (2 * i + 1) 0 in
      let f : ℕ → List ℕ = pair (offset_in d) (offset_in d) in
      let one : set (laid d i) (2 * i) at ≡ (done ++ at ∷ []) ++ y ∷ rest =
      ap (λ (l : List ℕ). set l (2 * i) at) opened ∙ set_at done x (y ∷ rest) at (2 * i) length_done ∙ sym (append_assoc done (at ∷ []) (y ∷ rest)) in
      ap (λ (l : List ℕ). set l (2 * i + 1) at) one
      ∙ set_at (done ++ at ∷ []) y rest at (2 * i + 1) (length_one done at i length_done)
      ∙ sym (two done at at rest)
      ∙ ap (λ (l : List ℕ). l ++ rest) (ap (λ (n : ℕ). done ++ n ∷ n ∷ []) e ∙ sym (joined_last f i))

-- the places are where the spans start, if the sizes are those of what they have
pub offset_joined : (a b : ℕ → ℕ) (f : ℕ → List ℕ) → ((j : ℕ) → b j ≡ length (f j)) → (k : ℕ) → k ≤ 1290 → offset_in (table_of a b) k ≡ length (joined f 0 k)
unfolding offset_in
offset_joined a b f e zero h = sym (ap length (joined_none f 0))
offset_joined a b f e (suc k) h =
    let p : length (joined f 0 (suc k)) ≡ length (joined f 0 k) + length (f k) = ap (λ (n : ℕ). length (joined f 0 n)) (sym (add-one k)) ∙ length_joined_suc f k in
    omega (arith, offset_joined a b f e k (omega arith), end_table a b k h, e k)

pub cleared_zeros : replicate 2580 0 ≡ cleared
unfolding cleared table_of joined
cleared_zeros = refl
