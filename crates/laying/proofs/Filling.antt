-- The pass that fills: what it leaves is the contents one after another, and it has room at each put.
-- Each span k is what it has so far, d k, and a gap g k that the puts to come fill exactly.
use Prim.Native.Nat.{ℕ, zero, suc, ◌+◌, ◌-◌, ◌^◌, ◌≤◌, ◌<◌}
use mathlib.Core.Path.{◌≡◌, refl, sym, ap, ◌∙◌, subst}
use mathlib.Core.List.{List, [], ◌∷◌, ◌++◌, append_assoc, append-nil}
use native.Mathlib.Omega.{arith}
use native.Mathlib.Numerals.{add-one}
use borrow.Author.Tests.{eqb-true, eqb-false}
use lib.Dec.{eqb}
use lib.ListN.{length, take, drop, length-append, length-drop, take-append-drop}
use lib.Seq.{take-add, length-take-le}
use Rattle.base.proofs.Choice.{by_test}
use Rattle.base.proofs.Lists.{written_mid, none_long}
use Rattle.base.proofs.Memory.{length_part}
use Rattle.base.specs.Choice.{pick}
use Rattle.base.specs.Memory.{part, written}
use Rattle.block.specs.Block.{end_of}
use Rattle.laying.specs.declared.Pass.TheVariants.{Sizes, Fill}
use Rattle.laying.specs.Puts.{Put, share, content_of, joined, start_in, table_of, total_of, directory_of, bytes_of}
use Rattle.laying.specs.Passes.{counts, fills, world, step_of, run_of, Roomy, offset_in, places_of, cleared}
use Rattle.laying.proofs.Joined.{joined_none, joined_same, joined_at, joined_but, joined_last, length_joined, length_joined_suc, length_joined_at}
use Rattle.laying.proofs.Tables.{length_table, end_table, table_same, offset_joined}
use Rattle.laying.proofs.Passes.{share_same, share_other, length_content, content_first, Inside, size_of, size_total, run_none, run_one, ends_more, moved_more, ends_all, sizes_run, sizes_roomy}

-- spans of what they have and their gaps
abbrev spanned : (ℕ → List ℕ) → (ℕ → List ℕ) → ℕ → List ℕ
spanned d g k = d k ++ g k

-- with one put more
had : Put → (ℕ → List ℕ) → ℕ → List ℕ
had p d k = d k ++ share p k

gap : Put → (ℕ → List ℕ) → ℕ → List ℕ
gap p g k = drop (length (share p k)) (g k)

regroup : (A D X R B T : List ℕ) → A ++ (D ++ X ++ R) ++ B ++ T ≡ (A ++ D) ++ X ++ (R ++ (B ++ T))
regroup A D X R B T = simp append_assoc

-- another span is as it was
other_span : (p : Put) (d g : ℕ → List ℕ) (j : ℕ) → (j ≡ p.span → ⊥) → spanned d g j ≡ spanned (had p d) (gap p g) j
unfolding had gap
other_span p d g j f =
    let s : share p j ≡ [] = share_other p j f in
    sym (ap (λ (l : List ℕ). d j ++ l ++ drop (length l) (g j)) s ∙ ap (λ (l : List ℕ). l ++ g j) (append-nil (d j)))

module _ (p : Put) (d g : ℕ → List ℕ) (tail : List ℕ) (h : p.span < 1290) (room : length p.bytes ≤ length (g p.span)) where
  put_bytes : (at : ℕ) → at ≡ length (joined (spanned d g) 0 p.span) + length (d p.span)
      → written (joined (spanned d g) 0 1290 ++ tail) at p.bytes ≡ joined (spanned (had p d) (gap p g)) 0 1290 ++ tail
  unfolding had gap
  put_bytes at e =
      let k : ℕ = p.span in
      let xs : List ℕ = p.bytes in
      let n : ℕ = length xs in
      let f : ℕ → List ℕ = spanned d g in
      let A : List ℕ = joined f 0 k in
      let B : List ℕ = joined f (k + 1) (1290 - (k + 1)) in
      let X : List ℕ = take n (g k) in
      let R : List ℕ = drop n (g k) in
      let s : share p k ≡ xs = share_same p k refl in
      let mine : d k ++ g k ≡ d k ++ X ++ R = ap (λ (l : List ℕ). d k ++ l) (sym (take-append-drop n (g k))) ∙ sym (append_assoc (d k) X R) in
      let was : joined f 0 1290 ++ tail ≡ (A ++ d k) ++ X ++ (R ++ (B ++ tail)) =
      ap (λ (l : List ℕ). l ++ tail) (joined_at f k 1290 h) ∙ ap (λ (l : List ℕ). A ++ l ++ B ++ tail) mine ∙ regroup A (d k) X R B tail in
      let yours : spanned (had p d) (gap p g) k ≡ d k ++ xs ++ R = ap (λ (l : List ℕ). d k ++ l ++ drop (length l) (g k)) s in
      let will : joined (spanned (had p d) (gap p g)) 0 1290 ++ tail ≡ (A ++ d k) ++ xs ++ (R ++ (B ++ tail)) =
      ap (λ (l : List ℕ). l ++ tail) (joined_but f (spanned (had p d) (gap p g)) k 1290 h (other_span p d g)) ∙ ap (λ (l : List ℕ). A ++ l ++ B ++ tail) yours ∙ regroup A (d k) xs R B tail in
      ap (λ (l : List ℕ). written l at xs) was
      ∙ written_mid (A ++ d k) X (R ++ (B ++ tail)) xs at (length-append A (d k) ∙ sym e) (length-take-le n (g k) room)
      ∙ sym will

  fill_step : (t : ℕ) (a b : ℕ → ℕ) → b p.span ≡ length (joined (spanned d g) 0 p.span) + length (d p.span)
      → step_of Fill p (world t (table_of a b) (joined (spanned d g) 0 1290 ++ tail))
      ≡ world (t + length p.bytes) (table_of a (ends_more p b)) (joined (spanned (had p d) (gap p g)) 0 1290 ++ tail)
  unfolding step_of counts fills pick
  fill_step t a b e =
      let y : List ℕ = joined (spanned d g) 0 1290 ++ tail in
      ap (λ (l : List ℕ). world (t + length p.bytes) l (written y (end_of (table_of a b) p.span) p.bytes)) (moved_more p a b h)
      ∙ ap (λ (l : List ℕ). world (t + length p.bytes) (table_of a (ends_more p b)) l) (put_bytes (end_of (table_of a b) p.span) (end_table a b p.span h ∙ e))

-- the ends are where the gaps begin, and the gaps are as long as what is to come
record Gaps (ps : List Put) (b : ℕ → ℕ) (d g : ℕ → List ℕ) : Type 0 where
  ends : (j : ℕ) → j < 1290 → b j ≡ length (joined (spanned d g) 0 j) + length (d j)
  sizes : (j : ℕ) → j < 1290 → length (g j) ≡ length (content_of ps j)

module _ (p : Put) (ps : List Put) (b : ℕ → ℕ) (d g : ℕ → List ℕ) (s : Gaps (p ∷ ps) b d g) where
  as_long : (j : ℕ) → j < 1290 → length (spanned (had p d) (gap p g) j) ≡ length (spanned d g j)
  unfolding had gap
  as_long j h =
      length-append (d j ++ share p j) (drop (length (share p j)) (g j))
      ∙ omega (arith, length-append (d j) (share p j), length-drop (length (share p j)) (g j), length-append (d j) (g j), s.sizes j h, length_content p ps j)

  gaps_more : Gaps ps (ends_more p b) (had p d) (gap p g)
  unfolding had gap ends_more
  gaps_more = record {
    ends = λ j h.
        let l : length (joined (spanned (had p d) (gap p g)) 0 j) ≡ length (joined (spanned d g) 0 j) =
        length_joined (spanned (had p d) (gap p g)) (spanned d g) j 0 (λ i m n. as_long i (omega arith)) in
        omega (arith, length-append (d j) (share p j), s.ends j h);
    sizes = λ j h. length-drop (length (share p j)) (g j) ∙ omega (arith, s.sizes j h, length_content p ps j);
  }

  gap_room : p.span < 1290 → length p.bytes ≤ length (g p.span)
  gap_room h = omega (arith, content_first p ps, s.sizes p.span h)

no_content : (d g : ℕ → List ℕ) (j : ℕ) → length (g j) ≡ length (content_of [] j) → spanned d g j ≡ d j ++ content_of [] j
unfolding content_of
no_content d g j e = ap (λ (l : List ℕ). d j ++ l) (none_long (g j) e)

no_more : (b : ℕ → ℕ) (j : ℕ) → b j ≡ b j + length (content_of [] j)
unfolding content_of
no_more b j = let e : b j ≡ b j + 0 = omega arith in e

had_all : (p : Put) (ps : List Put) (d : ℕ → List ℕ) (j : ℕ) → had p d j ++ content_of ps j ≡ d j ++ content_of (p ∷ ps) j
unfolding had content_of
had_all p ps d j = append_assoc (d j) (share p j) (content_of ps j)

fill_run : (ps : List Put) (t : ℕ) (a b : ℕ → ℕ) (d g : ℕ → List ℕ) (tail : List ℕ) → Inside ps → Gaps ps b d g
    → run_of Fill ps (world t (table_of a b) (joined (spanned d g) 0 1290 ++ tail))
    ≡ world (t + size_of ps) (table_of a (λ j. b j + length (content_of ps j))) (joined (λ j. d j ++ content_of ps j) 0 1290 ++ tail)
fill_run [] t a b d g tail u s =
    let y : List ℕ = joined (spanned d g) 0 1290 ++ tail in
    run_none Fill (world t (table_of a b) y)
    ∙ ap (λ (n : ℕ). world n (table_of a b) y) (let e : t ≡ t + 0 = omega arith in e)
    ∙ ap (λ (l : List ℕ). world (t + 0) l y) (table_same a b a (λ j. b j + length (content_of [] j)) (λ j h. refl) (λ j h. no_more b j))
    ∙ ap (λ (l : List ℕ). world (t + 0) (table_of a (λ j. b j + length (content_of [] j))) (l ++ tail))
    (joined_same (spanned d g) (λ j. d j ++ content_of [] j) 1290 0 (λ j h k. no_content d g j (s.sizes j (omega arith))))
fill_run (p ∷ ps) t a b d g tail u s =
    let n : ℕ = length p.bytes in
    run_one Fill p ps (world t (table_of a b) (joined (spanned d g) 0 1290 ++ tail))
    ∙ ap (run_of Fill ps) (fill_step p d g tail u.0 (gap_room p ps b d g s u.0) t a b (s.ends p.span u.0))
    ∙ fill_run ps (t + n) a (ends_more p b) (had p d) (gap p g) tail u.1 (gaps_more p ps b d g s)
    ∙ ap (λ (m : ℕ). world m (table_of a (λ j. ends_more p b j + length (content_of ps j))) (joined (λ j. had p d j ++ content_of ps j) 0 1290 ++ tail))
    (let e : t + n + size_of ps ≡ t + (n + size_of ps) = omega arith in e)
    ∙ ap (λ (l : List ℕ). world (t + (n + size_of ps)) l (joined (λ j. had p d j ++ content_of ps j) 0 1290 ++ tail))
    (table_same a (λ j. ends_more p b j + length (content_of ps j)) a (λ j. b j + length (content_of (p ∷ ps) j)) (λ j h. refl) (λ j h. ends_all p ps b j))
    ∙ ap (λ (l : List ℕ). world (t + (n + size_of ps)) (table_of a (λ j. b j + length (content_of (p ∷ ps) j))) (l ++ tail))
    (joined_same (λ j. had p d j ++ content_of ps j) (λ j. d j ++ content_of (p ∷ ps) j) 1290 0 (λ j h k. had_all p ps d j))

fill_roomy : (ps : List Put) (t : ℕ) (a b : ℕ → ℕ) (d g : ℕ → List ℕ) (tail : List ℕ) → Inside ps → Gaps ps b d g → t + size_of ps < 2 ^ 32
    → ((j : ℕ) → j < 1290 → b j + length (content_of ps j) < 2 ^ 32) → Roomy Fill ps (world t (table_of a b) (joined (spanned d g) 0 1290 ++ tail))
unfolding Roomy
fill_roomy [] t a b d g tail u s h k = tt
fill_roomy (p ∷ ps) t a b d g tail u s h k =
    let e : end_of (table_of a b) p.span ≡ b p.span = end_table a b p.span u.0 in
    let r : length p.bytes ≤ length (g p.span) = gap_room p ps b d g s u.0 in (
      record {
        inside = u.0;
        table = length_table a b;
        sum = omega arith;
        count = λ c. omega (arith, content_first p ps, k p.span u.0);
        place = λ c. omega (
          arith,
          s.ends p.span u.0,
          length-append (joined (spanned d g) 0 1290) tail,
          length_joined_at (spanned d g) p.span 1290 u.0,
          length-append (d p.span) (g p.span),
        );
      },
      subst (Roomy Fill ps) (sym (fill_step p d g tail u.0 r t a b (s.ends p.span u.0)))
          (fill_roomy ps (t + length p.bytes) a (ends_more p b) (had p d) (gap p g) tail u.1 (gaps_more p ps b d g s) (omega arith)
          (λ j l. omega (arith, ends_all p ps b j, k j l))),
    )

total_joined : (ps : List Put) → total_of ps ≡ 0 + length (joined (content_of ps) 0 1290)
unfolding total_of start_in
total_joined ps = omega arith

-- All of the puts, from spans that are all gap

module _ (ps : List Put) (bytes : List ℕ) (u : Inside ps) (h : total_of ps ≤ length bytes) where
  none : ℕ → List ℕ
  none j = []

  all : ℕ → List ℕ
  all j = part bytes (start_in ps j) (start_in ps (j + 1))

  start_more : (j : ℕ) → start_in ps (j + 1) ≡ start_in ps j + length (content_of ps j)
  unfolding start_in
  start_more j = length_joined_suc (content_of ps) j

  start_below : (j : ℕ) → j < 1290 → start_in ps j + length (content_of ps j) ≤ total_of ps
  unfolding start_in total_of
  start_below j l = length_joined_at (content_of ps) j 1290 l

  start_none : start_in ps 0 ≡ 0
  unfolding start_in
  start_none = ap length (joined_none (content_of ps) 0)

  length_all : (j : ℕ) → j < 1290 → length (all j) ≡ length (content_of ps j)
  unfolding all
  length_all j l = length_part bytes (start_in ps j) (start_in ps (j + 1)) (omega (arith, start_more j)) (omega (arith, start_more j, start_below j l)) ∙ omega (arith, start_more j)

  so_far : (n : ℕ) → n ≤ 1290 → joined (spanned none all) 0 n ≡ take (start_in ps n) bytes
  unfolding none all part
  so_far zero l = joined_none (spanned none all) 0 ∙ ap (λ (m : ℕ). take m bytes) (sym start_none)
  so_far (suc n) l =
      let e : start_in ps n + (start_in ps (n + 1) - start_in ps n) ≡ start_in ps (n + 1) = omega (arith, start_more n) in
      ap (joined (spanned none all) 0) (sym (add-one n)) ∙ joined_last (spanned none all) n
      ∙ ap (λ (x : List ℕ). x ++ all n) (so_far n (omega arith))
      ∙ sym (take-add (start_in ps n) (start_in ps (n + 1) - start_in ps n) bytes)
      ∙ ap (λ (m : ℕ). take m bytes) (e ∙ ap (start_in ps) (add-one n))

  whole : joined (spanned none all) 0 1290 ++ drop (total_of ps) bytes ≡ bytes
  unfolding total_of
  whole = ap (λ (l : List ℕ). l ++ drop (start_in ps 1290) bytes) (so_far 1290 (omega arith)) ∙ take-append-drop (start_in ps 1290) bytes

  gaps : Gaps ps (start_in ps) none all
  unfolding none start_in
  gaps = record {
    ends = λ j l. omega (arith, length_joined (spanned none all) (content_of ps) j 0 (λ i m n. length_all i (omega arith)));
    sizes = length_all;
  }

  pub fill_room : total_of ps < 2 ^ 32 → Roomy Fill ps (world 0 (table_of (start_in ps) (start_in ps)) bytes)
  fill_room k =
      subst (λ (y : List ℕ). Roomy Fill ps (world 0 (table_of (start_in ps) (start_in ps)) y)) whole
      (fill_roomy ps 0 (start_in ps) (start_in ps) none all (drop (total_of ps) bytes) u gaps (omega (arith, size_total ps u)) (λ j l. omega (arith, start_below j l)))

  pub fill_all : run_of Fill ps (world 0 (table_of (start_in ps) (start_in ps)) bytes) ≡ world (total_of ps) (directory_of ps) (bytes_of ps bytes)
  unfolding directory_of bytes_of written none
  fill_all =
      let s : ℕ → ℕ = start_in ps in
      let J : List ℕ = joined (content_of ps) 0 1290 in
      ap (λ (y : List ℕ). run_of Fill ps (world 0 (table_of s s) y)) (sym whole)
      ∙ fill_run ps 0 s s none all (drop (total_of ps) bytes) u gaps
      ∙ ap (λ (n : ℕ). world n (table_of s (λ j. s j + length (content_of ps j))) (J ++ drop (total_of ps) bytes)) (let e : 0 + size_of ps ≡ total_of ps = omega (arith, size_total ps u) in e)
      ∙ ap (λ (l : List ℕ). world (total_of ps) l (J ++ drop (total_of ps) bytes))
      (table_same s (λ j. s j + length (content_of ps j)) s (λ j. s (j + 1)) (λ j l. refl) (λ j l. sym (start_more j)))
      ∙ ap (λ (n : ℕ). world (total_of ps) (table_of s (λ j. s (j + 1))) (J ++ drop n bytes)) (total_joined ps)

-- The sizes, from empty spans

share_size : (p : Put) (j : ℕ) → length (share p j) ≤ length p.bytes
share_size p j = by_test (eqb j p.span)
    (λ e. let s : length (share p j) ≡ length p.bytes = ap length (share_same p j (eqb-true _ _ e)) in omega arith)
    (λ e. let s : length (share p j) ≡ 0 = ap length (share_other p j (eqb-false _ _ e)) in omega arith)

pub content_size : (ps : List Put) (j : ℕ) → length (content_of ps j) ≤ size_of ps
content_size [] j = omega (arith, no_more (λ k. 0) j)
content_size (p ∷ ps) j = omega (arith, length_content p ps j, share_size p j, content_size ps j)

-- a directory that has the sizes
unfoldable pub sizes_in : List Put → List ℕ
sizes_in ps = table_of (λ i. 0) (λ j. 0 + length (content_of ps j))

module _ (ps : List Put) (bytes : List ℕ) (u : Inside ps) where
  pub sizes_room : size_of ps < 2 ^ 32 → Roomy Sizes ps (world 0 cleared bytes)
  unfolding cleared
  sizes_room h = sizes_roomy ps 0 (λ i. 0) (λ i. 0) bytes u (omega arith) (λ j. omega (arith, content_size ps j))

  pub sizes_all : run_of Sizes ps (world 0 cleared bytes) ≡ world (0 + size_of ps) (sizes_in ps) bytes
  unfolding cleared sizes_in
  sizes_all = sizes_run ps 0 (λ i. 0) (λ i. 0) bytes u

pub length_sizes : (ps : List Put) → length (sizes_in ps) ≡ 2580
unfolding sizes_in
length_sizes ps = length_table (λ i. 0) (λ j. 0 + length (content_of ps j))

-- The places that are laid out from the sizes

pub places_start : (ps : List Put) → places_of (sizes_in ps) ≡ table_of (start_in ps) (start_in ps)
unfolding places_of start_in sizes_in
places_start ps =
    let a : ℕ → ℕ = λ i. 0 in
    let b : ℕ → ℕ = λ j. 0 + length (content_of ps j) in
    let o : (k : ℕ) → k < 1290 → offset_in (table_of a b) k ≡ start_in ps k = λ k h. offset_joined a b (content_of ps) (λ j. omega arith) k (omega arith) in
    table_same (offset_in (table_of a b)) (offset_in (table_of a b)) (start_in ps) (start_in ps) o o

pub places_total : (ps : List Put) → offset_in (sizes_in ps) 1290 ≡ total_of ps
unfolding total_of start_in sizes_in
places_total ps = offset_joined (λ i. 0) (λ j. 0 + length (content_of ps j)) (content_of ps) (λ j. omega arith) 1290 (omega arith)
