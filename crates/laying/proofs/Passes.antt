-- What is known of a pass: it goes on where it stopped, and what it leaves when it finds the total and when it counts the sizes.
use Prim.Native.Nat.{ℕ, ◌+◌, ◌-◌, ◌^◌, ◌<◌}
use mathlib.Core.Path.{◌≡◌, refl, sym, ap, ◌∙◌, subst}
use mathlib.Core.Bool.{true}
use mathlib.Core.List.{List, [], ◌∷◌, ◌++◌, append_assoc}
use native.Mathlib.Omega.{arith}
use borrow.Author.Tests.{eq-eqb, ne_eqb}
use lib.ListN.{length, length-append}
use Rattle.base.specs.Choice.{pick}
use Rattle.base.proofs.Choice.{pick_true, pick_false, never}
use Rattle.laying.specs.declared.Pass.{Pass}
use Rattle.laying.specs.declared.Pass.TheVariants.{Total, Sizes}
use Rattle.laying.specs.Puts.{Put, share, content_of, joined, start_in, table_of, total_of}
use Rattle.laying.specs.Passes.{counts, fills, World, world, moved, step_of, run_of, Roomy}
use Rattle.laying.proofs.Joined.{length_joined_sum, length_joined_none, joined_at}
use Rattle.laying.proofs.Tables.{length_table, end_table, moved_table, table_same}

-- Shares and contents

pub share_same : (p : Put) (i : ℕ) → i ≡ p.span → share p i ≡ p.bytes
unfolding share
share_same p i e = pick_true _ _ (eq-eqb _ _ e)

pub share_other : (p : Put) (i : ℕ) → (i ≡ p.span → ⊥) → share p i ≡ []
unfolding share
share_other p i f = pick_false _ _ (ne_eqb _ _ f)

pub content_more : (p : Put) (ps : List Put) (i : ℕ) → content_of (p ∷ ps) i ≡ share p i ++ content_of ps i
unfolding content_of
content_more p ps i = refl

pub length_content : (p : Put) (ps : List Put) (i : ℕ) → length (content_of (p ∷ ps) i) ≡ length (share p i) + length (content_of ps i)
length_content p ps i = ap length (content_more p ps i) ∙ length-append (share p i) (content_of ps i)

pub content_append : (ps qs : List Put) (i : ℕ) → content_of (ps ++ qs) i ≡ content_of ps i ++ content_of qs i
unfolding content_of
content_append [] qs i = refl
content_append (p ∷ ps) qs i = ap (λ (l : List ℕ). share p i ++ l) (content_append ps qs i) ∙ sym (append_assoc (share p i) (content_of ps i) (content_of qs i))

-- Puts that name one of the 1,290 spans

abbrev pub Inside : List Put → Type 0
Inside [] = Unit
Inside (p ∷ ps) = (p.span < 1290) × Inside ps

pub inside_append : (ps qs : List Put) → Inside ps → Inside qs → Inside (ps ++ qs)
inside_append [] qs u v = v
inside_append (p ∷ ps) qs u v = (u.0, inside_append ps qs u.1 v)

-- all bytes that are put
abbrev pub size_of : List Put → ℕ
size_of [] = 0
size_of (p ∷ ps) = length p.bytes + size_of ps

pub size_append : (ps qs : List Put) → size_of (ps ++ qs) ≡ size_of ps + size_of qs
size_append [] qs = let e : size_of qs ≡ 0 + size_of qs = omega arith in e
size_append (p ∷ ps) qs = omega (arith, size_append ps qs)

length_share : (p : Put) → p.span < 1290 → length (joined (share p) 0 1290) ≡ length p.bytes
length_share p h =
    let k : ℕ = p.span in
    let l : length (joined (share p) 0 k) ≡ 0 = length_joined_none (share p) k 0 (λ j g m. ap length (share_other p j (λ e. omega arith))) in
    let r : length (joined (share p) (k + 1) (1290 - (k + 1))) ≡ 0 = length_joined_none (share p) (1290 - (k + 1)) (k + 1) (λ j g m. ap length (share_other p j (λ e. omega arith))) in
    let s : length (share p k) ≡ length p.bytes = ap length (share_same p k refl) in
    ap length (joined_at (share p) k 1290 h)
    ∙ length-append (joined (share p) 0 k ++ share p k) (joined (share p) (k + 1) (1290 - (k + 1)))
    ∙ omega (arith, length-append (joined (share p) 0 k) (share p k))

nothing : (j : ℕ) → length (content_of [] j) ≡ 0
unfolding content_of
nothing j = refl

pub size_total : (ps : List Put) → Inside ps → size_of ps ≡ total_of ps
unfolding total_of start_in
size_total [] u = sym (length_joined_none (content_of []) 1290 0 (λ j g m. nothing j))
size_total (p ∷ ps) u =
    omega (arith, size_total ps u.1, length_share p u.0, length_joined_sum (content_of (p ∷ ps)) (share p) (content_of ps) 1290 0 (length_content p ps))

-- A pass over some puts and then over others

pub run_none : (pass : Pass) (w : World) → run_of pass [] w ≡ w
unfolding run_of
run_none pass w = refl

pub run_one : (pass : Pass) (p : Put) (ps : List Put) (w : World) → run_of pass (p ∷ ps) w ≡ run_of pass ps (step_of pass p w)
unfolding run_of
run_one pass p ps w = refl

pub run_append : (pass : Pass) (ps qs : List Put) (w : World) → run_of pass (ps ++ qs) w ≡ run_of pass qs (run_of pass ps w)
unfolding run_of
run_append pass [] qs w = refl
run_append pass (p ∷ ps) qs w = run_append pass ps qs (step_of pass p w)

pub roomy_append : (pass : Pass) (ps qs : List Put) (w : World) → Roomy pass (ps ++ qs) w → Roomy pass ps w × Roomy pass qs (run_of pass ps w)
unfolding Roomy run_of
roomy_append pass [] qs w r = (tt, r)
roomy_append pass (p ∷ ps) qs w r = let s = roomy_append pass ps qs (step_of pass p w) r.1 in ((r.0, s.0), s.1)

-- The total: directory and bytes stay

total_step : (p : Put) (t : ℕ) (d y : List ℕ) → step_of Total p (world t d y) ≡ world (t + length p.bytes) d y
unfolding step_of counts fills pick
total_step p t d y = refl

pub total_run : (ps : List Put) (t : ℕ) (d y : List ℕ) → run_of Total ps (world t d y) ≡ world (t + size_of ps) d y
total_run [] t d y = run_none Total (world t d y) ∙ ap (λ (n : ℕ). world n d y) (let e : t ≡ t + 0 = omega arith in e)
total_run (p ∷ ps) t d y =
    run_one Total p ps (world t d y) ∙ ap (run_of Total ps) (total_step p t d y) ∙ total_run ps (t + length p.bytes) d y
    ∙ ap (λ (n : ℕ). world n d y) (let e : t + length p.bytes + size_of ps ≡ t + (length p.bytes + size_of ps) = omega arith in e)

never_counts : counts Total ≡ true → ⊥
unfolding counts
never_counts e = never e

never_fills : fills Total ≡ true → ⊥
unfolding fills
never_fills e = never e

pub total_roomy : (ps : List Put) (t : ℕ) (d y : List ℕ) → Inside ps → length d ≡ 2580 → t + size_of ps < 2 ^ 32 → Roomy Total ps (world t d y)
unfolding Roomy
total_roomy [] t d y u l h = tt
total_roomy (p ∷ ps) t d y u l h = (
  record { inside = u.0; table = l; sum = omega arith; count = λ e. absurd (never_counts e); place = λ e. absurd (never_fills e) },
  subst (Roomy Total ps) (sym (total_step p t d y)) (total_roomy ps (t + length p.bytes) d y u.1 l (omega arith)),
)

-- The sizes: the bytes stay

-- an end with one put more
unfoldable pub ends_more : (p : Put) (b : ℕ → ℕ) → ℕ → ℕ
ends_more p b j = b j + length (share p j)

pub moved_more : (p : Put) (a b : ℕ → ℕ) → p.span < 1290 → moved (table_of a b) p.span (length p.bytes) ≡ table_of a (ends_more p b)
unfolding ends_more
moved_more p a b h =
    moved_table a b p.span h (ends_more p b) (length p.bytes)
    (ap (λ (l : List ℕ). b p.span + length l) (share_same p p.span refl))
    (λ j f. let e : length (share p j) ≡ 0 = ap length (share_other p j f) in omega arith)

-- and with all
pub ends_all : (p : Put) (ps : List Put) (b : ℕ → ℕ) (j : ℕ) → ends_more p b j + length (content_of ps j) ≡ b j + length (content_of (p ∷ ps) j)
unfolding ends_more
ends_all p ps b j = omega (arith, length_content p ps j)

sizes_step : (p : Put) (t : ℕ) (a b : ℕ → ℕ) (y : List ℕ) → p.span < 1290
    → step_of Sizes p (world t (table_of a b) y) ≡ world (t + length p.bytes) (table_of a (ends_more p b)) y
unfolding step_of counts fills pick
sizes_step p t a b y h = ap (λ (d : List ℕ). world (t + length p.bytes) d y) (moved_more p a b h)

pub sizes_run : (ps : List Put) (t : ℕ) (a b : ℕ → ℕ) (y : List ℕ) → Inside ps
    → run_of Sizes ps (world t (table_of a b) y) ≡ world (t + size_of ps) (table_of a (λ j. b j + length (content_of ps j))) y
sizes_run [] t a b y u =
    run_none Sizes (world t (table_of a b) y)
    ∙ ap (λ (n : ℕ). world n (table_of a b) y) (let e : t ≡ t + 0 = omega arith in e)
    ∙ ap (λ (d : List ℕ). world (t + 0) d y) (table_same a b a (λ j. b j + length (content_of [] j)) (λ j h. refl) (λ j h. omega (arith, nothing j)))
sizes_run (p ∷ ps) t a b y u =
    run_one Sizes p ps (world t (table_of a b) y) ∙ ap (run_of Sizes ps) (sizes_step p t a b y u.0)
    ∙ sizes_run ps (t + length p.bytes) a (ends_more p b) y u.1
    ∙ ap (λ (n : ℕ). world n (table_of a (λ j. ends_more p b j + length (content_of ps j))) y) (let e : t + length p.bytes + size_of ps ≡ t + (length p.bytes + size_of ps) = omega arith in e)
    ∙ ap (λ (d : List ℕ). world (t + (length p.bytes + size_of ps)) d y)
    (table_same a (λ j. ends_more p b j + length (content_of ps j)) a (λ j. b j + length (content_of (p ∷ ps) j)) (λ j h. refl) (λ j h. ends_all p ps b j))

sizes_fills : fills Sizes ≡ true → ⊥
unfolding fills
sizes_fills e = never e

-- the span that a put names gets its bytes
pub content_first : (p : Put) (ps : List Put) → length (content_of (p ∷ ps) p.span) ≡ length p.bytes + length (content_of ps p.span)
content_first p ps = length_content p ps p.span ∙ ap (λ (l : List ℕ). length l + length (content_of ps p.span)) (share_same p p.span refl)

pub sizes_roomy : (ps : List Put) (t : ℕ) (a b : ℕ → ℕ) (y : List ℕ) → Inside ps → t + size_of ps < 2 ^ 32
    → ((j : ℕ) → b j + length (content_of ps j) < 2 ^ 32) → Roomy Sizes ps (world t (table_of a b) y)
unfolding Roomy
sizes_roomy [] t a b y u h k = tt
sizes_roomy (p ∷ ps) t a b y u h k = (
  record {
    inside = u.0;
    table = length_table a b;
    sum = omega arith;
    count = λ e. omega (arith, end_table a b p.span u.0, content_first p ps, k p.span);
    place = λ e. absurd (sizes_fills e);
  },
  subst (Roomy Sizes ps) (sym (sizes_step p t a b y u.0))
      (sizes_roomy ps (t + length p.bytes) a (ends_more p b) y u.1 (omega arith) (λ j. omega (arith, ends_all p ps b j, k j))),
)
