-- Cursors behind which the streams hold what is yet to be read: each put is met in its span, and past it the rest is held.
use Prim.Native.Nat.{ℕ, ◌+◌, ◌*◌, ◌≤◌, ◌<◌}
use mathlib.Core.Path.{◌≡◌, refl, ap, ◌∙◌, subst}
use mathlib.Core.List.{List, [], ◌∷◌, ◌++◌}
use native.Mathlib.Omega.{arith}
use borrow.Author.Tests.{eqb-true, eqb-false}
use lib.Dec.{eqb}
use lib.ListN.{length, length-append}
use Rattle.base.proofs.Choice.{by_test}
use Rattle.base.proofs.Holding.{Holds, holds_left, holds_right}
use Rattle.block.specs.Block.{start_of, end_of, cursor_of}
use Rattle.block.specs.Open.{Open}
use Rattle.block.proofs.Laws.{cursor_set_same, cursor_set_other}
use Rattle.laying.specs.Puts.{Put, put, content_of}
use Rattle.laying.proofs.Passes.{share_same, share_other, content_more}
use Rattle.moving.specs.Moves.{past}
use Rattle.moving.proofs.Moves.{length_past}

-- What puts add to a span

pub content_none : (i : ℕ) → content_of [] i ≡ []
unfolding content_of
content_none i = refl

module _ (k : ℕ) (xs : List ℕ) (ps : List Put) (i : ℕ) where
  pub content_here : i ≡ k → content_of (put k xs ∷ ps) i ≡ xs ++ content_of ps i
  content_here e = content_more (put k xs) ps i ∙ ap (λ (l : List ℕ). l ++ content_of ps i) (share_same (put k xs) i e)

  pub content_other : (i ≡ k → ⊥) → content_of (put k xs ∷ ps) i ≡ content_of ps i
  content_other f = content_more (put k xs) ps i ∙ ap (λ (l : List ℕ). l ++ content_of ps i) (share_other (put k xs) i f)

-- the streams of a block, from the cursors to the ends, are what ps puts into them
pub record Left (bytes dir cur : List ℕ) (ps : List Put) : Type 0 where
  pub table : length cur ≡ 1290
  pub started : (i : ℕ) → i < 1290 → start_of dir i ≤ cursor_of cur i
  pub ends : (i : ℕ) → i < 1290 → cursor_of cur i + length (content_of ps i) ≡ end_of dir i
  pub holds : (i : ℕ) → i < 1290 → Holds bytes (cursor_of cur i) (content_of ps i)

-- some bytes stand at a span's cursor
pub record First (bytes dir cur : List ℕ) (k : ℕ) (xs : List ℕ) : Type 0 where
  pub room : cursor_of cur k + length xs ≤ end_of dir k
  pub holds : Holds bytes (cursor_of cur k) xs

pub past_here : (cur : List ℕ) (k n : ℕ) → k < length cur → cursor_of (past cur k n) k ≡ cursor_of cur k + n
unfolding past
past_here cur k n h = cursor_set_same cur k (cursor_of cur k + n) h

pub past_other : (cur : List ℕ) (k n i : ℕ) → (i ≡ k → ⊥) → cursor_of (past cur k n) i ≡ cursor_of cur i
unfolding past
past_other cur k n i f = cursor_set_other cur k (cursor_of cur k + n) i f

module _ (bytes dir cur : List ℕ) (k : ℕ) (xs : List ℕ) (ps : List Put) (h : k < 1290) (l : Left bytes dir cur (put k xs ∷ ps)) where
  pub first : First bytes dir cur k xs
  first =
      let c : content_of (put k xs ∷ ps) k ≡ xs ++ content_of ps k = content_here k xs ps k refl in
      record {
        room = omega (arith, l.ends k h, ap length c, length-append xs (content_of ps k));
        holds = holds_left bytes (cursor_of cur k) xs (content_of ps k) (subst (λ (x : List ℕ). Holds bytes (cursor_of cur k) x) c (l.holds k h));
      }

  here : k < length cur
  here = omega (arith, l.table)

  -- past the put, the rest is left
  pub eat : Left bytes dir (past cur k (length xs)) ps
  eat =
      record {
        table = length_past cur k (length xs) ∙ l.table;
        started = λ i g. by_test (eqb i k)
            (λ t. rw (eqb-true i k t) (omega (arith, l.started k h, past_here cur k (length xs) here)))
            (λ t. omega (arith, l.started i g, past_other cur k (length xs) i (eqb-false i k t)));
        ends = λ i g. by_test (eqb i k)
            (λ t.
            let c : content_of (put k xs ∷ ps) k ≡ xs ++ content_of ps k = content_here k xs ps k refl in
            rw (eqb-true i k t) (omega (arith, l.ends k h, past_here cur k (length xs) here, ap length c, length-append xs (content_of ps k))))
            (λ t. omega (arith, l.ends i g, past_other cur k (length xs) i (eqb-false i k t), ap length (content_other k xs ps i (eqb-false i k t))));
        holds = λ i g. by_test (eqb i k)
            (λ t.
            let c : content_of (put k xs ∷ ps) k ≡ xs ++ content_of ps k = content_here k xs ps k refl in
            let q : Holds bytes (cursor_of cur k + length xs) (content_of ps k) =
            holds_right bytes (cursor_of cur k) xs (content_of ps k) (subst (λ (x : List ℕ). Holds bytes (cursor_of cur k) x) c (l.holds k h)) in
            rw (eqb-true i k t, past_here cur k (length xs) here) q)
            (λ t.
            rw (past_other cur k (length xs) i (eqb-false i k t))
            (subst (λ (x : List ℕ). Holds bytes (cursor_of cur i) x) (content_other k xs ps i (eqb-false i k t)) (l.holds i g)));
      }

-- what stands at one span's cursor stands there whatever another span's cursor does
pub first_other : (bytes dir cur : List ℕ) (j n k : ℕ) (xs : List ℕ) → (k ≡ j → ⊥) → First bytes dir (past cur j n) k xs → First bytes dir cur k xs
first_other bytes dir cur j n k xs f a =
    let e : cursor_of (past cur j n) k ≡ cursor_of cur k = past_other cur j n k f in
    record { room = omega (arith, a.room); holds = subst (λ (c : ℕ). Holds bytes c xs) e a.holds }

-- the cursors past some puts
unfoldable pub eaten : List ℕ → List Put → List ℕ
eaten cur [] = cur
eaten cur (p ∷ ps) = eaten (past cur p.span (length p.bytes)) ps

-- puts into the spans of positions from p up to q, but not q
unfoldable pub Between : ℕ → ℕ → List Put → Type 0
Between p q [] = Unit
Between p q (x ∷ ps) = ((10 * p ≤ x.span) × (x.span < 10 * q)) × Between p q ps

pub left_eaten : (bytes dir cur : List ℕ) (p q : ℕ) (ps rest : List Put) → q ≤ 129 → Between p q ps → Left bytes dir cur (ps ++ rest) → Left bytes dir (eaten cur ps) rest
unfolding eaten Between
left_eaten bytes dir cur p q [] rest h b l = l
left_eaten bytes dir cur p q (x ∷ ps) rest h b l =
    left_eaten bytes dir (past cur x.span (length x.bytes)) p q ps rest h b.1 (eat bytes dir cur x.span x.bytes (ps ++ rest) (omega arith) l)

-- the cursors of positions from q on stay
pub eaten_later : (cur : List ℕ) (p q : ℕ) (ps : List Put) → Between p q ps → (j : ℕ) → 10 * q ≤ j → cursor_of (eaten cur ps) j ≡ cursor_of cur j
unfolding eaten Between
eaten_later cur p q [] b j h = refl
eaten_later cur p q (x ∷ ps) b j h =
    eaten_later (past cur x.span (length x.bytes)) p q ps b.1 j h
    ∙ past_other cur x.span (length x.bytes) j (λ e. omega (arith, b.0.1))

-- with nothing left to read every cursor is at its end
pub left_none : (bytes dir cur : List ℕ) → Left bytes dir cur [] → (i : ℕ) → i < 1290 → cursor_of cur i ≡ end_of dir i
left_none bytes dir cur l i h = omega (arith, l.ends i h, ap length (content_none i))

-- a block whose streams hold something is open
pub left_open : (bytes dir cur : List ℕ) (ps : List Put) → length dir ≡ 2580 → ((i : ℕ) → i < 1290 → end_of dir i ≤ length bytes) → Left bytes dir cur ps → Open bytes dir cur
left_open bytes dir cur ps d w l =
    record {
      directory = d;
      table = l.table;
      ordered = λ i h. omega (arith, l.started i h, l.ends i h);
      within = w;
      started = l.started;
      unpassed = λ i h. omega (arith, l.ends i h);
    }
