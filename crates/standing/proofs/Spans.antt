-- What is left of the spans once a cursor has moved.
use Prim.Native.Nat.{ℕ, ◌≤◌, ◌<◌}
use mathlib.Core.Path.{◌≡◌, sym, ap, ◌∙◌, subst}
use mathlib.Core.List.{List}
use native.Mathlib.Omega.{arith}
use borrow.Author.Tests.{eqb-true, eqb-false}
use lib.Dec.{eqb}
use lib.ListN.{length, set}
use Rattle.base.specs.Memory.{part}
use Rattle.base.proofs.Choice.{by_test}
use Rattle.block.specs.Block.{span_of, end_of, cursor_of}
use Rattle.block.proofs.Laws.{span_stream, cursor_set_same, cursor_set_other}
use Rattle.words.specs.Fronts.{Spans, leave}
use Rattle.words.proofs.Laws.{leave_same, leave_other}
use Rattle.standing.specs.Stands.{Left}

module _ (bytes dir cur : List ℕ) (spans : Spans) (l : Left bytes dir cur spans) (whole : length cur ≡ 1290) where
  pub left_set : (i c : ℕ) → i < 1290 → Left bytes dir (set cur i c) (leave spans i (part bytes c (end_of dir i)))
  left_set i c h j k =
      by_test (eqb j i)
      (λ t.
      subst (λ (n : ℕ). leave spans i (part bytes c (end_of dir i)) n ≡ part bytes (cursor_of (set cur i c) n) (end_of dir n)) (sym (eqb-true j i t))
      (leave_same spans i _ ∙ ap (λ (x : ℕ). part bytes x (end_of dir i)) (sym (cursor_set_same cur i c (omega (arith, h, whole))))))
      (λ t.
      let n : j ≡ i → ⊥ = eqb-false j i t in
      leave_other spans i _ j n ∙ l j k ∙ ap (λ (x : ℕ). part bytes x (end_of dir j)) (sym (cursor_set_other cur i c j n)))

-- two spans of one position
pub other_span : (p i j : ℕ) → i ≤ 9 → j ≤ 9 → (i ≡ j → ⊥) → span_of p i ≡ span_of p j → ⊥
other_span p i j a b n e = n (span_stream p i p j a b e)
