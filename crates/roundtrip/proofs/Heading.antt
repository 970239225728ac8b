-- Position 0 read back: DUP or DIFF and its distance.
use Prim.Native.Nat.{ℕ, ◌+◌, ◌^◌, ◌≤◌, ◌<◌}
use Rattle.std.specs.Prelude.{Some, Ok}
use Rattle.distances.specs.declared.Reference.TheVariants as reference
use mathlib.Core.Path.{◌≡◌, refl, ap, ◌∙◌}
use mathlib.Core.List.{List, [], ◌∷◌}
use native.Mathlib.Omega.{arith}
use borrow.Author.Tests.{le-leb, eq-eqb, ne_eqb}
use Rattle.base.proofs.Choice.{pick_true, pick_false, both_of}
use Rattle.spans.specs.Spans.{cursor, four_bytes}
use Rattle.block.specs.Block.{span_of, cursor_of}
use Rattle.block.proofs.Laws.{span_below, span_stream}
use Rattle.block.specs.Streams.{type_stream, dup_stream, diff_stream}
use Rattle.numbering.specs.Types.{Rules}
use Rattle.sources.specs.Source.{source, byte_in, four_in}
use Rattle.moving.specs.Moves.{past}
use Rattle.distances.specs.Distances.{dup_head, diff_head}
use Rattle.heads.specs.Heads.{typed_head, head_of, head_past}
use Rattle.laying.specs.Puts.{Put, put}
use Rattle.roundtrip.proofs.Eating.{Left, first, eat, first_other}
use Rattle.roundtrip.proofs.Fronts.{byte_first, four_first}
use Rattle.numbering.proofs.Laws.{dup_not_diff}

module _ (rules : Rules) (bytes dir cur : List ℕ) (t i d : ℕ) (low : 1 ≤ i) (high : i ≤ 9) (small : d < 2 ^ 32) (rest : List Put)
    (l : Left bytes dir cur (put (span_of 0 0) (t ∷ []) ∷ put (span_of 0 i) (four_bytes d) ∷ rest)) where
  type_there : byte_in (source rules bytes dir cur) 0 0 ≡ Some (t, cursor (cursor_of cur (span_of 0 0) + 1))
  type_there = byte_first rules bytes dir cur 0 0 t (first bytes dir cur (span_of 0 0) (t ∷ []) (put (span_of 0 i) (four_bytes d) ∷ rest) (span_below 0 0 (omega arith) (omega arith)) l)

  typed : Left bytes dir (past cur (span_of 0 0) 1) (put (span_of 0 i) (four_bytes d) ∷ rest)
  typed = eat bytes dir cur (span_of 0 0) (t ∷ []) (put (span_of 0 i) (four_bytes d) ∷ rest) (span_below 0 0 (omega arith) (omega arith)) l

  distance_there : four_in (source rules bytes dir cur) 0 i ≡ Some (d, cursor (cursor_of cur (span_of 0 i) + 4))
  distance_there =
      four_first rules bytes dir cur 0 i d small
      (first_other bytes dir cur (span_of 0 0) 1 (span_of 0 i) (four_bytes d) (λ q. let z : i ≡ 0 = span_stream 0 i 0 0 high (omega arith) q in omega arith)
      (first bytes dir (past cur (span_of 0 0) 1) (span_of 0 i) (four_bytes d) rest (span_below 0 i (omega arith) high) typed))

  pub head_past_law : Left bytes dir (head_past cur i) rest
  unfolding head_past four_bytes
  head_past_law = eat bytes dir (past cur (span_of 0 0) 1) (span_of 0 i) (four_bytes d) rest (span_below 0 i (omega arith) high) typed

module _ (rules : Rules) (bytes dir cur : List ℕ) (n d : ℕ) (small : d < 2 ^ 32) (rest : List Put) where
  pub dup_head_law : 1 ≤ d → d ≤ n → Left bytes dir cur (put (span_of 0 type_stream) (rules.numbers.dup ∷ []) ∷ put (span_of 0 dup_stream) (four_bytes d) ∷ rest)
      → head_of (source rules bytes dir cur) n ≡ Ok (reference.Dup (record { 0 = d }))
  unfolding head_of typed_head dup_head
  dup_head_law h k l =
      ap (typed_head (source rules bytes dir cur) n) (type_there rules bytes dir cur rules.numbers.dup dup_stream d (omega arith) (omega arith) small rest l)
      ∙ pick_true _ _ (eq-eqb rules.numbers.dup rules.numbers.dup refl)
      ∙ ap (dup_head n) (distance_there rules bytes dir cur rules.numbers.dup dup_stream d (omega arith) (omega arith) small rest l)
      ∙ pick_true _ _ (both_of (le-leb _ _ h) (le-leb _ _ k))

  pub diff_head_law : d ≤ n → Left bytes dir cur (put (span_of 0 type_stream) (rules.numbers.diff ∷ []) ∷ put (span_of 0 diff_stream) (four_bytes d) ∷ rest)
      → head_of (source rules bytes dir cur) n ≡ Ok (reference.Diff (record { 0 = d }))
  unfolding head_of typed_head diff_head
  diff_head_law h l =
      ap (typed_head (source rules bytes dir cur) n) (type_there rules bytes dir cur rules.numbers.diff diff_stream d (omega arith) (omega arith) small rest l)
      ∙ pick_false _ _ (ne_eqb rules.numbers.diff rules.numbers.dup (dup_not_diff rules.numbers))
      ∙ pick_true _ _ (eq-eqb rules.numbers.diff rules.numbers.diff refl)
      ∙ ap (diff_head n) (distance_there rules bytes dir cur rules.numbers.diff diff_stream d (omega arith) (omega arith) small rest l)
      ∙ pick_true _ _ (le-leb _ _ h)
