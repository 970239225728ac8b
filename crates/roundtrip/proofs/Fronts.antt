-- What stands at a span's cursor is what the span gives next.
use Prim.Native.Nat.{ℕ, ◌+◌, ◌^◌, ◌<◌}
use Rattle.std.specs.Prelude.{Some}
use mathlib.Core.Path.{◌≡◌, sym, ap, ◌∙◌}
use mathlib.Core.List.{List, [], ◌∷◌, ◌++◌}
use native.Mathlib.Omega.{arith}
use lib.ListN.{length, get_or, length-append}
use Rattle.base.specs.Memory.{part}
use Rattle.base.proofs.Holding.{holds_part, holds_left}
use Rattle.spans.specs.Spans.{cursor, four_bytes}
use Rattle.spans.proofs.Laws.{byte_back, four_back, text_back}
use Rattle.block.specs.Block.{span_of, end_of, cursor_of}
use Rattle.sources.specs.Source.{source, byte_in, four_in, text_in}
use Rattle.roundtrip.proofs.Eating.{First}
use Rattle.numbering.specs.Types.{Rules}

module _ (rules : Rules) (bytes dir cur : List ℕ) (p i : ℕ) where
  pub byte_first : (b : ℕ) → First bytes dir cur (span_of p i) (b ∷ []) → byte_in (source rules bytes dir cur) p i ≡ Some (b, cursor (cursor_of cur (span_of p i) + 1))
  unfolding byte_in
  byte_first b f = byte_back bytes (cursor_of cur (span_of p i)) (end_of dir (span_of p i)) b (holds_part bytes (cursor_of cur (span_of p i)) (b ∷ []) f.holds) f.room

  pub four_first : (v : ℕ) → v < 2 ^ 32 → First bytes dir cur (span_of p i) (four_bytes v)
      → four_in (source rules bytes dir cur) p i ≡ Some (v, cursor (cursor_of cur (span_of p i) + 4))
  unfolding four_in four_bytes
  four_first v h f = four_back bytes (cursor_of cur (span_of p i)) (end_of dir (span_of p i)) v h (holds_part bytes (cursor_of cur (span_of p i)) (four_bytes v) f.holds) f.room

  pub text_first : (s : List ℕ) → ((k : ℕ) → k < length s → get_or s k 0 ≡ 0 → ⊥) → First bytes dir cur (span_of p i) (s ++ 0 ∷ [])
      → text_in (source rules bytes dir cur) p i
      ≡ Some (record { start = cursor (cursor_of cur (span_of p i)); end = cursor (cursor_of cur (span_of p i) + length s); next = cursor (cursor_of cur (span_of p i) + length s + 1) })
  unfolding text_in
  text_first s z f =
      let at : ℕ = cursor_of cur (span_of p i) in
      let e : at + length (s ++ 0 ∷ []) ≡ at + length s + 1 = omega (arith, length-append s (0 ∷ [])) in
      text_back bytes at (end_of dir (span_of p i)) s (ap (part bytes at) (sym e) ∙ holds_part bytes at (s ++ 0 ∷ []) f.holds) z (omega (arith, f.room))

  -- the text itself
  pub text_there : (s : List ℕ) → First bytes dir cur (span_of p i) (s ++ 0 ∷ []) → part bytes (cursor_of cur (span_of p i)) (cursor_of cur (span_of p i) + length s) ≡ s
  text_there s f = let at : ℕ = cursor_of cur (span_of p i) in holds_part bytes at s (holds_left bytes at s (0 ∷ []) f.holds)
