-- What a position's spans give, case by case.
use Prim.Native.Nat.{ℕ, ◌+◌, ◌≤◌, ◌<◌}
use Rattle.spans.specs.Spans.{Next}
use Rattle.spans.specs.declared.Bytes.{Bytes}
use Rattle.std.specs.Prelude.{Some, None, Option}
use mathlib.Core.Path.{refl}
use borrow.Author.Tests.{leb-true, ltb-true}
use lib.Dec.{leb, ltb}
use lib.ListN.{get_or}
use Rattle.base.proofs.Choice.{pick_holds}
use Rattle.spans.specs.Spans.{cursor, byte_at, four, four_at, text_end, text_at}
use Rattle.spans.proofs.Laws.{end_found}
use Rattle.block.specs.Block.{span_of, end_of, cursor_of}
use Rattle.sources.specs.Source.{Source, byte_in, four_in, text_in}

-- a span's cursor and its end
abbrev pub at : Source → ℕ → ℕ → ℕ
at s p i = cursor_of s.cur (span_of p i)

abbrev pub stop : Source → ℕ → ℕ → ℕ
stop s p i = end_of s.dir (span_of p i)

module _ (s : Source) (p i : ℕ) where
  pub byte_cases : (P : Next → Type 0) → (at s p i + 1 ≤ stop s p i → P (Some (get_or s.bytes (at s p i) 0, cursor (at s p i + 1))))
      → P None → P (byte_in s p i)
  unfolding byte_in byte_at
  byte_cases P f g = pick_holds P (leb (at s p i + 1) (stop s p i)) _ _ (λ h. f (leb-true _ _ h)) (λ h. g)

  pub four_cases : (P : Next → Type 0) → (at s p i + 4 ≤ stop s p i → P (Some (four s.bytes (at s p i), cursor (at s p i + 4))))
      → P None → P (four_in s p i)
  unfolding four_in four_at
  four_cases P f g = pick_holds P (leb (at s p i + 4) (stop s p i)) _ _ (λ h. f (leb-true _ _ h)) (λ h. g)

  pub text_cases : (P : Option Bytes → Type 0)
      → ((z : ℕ) → at s p i ≤ z → z < stop s p i → P (Some (record { start = cursor (at s p i); end = cursor z; next = cursor (z + 1) })))
      → P None → P (text_in s p i)
  unfolding text_in text_at
  text_cases P f g =
      let z = text_end s.bytes (at s p i) (stop s p i) in
      pick_holds P (ltb z (stop s p i)) _ _
      (λ h. let l : z < stop s p i = ltb-true _ _ h in f z (end_found s.bytes (at s p i) (stop s p i) refl l).low l)
      (λ h. g)

-- a cursor between where a span's stood and the span's end
abbrev pub Between : Source → ℕ → ℕ → ℕ → Type 0
Between s p i c = (at s p i ≤ c) × (c ≤ stop s p i)
