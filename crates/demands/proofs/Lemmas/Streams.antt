-- What a span gives next, where it has so many bytes left.
use Prim.Native.Nat.{ℕ, ◌+◌}
use Rattle.spans.specs.Spans.{Next}
use Rattle.std.specs.Prelude.{Some, None}
use Rattle.base.proofs.Choice.{pick_holds}
use Rattle.spans.specs.Spans.{byte_at, four_at}
use Rattle.block.specs.Block.{span_of, cursor_of}
use Rattle.sources.specs.Source.{Source, byte_in, four_in}

pub byte_way : (P : Next → Type 0) (s : Source) (p i : ℕ) → ((b : ℕ) → P (Some (b, record { 0 = cursor_of s.cur (span_of p i) + 1 }))) → P None → P (byte_in s p i)
unfolding byte_in byte_at
byte_way P s p i f g = pick_holds P _ _ _ (λ e. f _) (λ e. g)

pub four_way : (P : Next → Type 0) (s : Source) (p i : ℕ) → ((n : ℕ) → P (Some (n, record { 0 = cursor_of s.cur (span_of p i) + 4 }))) → P None → P (four_in s p i)
unfolding four_in four_at
four_way P s p i f g = pick_holds P _ _ _ (λ e. f _) (λ e. g)
