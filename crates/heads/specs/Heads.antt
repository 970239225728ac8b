-- Position 0: DUP or DIFF, and the distance.
use Rattle.std.specs.Prelude.{ℕ, List, eqb, Some, None, Err}
use Rattle.spans.specs.Spans.{Next}
use Rattle.distances.specs.Distances.{Head, dup_head, diff_head}
use Rattle.refusals.specs.declared.Reason.TheVariants as reason
use Rattle.base.specs.Choice.{pick}
use Rattle.block.specs.Block.{span_of}
use Rattle.block.specs.Streams.{type_stream, dup_stream, diff_stream}
use Rattle.sources.specs.Source.{Source, byte_in, four_in}
use Rattle.moving.specs.Moves.{past}

-- a distance is four bytes from the DUP or DIFF span of position 0
abbrev pub distance_in : Source → ℕ → Next
distance_in s stream = four_in s 0 stream

-- rule 1: the type at position 0, DUP or DIFF, and the distance
unfoldable pub typed_head : Source → ℕ → Next → Head
typed_head s n (Some (t, c)) =
    pick (eqb t s.rules.numbers.dup) (dup_head n (distance_in s dup_stream))
    (pick (eqb t s.rules.numbers.diff) (diff_head n (distance_in s diff_stream))
    (Err reason.UnknownType))
typed_head s n None = Err reason.Short

unfoldable pub head_of : Source → ℕ → Head
head_of s n = typed_head s n (byte_in s 0 type_stream)

-- the cursors past the type and the distance at position 0
unfoldable pub head_past : List ℕ → ℕ → List ℕ
head_past cur stream = past (past cur (span_of 0 type_stream) 1) (span_of 0 stream) 4
