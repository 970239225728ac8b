-- What a head that was read leaves known.
use Rattle.std.specs.Prelude.{ℕ, ◌+◌, ◌^◌, ◌≤◌, ◌<◌, List}
use Rattle.block.specs.Block.{span_of, end_of, cursor_of}
use Rattle.block.specs.Streams.{type_stream}
use Rattle.sources.specs.Source.{Source}

-- its distance is within rule 2, and its bytes are there
pub record Headed (s : Source) (i d n : ℕ) : Type 0 where
  pub near : d ≤ n
  pub typed : cursor_of s.cur (span_of 0 type_stream) + 1 ≤ end_of s.dir (span_of 0 type_stream)
  pub four : cursor_of s.cur (span_of 0 i) + 4 ≤ end_of s.dir (span_of 0 i)

-- the cursors past it have 32 bits
pub record Passable (cur : List ℕ) (i : ℕ) : Type 0 where
  pub typed : cursor_of cur (span_of 0 type_stream) + 1 < 2 ^ 32
  pub four : cursor_of cur (span_of 0 i) + 4 < 2 ^ 32
