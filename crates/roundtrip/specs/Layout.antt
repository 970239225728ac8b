-- "Spans lie one after another in directory order with no gaps": what it means of a directory and bytes.
use Rattle.std.specs.Prelude.{ℕ, ◌+◌, ◌<◌, ◌≡◌, List, drop}
use Rattle.base.specs.Memory.{part}
use Rattle.block.specs.Block.{start_of, end_of}
use Rattle.laying.specs.Puts.{Put, content_of}

-- the first span starts at 0, each starts where the one before it ends, the total is the end of the last,
-- each span has what ps puts there, and from the total on the bytes are as they were
pub record LaidOut (ps : List Put) (dir bytes old : List ℕ) (total : ℕ) : Type 0 where
  pub first : start_of dir 0 ≡ 0
  pub gapless : (i : ℕ) → i + 1 < 1290 → end_of dir i ≡ start_of dir (i + 1)
  pub sum : end_of dir 1289 ≡ total
  pub spans : (i : ℕ) → i < 1290 → part bytes (start_of dir i) (end_of dir i) ≡ content_of ps i
  pub rest : drop total bytes ≡ drop total old
