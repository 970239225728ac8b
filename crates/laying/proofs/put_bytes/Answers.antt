use native.Mathlib.Omega.{arith}
use Rattle.base.specs.Choice.{pick}
use Rattle.block.specs.Block.{end_of}
use Rattle.laying.specs.Passes.{counts, fills, moved, step_of}
use Rattle.laying.proofs.put_bytes.Goals as goal
use Rattle.laying.proofs.put_bytes.Goals.{in-Total, in-Sizes, in-Fill}

pub overflow_add-directory : goal.overflow_add-directory
unfolding end_of counts
overflow_add-directory c = record { fits = c.requires.count (rw c.in-Sizes.is) }

pub put_all-requires : goal.put_all-requires
unfolding end_of fills
put_all-requires c = omega (arith, c.requires.place (rw c.in-Fill.is))

pub overflow_add-directory-in-Fill : goal.overflow_add-directory-in-Fill
unfolding end_of counts
overflow_add-directory-in-Fill c = record { fits = c.requires.count (rw c.in-Fill.is) }

pub returns : goal.returns
unfolding step_of counts fills pick moved end_of
returns c = elim c.match-pass.branch [
  | in-Total w ↦ rw (w.in-Total.is, w.directory-is, w.bytes-is)
  | in-Sizes w ↦ rw (w.in-Sizes.is, w.directory-is, w.bytes-is)
  | in-Fill w ↦ rw (w.in-Fill.is, w.directory-is, w.bytes-is, w.put_all.ensures)
]
