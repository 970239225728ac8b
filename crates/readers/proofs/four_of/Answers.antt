use native.Mathlib.Omega.{arith}
use Rattle.readers.specs.Readers.{four_of}
use Rattle.readers.proofs.Laws.{left_within}
use Rattle.readers.proofs.four_of.Goals as goal

pub next_four-requires : goal.next_four-requires
next_four-requires c = omega (arith, c.left_end.ensures, left_within c.args.left.now)

pub returns : goal.returns
unfolding four_of
returns c = rw (← c.left_end.ensures) c.next_four.ensures
