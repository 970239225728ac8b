use native.Mathlib.Omega.{arith}
use Rattle.readers.specs.Readers.{byte_of}
use Rattle.readers.proofs.Laws.{left_within}
use Rattle.readers.proofs.byte_of.Goals as goal

pub next_byte-requires : goal.next_byte-requires
next_byte-requires c = omega (arith, c.left_end.ensures, left_within c.args.left.now)

pub returns : goal.returns
unfolding byte_of
returns c = rw (← c.left_end.ensures) c.next_byte.ensures
