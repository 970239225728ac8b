use native.Mathlib.Omega.{arith}
use Rattle.readers.specs.Readers.{text_of}
use Rattle.readers.proofs.Laws.{left_within}
use Rattle.readers.proofs.text_of.Goals as goal

pub next_text-requires : goal.next_text-requires
next_text-requires c = omega (arith, c.left_end.ensures, left_within c.args.left.now)

pub returns : goal.returns
unfolding text_of
returns c = rw (← c.left_end.ensures) c.next_text.ensures
