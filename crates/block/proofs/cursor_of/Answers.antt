use mathlib.Core.Path.{refl}
use Rattle.block.specs.Block.{cursor_of}
use Rattle.block.proofs.cursor_of.Goals as goal

pub returns : goal.returns
unfolding cursor_of
returns c = refl
