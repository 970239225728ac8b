use mathlib.Core.Path.{refl}
use Rattle.block.specs.Block.{end_of}
use Rattle.block.proofs.end_of.Goals as goal

pub returns : goal.returns
unfolding end_of
returns c = refl
