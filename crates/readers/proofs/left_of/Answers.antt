use mathlib.Core.Path.{refl}
use Rattle.base.specs.Memory.{part}
use Rattle.readers.proofs.left_of.Goals as goal

pub returns : goal.returns
unfolding part
returns c = refl
