use mathlib.Core.Path.{refl}
use Rattle.codes.specs.Codes.{packed}
use Rattle.codes.proofs.pack.Goals as goal

pub returns : goal.returns
unfolding packed
returns c = refl
