use Rattle.outcomes.specs.Outcomes.{refusing}
use mathlib.Core.Path.{refl}
use Rattle.outcomes.proofs.refuse.Goals as goal

pub returns : goal.returns
unfolding refusing
returns c = refl
