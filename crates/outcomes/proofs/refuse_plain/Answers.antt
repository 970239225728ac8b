use Rattle.outcomes.specs.Outcomes.{refusing_plain}
use mathlib.Core.Path.{refl}
use Rattle.outcomes.proofs.refuse_plain.Goals as goal

pub returns : goal.returns
unfolding refusing_plain
returns c = refl
