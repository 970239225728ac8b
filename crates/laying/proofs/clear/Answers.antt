use mathlib.Core.Path.{◌∙◌}
use Rattle.laying.proofs.Tables.{cleared_zeros}
use Rattle.laying.proofs.clear.Goals as goal

pub returns : goal.returns
returns c = (rw c.requires at c.fill.ensures.after (λ y e. e)) ∙ cleared_zeros
