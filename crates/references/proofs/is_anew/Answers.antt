use mathlib.Core.Path.{refl}
use Rattle.references.specs.References.{anew}
use Rattle.references.proofs.is_anew.Goals as goal

pub returns : goal.returns
unfolding anew
returns c = refl
