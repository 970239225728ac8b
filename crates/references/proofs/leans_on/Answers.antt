use mathlib.Core.Path.{refl, sym, ◌∙◌}
use Rattle.base.proofs.Choice.{took, left}
use Rattle.references.specs.References.{leans_on}
use Rattle.references.proofs.leans_on.Goals as goal

pub returns-then-is_anew : goal.returns-then-is_anew
unfolding leans_on
returns-then-is_anew c = took _ _ (sym c.is_anew.ensures ∙ c.if-is_anew.true) refl

pub returns : goal.returns
unfolding leans_on
returns c = left _ _ (sym c.is_anew.ensures ∙ c.if-is_anew.false) refl
