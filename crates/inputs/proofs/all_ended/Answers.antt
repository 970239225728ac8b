use mathlib.Core.Path.{refl}
use borrow.Author.Tests.{eq-eqb, ne_eqb}
use Rattle.base.proofs.Choice.{took, left}
use Rattle.inputs.specs.Inputs.{ended}
use Rattle.inputs.proofs.all_ended.Goals as goal

pub returns-then-n-eq0 : goal.returns-then-n-eq0
unfolding ended
returns-then-n-eq0 c = took _ _ (eq-eqb _ _ c.if-n-eq0.true) refl

pub returns : goal.returns
unfolding ended
returns c = left _ _ (ne_eqb _ _ c.if-n-eq0.false) refl
