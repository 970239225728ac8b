use mathlib.Core.Path.{sym, ap, ◌∙◌}
use native.Mathlib.Omega.{arith}
use Rattle.classes.proofs.Laws.{told, told_class, told_other}
use Rattle.classes.proofs.class_in.Goals as goal

pub returns-in-2 : goal.returns-in-2
unfolding told
returns-in-2 c = ap told (sym c.in-2.is) ∙ told_class _ c.tabled_in.ensures

pub returns-in-3 : goal.returns-in-3
unfolding told
returns-in-3 c = ap told (sym c.in-3.is) ∙ told_class _ c.tabled_in.ensures

pub returns-in_default : goal.returns-in_default
returns-in_default c = sym (told_other _ (omega arith) (omega arith)) ∙ told_class _ c.tabled_in.ensures
