use mathlib.Core.Path.{sym, ap, ◌∙◌}
use Rattle.leaves.proofs.Laws.{judged_number, judged_said}
use Rattle.leaves.proofs.leaf_judge.Goals as goal

pub returns-in-Ok : goal.returns-in-Ok
unfolding judged_number
returns-in-Ok c = ap judged_number (sym c.in-Ok.is) ∙ judged_said _ _ _ c.judge.ensures

pub returns-in-Err : goal.returns-in-Err
unfolding judged_number
returns-in-Err c = c.number.ensures ∙ ap judged_number (sym c.in-Err.is) ∙ judged_said _ _ _ c.judge.ensures
