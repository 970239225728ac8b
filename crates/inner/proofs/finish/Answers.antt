use Rattle.inner.proofs.Outcomes.{finish_done, finish_short}
use mathlib.Core.Path.{sym, ◌∙◌}
use Rattle.inner.proofs.finish.Goals as goal

pub returns-then-at_end : goal.returns-then-at_end
returns-then-at_end c = finish_done _ (sym c.at_end.ensures ∙ c.if-at_end.true)

pub returns-else-at_end : goal.returns-else-at_end
returns-else-at_end c = finish_short _ (sym c.at_end.ensures ∙ c.if-at_end.false) c.refuse_plain.ensures
