use Rattle.repeats.proofs.Ways.{fitting_none, fitting_other, fitting_is}
use Rattle.repeats.proofs.fitting.Goals as goal

pub returns-then-count-p : goal.returns-then-count-p
returns-then-count-p c = λ text. fitting_none _ _ _ c.if-count-p.true

pub returns-then-r-kind : goal.returns-then-r-kind
returns-then-r-kind c = λ text. fitting_is _ _ _ c.if-count-p.false c.row_here-r.ensures c.if-r-kind.true

pub returns-else-r-kind : goal.returns-else-r-kind
returns-else-r-kind c = λ text. fitting_other _ _ _ c.if-count-p.false c.row_here-r.ensures c.if-r-kind.false
