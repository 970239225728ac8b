use mathlib.Core.Path.{sym, ap}
use Rattle.numbering.specs.Types.{Numbers}
use Rattle.numbering.proofs.Laws.{only_draft}
use Rattle.numbering.proofs.dup_number.Goals as goal

pub returns : goal.returns
returns c = ap (λ (n : Numbers). n.dup) (sym (only_draft _))
