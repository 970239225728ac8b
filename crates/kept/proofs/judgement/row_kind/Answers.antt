use mathlib.Core.Path.{sym, ◌∙◌}
use Rattle.base.proofs.Choice.{and_both}
use Rattle.kept.proofs.Laws.{kind_string, kind_char, kind_padded, kind_other}
use Rattle.kept.proofs.judgement.row_kind.Goals as goal

pub returns-in-1 : goal.returns-in-1
returns-in-1 c = sym (kind_string _ c.in-1.is)

pub returns-in-2 : goal.returns-in-2
returns-in-2 c = sym (kind_char _ c.in-2.is)

pub returns-in-4 : goal.returns-in-4
returns-in-4 c = rw c.fits_width.ensures (and_both _ _ ∙ sym (kind_padded _ c.in-4.is))

pub returns-in_default : goal.returns-in_default
returns-in_default c = rw (kind_other c.args.r c.in_default.in_default-own.rest.0.0.1 c.in_default.in_default-own.rest.0.1 c.in_default.in_default-own.rest.1)
