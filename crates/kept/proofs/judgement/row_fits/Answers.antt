use Rattle.kept.specs.Judgement.{row_fits}
use Rattle.base.proofs.Choice.{and_both}
use Rattle.kept.proofs.judgement.row_fits.Goals as goal

pub returns : goal.returns
unfolding row_fits
returns c = simp (c.row_kind.ensures, and_both)
