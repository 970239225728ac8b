use Rattle.kept.specs.Judgement.{row_counts}
use Rattle.base.proofs.Choice.{and_both}
use Rattle.kept.proofs.judgement.row_counts.Goals as goal

pub returns : goal.returns
unfolding row_counts
returns c = simp and_both
