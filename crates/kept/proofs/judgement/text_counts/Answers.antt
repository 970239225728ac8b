use Rattle.kept.specs.Judgement.{text_counts}
use Rattle.base.proofs.Choice.{and_both, both_both}
use Rattle.kept.proofs.judgement.text_counts.Goals as goal

pub returns : goal.returns
unfolding text_counts
returns c = simp (and_both, both_both)
