use Rattle.kept.specs.Judgement.{entry_rows}
use Rattle.base.proofs.Choice.{and_both, both_both}
use Rattle.kept.proofs.judgement.entry_rows.Goals as goal

pub returns : goal.returns
unfolding entry_rows
returns c = simp (and_both, both_both)
