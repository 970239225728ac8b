use Rattle.kept.specs.Judgement.{entry_text}
use Rattle.base.proofs.Choice.{and_both, both_both}
use Rattle.kept.proofs.judgement.entry_text.Goals as goal

pub returns : goal.returns
unfolding entry_text
returns c = simp (and_both, both_both)
