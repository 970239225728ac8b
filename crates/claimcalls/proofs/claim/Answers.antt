use mathlib.Core.Path.{◌∙◌}
use Rattle.answers.proofs.Laws.{verdict_is}
use Rattle.claimcalls.proofs.Laws.{claim_call_law}
use Rattle.claimcalls.proofs.claim.Goals as goal

pub returns : goal.returns
returns c = claim_call_law _ _ _ _ _ _ c.state_in.ensures c.claim.ensures (c.judged.ensures ∙ verdict_is _)
