use Rattle.aqsurvel.proofs.aq_claim.Goals as goal

pub returns : goal.returns
returns c = rw c.claim.ensures
