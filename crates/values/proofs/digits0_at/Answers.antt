use borrow.Author.Rules.{rules}
use Rattle.values.proofs.digits0_at.Goals as goal

pub returns : goal.returns
returns c = λ rules. rw (← c.padded_in.ensures rules) c.digits0_step.ensures
