use borrow.Author.Rules.{rules}
use Rattle.values.specs.Values.{digits0_step}
use Rattle.values.proofs.digits0_step.Goals as goal

pub returns-in_err-x : goal.returns-in_err-x
unfolding digits0_step
returns-in_err-x c = search rules

pub returns : goal.returns
unfolding digits0_step
returns c = search rules
