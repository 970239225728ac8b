use borrow.Author.Rules.{rules}
use Rattle.values.specs.Values.{digits_step}
use Rattle.values.proofs.digits_step.Goals as goal

pub returns-in_err-n : goal.returns-in_err-n
unfolding digits_step
returns-in_err-n c = search rules

pub returns : goal.returns
unfolding digits_step
returns c = search rules
