use borrow.Author.Rules.{rules}
use Rattle.values.specs.Values.{string_step}
use Rattle.values.proofs.string_step.Goals as goal

pub returns-in_err-text : goal.returns-in_err-text
unfolding string_step
returns-in_err-text c = search rules

pub returns : goal.returns
unfolding string_step
returns c = search rules
