use borrow.Author.Rules.{rules}
use Rattle.values.specs.Values.{char_step}
use Rattle.values.proofs.char_step.Goals as goal

pub returns-in_err-b : goal.returns-in_err-b
unfolding char_step
returns-in_err-b c = search rules

pub returns : goal.returns
unfolding char_step
returns c = search rules
