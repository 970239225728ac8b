use borrow.Author.Rules.{rules}
use Rattle.values.specs.Values.{with_width}
use Rattle.values.proofs.with_width.Goals as goal

pub returns-in_err-w : goal.returns-in_err-w
unfolding with_width
returns-in_err-w c = search rules

pub returns : goal.returns
unfolding with_width
returns c = search rules
