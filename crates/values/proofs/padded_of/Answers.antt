use borrow.Author.Rules.{rules}
use Rattle.values.specs.Values.{padded_of}
use Rattle.values.proofs.padded_of.Goals as goal

pub returns-in_err-number : goal.returns-in_err-number
unfolding padded_of
returns-in_err-number c = search rules

pub returns : goal.returns
unfolding padded_of
returns c = search rules
