use borrow.Author.Rules.{rules}
use Rattle.values.proofs.padded_in.Goals as goal

pub returns : goal.returns
returns c = λ rules. rw (← c.four_in-number.ensures rules, ← c.byte_in-width.ensures rules) c.padded_of.ensures
