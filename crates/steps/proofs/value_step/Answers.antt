use Rattle.steps.specs.Steps.{value_step}
use borrow.Author.Rules.{rules}
use Rattle.steps.proofs.value_step.Goals as goal

pub returns-in-String : goal.returns-in-String
unfolding value_step
returns-in-String c = λ rules. rw (c.in-String.is, ← c.text_in.ensures rules) c.string_step.ensures

pub returns-in-Char : goal.returns-in-Char
unfolding value_step
returns-in-Char c = λ rules. rw (c.in-Char.is, ← c.byte_in.ensures rules) c.char_step.ensures

pub returns-in-Digits : goal.returns-in-Digits
unfolding value_step
returns-in-Digits c = λ rules. rw (c.in-Digits.is, ← c.four_in.ensures rules) c.digits_step.ensures

pub returns-in-Digits0 : goal.returns-in-Digits0
unfolding value_step
returns-in-Digits0 c = λ rules. rw c.in-Digits0.is (c.digits0_at.ensures rules)

pub returns-in-Delta : goal.returns-in-Delta
unfolding value_step
returns-in-Delta c =
    λ rules.
    rw c.in-Delta.is (c.delta_at.ensures rules c.args.text.now)

pub returns-in-Delta0 : goal.returns-in-Delta0
unfolding value_step
returns-in-Delta0 c =
    λ rules.
    rw c.in-Delta0.is (c.delta0_at.ensures rules c.args.text.now)

pub returns-in-Match : goal.returns-in-Match
unfolding value_step
returns-in-Match c = λ rules. rw c.in-Match.is c.match_at.ensures

pub returns-in-End : goal.returns-in-End
unfolding value_step
returns-in-End c = λ rules. rw c.in-End.is

pub returns-in-Other : goal.returns-in-Other
unfolding value_step
returns-in-Other c = λ rules. rw c.in-Other.is
