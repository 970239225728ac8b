use Rattle.choices.specs.Choices.{by_rise}
use Rattle.choices.proofs.by_rise.Goals as goal

pub returns-in-Same : goal.returns-in-Same
unfolding by_rise
returns-in-Same c = rw c.in-Same.is

pub returns-in-Up : goal.returns-in-Up
unfolding by_rise
returns-in-Up c = rw c.in-Up.is

pub returns-in-Other : goal.returns-in-Other
unfolding by_rise
returns-in-Other c = rw c.in-Other.is
