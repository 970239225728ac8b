use Rattle.tokens.specs.Tokens.{number_of}
use Rattle.tokens.proofs.number.Goals as goal

pub returns-in-String : goal.returns-in-String
unfolding number_of
returns-in-String c = rw c.in-String.is

pub returns-in-Char : goal.returns-in-Char
unfolding number_of
returns-in-Char c = rw c.in-Char.is

pub returns-in-Digits : goal.returns-in-Digits
unfolding number_of
returns-in-Digits c = rw c.in-Digits.is

pub returns-in-Digits0 : goal.returns-in-Digits0
unfolding number_of
returns-in-Digits0 c = rw c.in-Digits0.is
