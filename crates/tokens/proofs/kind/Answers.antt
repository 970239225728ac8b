use Rattle.tokens.specs.Tokens.{kind_of}
use Rattle.tokens.proofs.kind.Goals as goal

pub returns-in-String : goal.returns-in-String
unfolding kind_of
returns-in-String c = rw c.in-String.is

pub returns-in-Char : goal.returns-in-Char
unfolding kind_of
returns-in-Char c = rw c.in-Char.is

pub returns-in-Digits : goal.returns-in-Digits
unfolding kind_of
returns-in-Digits c = rw c.in-Digits.is

pub returns-in-Digits0 : goal.returns-in-Digits0
unfolding kind_of
returns-in-Digits0 c = rw c.in-Digits0.is
