use Rattle.tokens.specs.Tokens.{width_of}
use Rattle.tokens.proofs.width.Goals as goal

pub returns-in-String : goal.returns-in-String
unfolding width_of
returns-in-String c = rw c.in-String.is

pub returns-in-Char : goal.returns-in-Char
unfolding width_of
returns-in-Char c = rw c.in-Char.is

pub returns-in-Digits : goal.returns-in-Digits
unfolding width_of
returns-in-Digits c = rw c.in-Digits.is

pub returns-in-Digits0 : goal.returns-in-Digits0
unfolding width_of
returns-in-Digits0 c = rw c.in-Digits0.is
