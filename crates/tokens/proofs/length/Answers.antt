use native.Mathlib.Omega.{arith}
use mathlib.Core.Path.{sym, ◌∙◌}
use Rattle.digits.proofs.Laws.{count_ten, length_printed}
use Rattle.tokens.specs.Tokens.{length_of}
use Rattle.tokens.proofs.length.Goals as goal

pub overflow_cast-result : goal.overflow_cast-result
overflow_cast-result c = omega (arith, c.count.ensures, count_ten c.in-Digits.n (omega arith))

pub returns-in-String : goal.returns-in-String
unfolding length_of
returns-in-String c = rw c.in-String.is c.text_length.ensures

pub returns-in-Char : goal.returns-in-Char
unfolding length_of
returns-in-Char c = rw c.in-Char.is

pub returns-in-Digits : goal.returns-in-Digits
unfolding length_of
returns-in-Digits c = rw c.in-Digits.is (c.count.ensures ∙ sym (length_printed _))

pub returns-in-Digits0 : goal.returns-in-Digits0
unfolding length_of
returns-in-Digits0 c = rw c.in-Digits0.is
