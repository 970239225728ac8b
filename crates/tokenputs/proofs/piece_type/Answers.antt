use Rattle.tokenputs.specs.TokenPuts.{piece_type}
use Rattle.tokenputs.proofs.piece_type.Goals as goal

pub returns-in-String : goal.returns-in-String
unfolding piece_type
returns-in-String c = rw c.in-String.is

pub returns-in-Char : goal.returns-in-Char
unfolding piece_type
returns-in-Char c = rw c.in-Char.is

pub returns-in-Digits : goal.returns-in-Digits
unfolding piece_type
returns-in-Digits c = rw c.in-Digits.is

pub returns-in-Digits0 : goal.returns-in-Digits0
unfolding piece_type
returns-in-Digits0 c = rw c.in-Digits0.is
