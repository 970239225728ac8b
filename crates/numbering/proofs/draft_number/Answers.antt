use Rattle.numbering.specs.Types.{type_number}
use Rattle.numbering.proofs.draft_number.Goals as goal

pub returns-in-String : goal.returns-in-String
unfolding type_number
returns-in-String c = rw c.in-String.is

pub returns-in-Char : goal.returns-in-Char
unfolding type_number
returns-in-Char c = rw c.in-Char.is

pub returns-in-Digits : goal.returns-in-Digits
unfolding type_number
returns-in-Digits c = rw c.in-Digits.is

pub returns-in-Digits0 : goal.returns-in-Digits0
unfolding type_number
returns-in-Digits0 c = rw c.in-Digits0.is

pub returns-in-Delta : goal.returns-in-Delta
unfolding type_number
returns-in-Delta c = rw c.in-Delta.is

pub returns-in-Delta0 : goal.returns-in-Delta0
unfolding type_number
returns-in-Delta0 c = rw c.in-Delta0.is

pub returns-in-Match : goal.returns-in-Match
unfolding type_number
returns-in-Match c = rw c.in-Match.is

pub returns-in-End : goal.returns-in-End
unfolding type_number
returns-in-End c = rw c.in-End.is

pub returns-in-Other : goal.returns-in-Other
unfolding type_number
returns-in-Other c = rw c.in-Other.is
