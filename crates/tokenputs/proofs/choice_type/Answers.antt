use Rattle.tokenputs.specs.TokenPuts.{choice_type}
use Rattle.tokenputs.proofs.choice_type.Goals as goal

pub returns-in-Itself : goal.returns-in-Itself
unfolding choice_type
returns-in-Itself c = rw c.in-Itself.is c.piece_type.ensures

pub returns-in-Delta : goal.returns-in-Delta
unfolding choice_type
returns-in-Delta c = rw c.in-Delta.is

pub returns-in-Delta0 : goal.returns-in-Delta0
unfolding choice_type
returns-in-Delta0 c = rw c.in-Delta0.is

pub returns-in-Match : goal.returns-in-Match
unfolding choice_type
returns-in-Match c = rw c.in-Match.is

pub returns-in-End : goal.returns-in-End
unfolding choice_type
returns-in-End c = rw c.in-End.is
