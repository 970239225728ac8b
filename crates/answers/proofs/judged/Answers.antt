use Rattle.answers.specs.Answers.{verdict_by}
use Rattle.answers.proofs.judged.Goals as goal

pub returns-in-Ok-Confirmed : goal.returns-in-Ok-Confirmed
unfolding verdict_by
returns-in-Ok-Confirmed g c = rw (c.pack.ensures, c.in-Ok-Confirmed.is, rw c.in-Ok-Confirmed.is at c.in-Ok-Confirmed.field-0-is)

pub returns-in-Ok-Denied : goal.returns-in-Ok-Denied
unfolding verdict_by
returns-in-Ok-Denied g c = rw (c.pack-in-Ok-Denied.ensures, c.in-Ok-Denied.is, rw c.in-Ok-Denied.is at c.in-Ok-Denied.field-0-is)

pub returns-in-Err : goal.returns-in-Err
unfolding verdict_by
returns-in-Err g c = rw (c.number.ensures, c.in-Err.is)
