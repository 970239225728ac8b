use Rattle.answers.specs.Answers.{read_number}
use Rattle.answers.proofs.answered.Goals as goal

pub returns-in-Ok-Some : goal.returns-in-Ok-Some
unfolding read_number
returns-in-Ok-Some c = rw (c.pack.ensures, c.in-Ok-Some.is, rw c.in-Ok-Some.is at c.in-Ok-Some.field-0-is)

pub returns-in-Ok-None : goal.returns-in-Ok-None
unfolding read_number
returns-in-Ok-None c = rw (c.pack-in-Ok-None.ensures, c.in-Ok-None.is, rw c.in-Ok-None.is at c.in-Ok-None.field-0-is)

pub returns-in-Err : goal.returns-in-Err
unfolding read_number
returns-in-Err c = rw (c.refused.ensures, c.in-Err.is)
