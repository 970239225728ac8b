use Rattle.codes.specs.Codes.{refusal_number}
use Rattle.codes.proofs.refused.Goals as goal

pub returns-in-Plain : goal.returns-in-Plain
unfolding refusal_number
returns-in-Plain c = rw (c.pack.ensures, c.in-Plain.is, c.number.ensures)

pub returns-in-At : goal.returns-in-At
unfolding refusal_number
returns-in-At c = rw (c.pack-in-At.ensures, c.in-At.is, c.number-in-At.ensures)
