use native.Mathlib.Omega.{arith}
use Rattle.digits.proofs.lead.Goals as goal

pub returns : goal.returns
returns c = (omega arith, omega arith)
