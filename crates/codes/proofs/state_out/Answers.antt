use Rattle.codes.specs.Codes.{state_out}
use Rattle.codes.proofs.state_out.Goals as goal

pub returns : goal.returns
unfolding state_out
returns c = cc
