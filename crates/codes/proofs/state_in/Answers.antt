use Rattle.codes.specs.Codes.{state_in}
use Rattle.codes.proofs.state_in.Goals as goal

pub returns : goal.returns
unfolding state_in
returns c = cc
