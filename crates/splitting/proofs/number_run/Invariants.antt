use Rattle.splitting.proofs.Cuts.{Said}
use Rattle.splitting.proofs.number_run.Given as goal

abbrev pub invariant-loop-i : goal.invariant-loop-i
invariant-loop-i l = Said l.name l.at l.to l.n l.i
