use Rattle.std.proofs.Common.{◌≡◌, ◌-◌, length}
use Rattle.splitting.specs.Split.{run_end}
use Rattle.splitting.proofs.run_end.Given as goal

abbrev pub invariant-loop-i : goal.invariant-loop-i
invariant-loop-i l = run_end l.name l.class l.i (length l.name - l.i) ≡ run_end l.name l.class l.at (length l.name - l.at)
