use native.Mathlib.Omega.{arith}
use Rattle.splitting.proofs.Runs.{limit_nine, limit_short}
use Rattle.splitting.proofs.digits_limit.Goals as goal

pub returns-then-digits-name : goal.returns-then-digits-name
returns-then-digits-name c =
    omega (arith, limit_nine c.args.name.now c.args.at (omega arith) c.requires.1 (omega arith))

pub returns : goal.returns
returns c =
    omega (arith, limit_short c.args.name.now c.args.at (omega arith) c.requires.1 (omega arith))
