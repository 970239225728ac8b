use borrow.Author.Rules.{rules}
use borrow.Author.Tests.{lt-ltb}
use mathlib.Core.Path.{◌≡◌}
use Rattle.std.specs.Prelude.{Some}
use Rattle.base.specs.Choice.{pick}
use Rattle.sums.proofs.Ways.{sum0_long}
use Rattle.sums.specs.Sums.{delta0_step}
use Rattle.sums.proofs.delta0_step.Goals as goal
use Rattle.sums.proofs.delta0_step.Goals.{In_ok-d}

found : (c : goal.In_ok-d) → c.args.found ≡ Some (c.in_ok-d.d, c.in_ok-d.c)
found c = search rules

pub returns-then-sum-ge4294967296 : goal.returns-then-sum-ge4294967296
returns-then-sum-ge4294967296 c = let f = found (goal.at.returns-then-sum-ge4294967296 c).In_ok-d in rw f (sum0_long _ _ _ _ c.if-sum-ge4294967296.true)

pub returns : goal.returns
unfolding delta0_step pick
returns c = let f = found (goal.at.returns c).In_ok-d in rw (f, lt-ltb _ _ c.if-sum-ge4294967296.false, c.padded_step.ensures)

pub returns-in_err-d : goal.returns-in_err-d
unfolding delta0_step
returns-in_err-d c = search rules
