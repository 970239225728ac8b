use mathlib.Core.List.{[]}
use mathlib.Core.Path.{ap}
use native.Mathlib.Omega.{arith}
use lib.ListN.{length}
use borrow.Author.Rules.{rules}
use Rattle.inputs.specs.Inputs.{names_of}
use Rattle.inputs.proofs.Laws.{names_out}
use Rattle.inputs.proofs.count.Goals as goal

pub loop-i-init : goal.loop-i-init
unfolding names_of
loop-i-init c = (search rules, (search rules, search rules))

pub ends_in-requires : goal.ends_in-requires
ends_in-requires c = (omega arith, (omega arith, omega arith))

pub ends_in-requires-2 : goal.ends_in-requires-2
ends_in-requires-2 c = (omega arith, (omega arith, omega arith))

pub loop-i-preserved : goal.loop-i-preserved
loop-i-preserved c = (omega arith, (omega arith, omega arith))

pub returns : goal.returns
returns c =
    let s = c.args.input.now in
    omega (arith, ap length (names_out s [] (length s) (omega arith)))
