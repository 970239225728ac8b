use Rattle.inputs.proofs.Laws.{name_starts, name_more, name_ends, not_last}
use Rattle.inputs.proofs.name_end.Goals as goal

pub loop-i-init : goal.loop-i-init
loop-i-init c = name_starts _ _ c.requires.0

pub loop-i-preserved : goal.loop-i-preserved
loop-i-preserved c =
    let n = c.loop-i.invariant in
    name_more _ _ _ n (not_last c.args.input.now _ c.requires.1 n.high c.loop-i-test.true) c.loop-i-test.true

pub returns : goal.returns
returns c =
    name_ends _ _ _ c.loop-i.invariant c.loop-i-test.false
