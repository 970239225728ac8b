use Rattle.base.specs.Choice.{pick}
use Rattle.base.specs.Memory.{part}
use native.Mathlib.Omega.{arith}
use Rattle.tokens.proofs.text_allowed.Goals as goal

pub returns-then-t : goal.returns-then-t
unfolding pick part
returns-then-t c = rw (c.if-t.true, c.all_allowed.ensures)

pub returns-else-t : goal.returns-else-t
unfolding pick part
returns-else-t c = rw (c.if-t.false, c.all_allowed-else-t.ensures)

pub slice_bounds-all_allowed-end : goal.slice_bounds-all_allowed-end
unfolding pick
slice_bounds-all_allowed-end c =
    let e = rw c.if-t.true at c.requires.1 in
    omega arith

pub slice_bounds-all_allowed-end-else-t : goal.slice_bounds-all_allowed-end-else-t
unfolding pick
slice_bounds-all_allowed-end-else-t c =
    let e = rw c.if-t.false at c.requires.1 in
    omega arith
