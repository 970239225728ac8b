use Rattle.base.specs.Choice.{pick}
use Rattle.base.specs.Memory.{part}
use native.Mathlib.Omega.{arith}
use lib.ListN.{length}
use Rattle.tokens.proofs.put_text.Goals as goal

pub copy_within-requires : goal.copy_within-requires
copy_within-requires c =
    (c.requires.start_le_end.0, (c.requires.end_le_at c.if-t.true, c.requires.start_in_bounds))

pub slice_bounds-put_all-end : goal.slice_bounds-put_all-end
unfolding pick
slice_bounds-put_all-end c =
    let e = rw c.if-t.false at c.requires.start_le_end.1 in
    omega arith

pub returns-then-t : goal.returns-then-t
unfolding pick
returns-then-t c =
    rw c.if-t.true c.copy_within.ensures

pub returns-else-t : goal.returns-else-t
unfolding pick part
returns-else-t c =
    rw c.if-t.false c.put_all.ensures
