use native.Mathlib.Omega.{arith}
use Rattle.block.proofs.Laws.{span_inside}
use Rattle.moving.proofs.move_to.Goals as goal

pub offset_bounds-cursors-i : goal.offset_bounds-cursors-i
offset_bounds-cursors-i c = omega (arith, c.span_of-span.ensures, span_inside c.args.p.0 c.args.stream (omega arith))

pub bounds-cursors-i : goal.bounds-cursors-i
bounds-cursors-i c = omega (arith, c.span_of-span.ensures, span_inside c.args.p.0 c.args.stream (omega arith))

pub returns : goal.returns
returns c = rw c.span_of-span.ensures
