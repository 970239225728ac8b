use native.Mathlib.Omega.{arith}
use Rattle.block.proofs.Laws.{span_inside}
use Rattle.moving.proofs.Moves.{move_fits, moved_on}
use Rattle.moving.proofs.move_on.Goals as goal

pub offset_bounds-cursors-i : goal.offset_bounds-cursors-i
offset_bounds-cursors-i c = omega (arith, c.span_of-span.ensures, span_inside c.args.p.0 c.args.stream (omega arith))

pub bounds-cursors-i : goal.bounds-cursors-i
bounds-cursors-i c = omega (arith, c.span_of-span.ensures, span_inside c.args.p.0 c.args.stream (omega arith))

pub overflow_add-cursors : goal.overflow_add-cursors
overflow_add-cursors c = record { fits = move_fits _ _ _ _ c.span_of-span.ensures c.requires.n_bound }

pub offset_bounds-cursors-i-2 : goal.offset_bounds-cursors-i-2
offset_bounds-cursors-i-2 c = omega (arith, c.span_of-span.ensures, span_inside c.args.p.0 c.args.stream (omega arith))

pub bounds-cursors-i-2 : goal.bounds-cursors-i-2
bounds-cursors-i-2 c = omega (arith, c.span_of-span.ensures, span_inside c.args.p.0 c.args.stream (omega arith))

pub returns : goal.returns
returns c = moved_on _ _ _ _ c.span_of-span.ensures
