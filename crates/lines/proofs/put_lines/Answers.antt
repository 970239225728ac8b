use Rattle.inputs.proofs.Standing.{names_count}
use Rattle.lines.proofs.Walks.{names_start, names_room, names_more, names_end}
use Rattle.base.specs.Memory.{part}
use Rattle.pages.specs.Page.{page}
use native.Mathlib.Nat.{le_of_lt}
use native.Mathlib.Omega.{arith}
use lib.ListN.{length}
use Prim.Native.Nat.{◌<◌}
use mathlib.Core.Path.{refl, ◌∙◌}
use Rattle.lines.proofs.put_lines.Goals as goal

pub loop-start-init : goal.loop-start-init
loop-start-init c =
    let a = c.args in
    (refl, names_start a.input.now (page a.out.now 0) (omega arith) c.requires.has_room)

pub name_end-end-requires : goal.name_end-end-requires
name_end-end-requires c =
    (c.loop-start-test.true, c.requires.input_value.0)

pub put_line-at-requires : goal.put_line-at-requires
unfolding part
put_line-at-requires c =
    let l = c.loop-start in
    let a = c.args in record {
      table_value = c.requires.table_value;
      has_room = names_room a.input.now (page a.out.now 0) (page l.out l.at) l.n l.before.now l.start l.invariant.1 _ c.name_end-end.ensures;
    }

pub slice_bounds-name-start : goal.slice_bounds-name-start
slice_bounds-name-start c = c.name_end-end.ensures.low

pub slice_bounds-name-end : goal.slice_bounds-name-end
slice_bounds-name-end c = le_of_lt c.name_end-end.ensures.high

pub overflow_add-start : goal.overflow_add-start
overflow_add-start c =
    let a = c.args in
    let h : c.name_end-end.result < length a.input.now = c.name_end-end.ensures.high in
    omega arith

pub overflow_add-n : goal.overflow_add-n
overflow_add-n c =
    let l = c.loop-start in
    let a = c.args in
    let h = names_count a.input.now l.n l.start l.invariant.1.stands _ c.name_end-end.ensures in
    omega (arith, c.requires.input_value.1)

pub loop-start-smaller : goal.loop-start-smaller
loop-start-smaller c =
    let e = c.name_end-end.ensures in
    omega (arith, e.low, e.high)

pub loop-start-preserved : goal.loop-start-preserved
unfolding part
loop-start-preserved c =
    let l = c.loop-start in
    let a = c.args in
    (c.put_line-at.auto.out ∙ l.invariant.0, names_more a.input.now (page a.out.now 0) (page l.out l.at) l.n l.before.now l.start l.invariant.1 _ c.name_end-end.ensures c.put_line-at.ensures)

pub shape_of-out : goal.shape_of-out
shape_of-out c = c.loop-start.invariant.0

pub returns : goal.returns
returns c =
    let l = c.loop-start in
    let a = c.args in
    names_end a.input.now (page a.out.now 0) (page l.out l.at) l.n l.before.now l.start l.invariant.1 c.loop-start-test.false
