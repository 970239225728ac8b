use Prim.Native.Nat.{◌<◌}
use mathlib.Core.Path.{refl, ◌∙◌}
use native.Mathlib.Nat.{le_of_lt}
use native.Mathlib.Omega.{arith}
use lib.ListN.{length}
use Rattle.base.specs.Memory.{part}
use Rattle.laying.specs.Passes.{world}
use Rattle.nameputs.proofs.Walks.{names_start, names_room, names_more, names_end}
use Rattle.inputs.proofs.Standing.{names_count}
use Rattle.nameputs.proofs.put_names.Goals as goal

pub loop-start-init : goal.loop-start-init
loop-start-init c =
    let a = c.args in
    (refl, (refl, names_start a.pass a.input.now (world 0 a.directory.now a.bytes.now) c.requires.roomy))

pub name_end-end-requires : goal.name_end-end-requires
name_end-end-requires c =
    (c.loop-start-test.true, c.requires.input_value.0)

pub put_name-total-requires : goal.put_name-total-requires
unfolding part
put_name-total-requires c =
    let l = c.loop-start in
    let a = c.args in record {
      table_value = c.requires.table_value;
      roomy = names_room a.pass a.input.now (world 0 a.directory.now a.bytes.now) (world l.total l.directory l.bytes) l.n l.before.now l.start l.invariant.1.1 _ c.name_end-end.ensures;
    }

pub slice_bounds-name-start : goal.slice_bounds-name-start
slice_bounds-name-start c = c.name_end-end.ensures.low

pub slice_bounds-name-end : goal.slice_bounds-name-end
slice_bounds-name-end c = le_of_lt c.name_end-end.ensures.high

pub overflow_add-start : goal.overflow_add-start
overflow_add-start c =
    let l = c.loop-start in
    let a = c.args in
    let h : c.name_end-end.result < length a.input.now = c.name_end-end.ensures.high in
    omega arith

pub overflow_add-n : goal.overflow_add-n
overflow_add-n c =
    let l = c.loop-start in
    let a = c.args in
    let h = names_count a.input.now l.n l.start l.invariant.1.1.stands _ c.name_end-end.ensures in
    omega (arith, c.requires.input_value.1)

pub loop-start-smaller : goal.loop-start-smaller
loop-start-smaller c =
    let l = c.loop-start in
    let a = c.args in
    let e = c.name_end-end.ensures in
    omega (arith, e.low, e.high)

pub loop-start-preserved : goal.loop-start-preserved
unfolding part
loop-start-preserved c =
    let l = c.loop-start in
    let a = c.args in
    let k = c.put_name-total.auto in (
      k.directory ∙ l.invariant.0,
      (
        k.bytes ∙ l.invariant.1.0,
        names_more a.pass a.input.now (world 0 a.directory.now a.bytes.now) (world l.total l.directory l.bytes) l.n l.before.now l.start l.invariant.1.1 _ c.name_end-end.ensures c.put_name-total.ensures,
      ),
    )

pub shape_of-directory : goal.shape_of-directory
shape_of-directory c = c.loop-start.invariant.0

pub shape_of-bytes : goal.shape_of-bytes
shape_of-bytes c = c.loop-start.invariant.1.0

pub returns : goal.returns
returns c =
    let l = c.loop-start in
    let a = c.args in
    names_end a.pass a.input.now (world 0 a.directory.now a.bytes.now) (world l.total l.directory l.bytes) l.n l.before.now l.start l.invariant.1.1 c.loop-start-test.false
