use Prim.Native.Nat.{◌-◌, ◌≤◌, ◌<◌}
use mathlib.Core.Path.{refl, ◌∙◌}
use native.Mathlib.Omega.{arith}
use lib.ListN.{length}
use Rattle.splitting.proofs.Runs.{cut_range}
use Rattle.splitting.proofs.Cuts.{cut_end}
use Rattle.choices.proofs.Choices.{choice_within}
use Rattle.laying.specs.Passes.{world}
use Rattle.tokenputs.proofs.Walks.{walk_start, walk_room, walk_more, walk_last, walk_end}
use Rattle.tokenputs.proofs.put_tokens.Goals as goal

pub loop-a-init : goal.loop-a-init
loop-a-init c =
    let a = c.args in
    (refl, (refl, walk_start a.pass a.before.now a.name.now (world a.total a.directory.now a.bytes.now) c.requires.roomy))

pub cut_at-e-requires : goal.cut_at-e-requires
cut_at-e-requires c =
    c.requires.table_value

pub cut_at-f-requires : goal.cut_at-f-requires
cut_at-f-requires c =
    c.requires.table_value

pub choice_at-c-requires : goal.choice_at-c-requires
choice_at-c-requires c = record {
  table_value = c.requires.table_value;
  a_in_bounds = (c.loop-a-test.true, (c.cut_at-e.ensures, c.cut_at-f.ensures));
}

pub put_choice-sum-requires : goal.put_choice-sum-requires
put_choice-sum-requires c =
    let l = c.loop-a in
    let a = c.args in
    let e = c.choice_at-c.ensures in
    let h = c.loop-a-test.true in record {
      p_bound = (l.invariant.1.1.high, rw e (choice_within a.before.now a.name.now l.p l.a l.b h));
      roomy = walk_room a.pass a.before.now a.name.now (world a.total a.directory.now a.bytes.now) (world l.sum l.directory l.bytes) l.p l.a l.b l.invariant.1.1 h _ e;
    }

pub overflow_add-p : goal.overflow_add-p
overflow_add-p c =
    let l = c.loop-a in
    let h : l.p ≤ 128 = l.invariant.1.1.high in
    omega arith

pub loop-a-smaller : goal.loop-a-smaller
loop-a-smaller c =
    let l = c.loop-a in
    let a = c.args in
    let h : l.a < length a.name.now = c.loop-a-test.true in
    let r = cut_range a.name.now l.a h l.p in
    omega (arith, cut_end a.name.now l.p l.a c.cut_at-e.ensures)

pub loop-a-preserved : goal.loop-a-preserved
loop-a-preserved c =
    let l = c.loop-a in
    let a = c.args in
    let k = c.put_choice-sum.auto in (
      k.directory ∙ l.invariant.0,
      (
        k.bytes ∙ l.invariant.1.0,
        walk_more a.pass a.before.now a.name.now (world a.total a.directory.now a.bytes.now) (world l.sum l.directory l.bytes) l.p l.a l.b l.invariant.1.1 c.loop-a-test.true _ c.choice_at-c.ensures c.put_choice-sum.ensures (cut_end a.name.now l.p l.a c.cut_at-e.ensures) (cut_end a.before.now l.p l.b c.cut_at-f.ensures),
      ),
    )

pub span_of-span-requires : goal.span_of-span-requires
span_of-span-requires c =
    let h : c.loop-a.p ≤ 128 = c.loop-a.invariant.1.1.high in
    omega arith

pub put_byte-requires : goal.put_byte-requires
put_byte-requires c =
    let l = c.loop-a in
    let a = c.args in
    rw c.span_of-span.ensures (walk_last a.pass a.before.now a.name.now (world a.total a.directory.now a.bytes.now) (world l.sum l.directory l.bytes) l.p l.a l.b l.invariant.1.1 c.loop-a-test.false)

pub shape_of-directory : goal.shape_of-directory
shape_of-directory c =
    c.put_byte.auto.directory ∙ c.loop-a.invariant.0

pub shape_of-bytes : goal.shape_of-bytes
shape_of-bytes c =
    c.put_byte.auto.bytes ∙ c.loop-a.invariant.1.0

pub returns : goal.returns
returns c =
    let l = c.loop-a in
    let a = c.args in
    walk_end a.pass a.before.now a.name.now (world a.total a.directory.now a.bytes.now) (world l.sum l.directory l.bytes) l.p l.a l.b l.invariant.1.1 c.loop-a-test.false c.type_number-b.ensures (rw (← c.span_of-span.ensures) c.put_byte.ensures)
