use Rattle.lines.proofs.Walks.{walk_start, walk_room, walk_more, walk_last, walk_end}
use Rattle.splitting.proofs.Runs.{cut_range}
use Rattle.splitting.proofs.Cuts.{cut_end}
use Rattle.choices.proofs.Choices.{choice_within}
use Rattle.pages.specs.Page.{page}
use native.Mathlib.Omega.{arith}
use lib.ListN.{length}
use Prim.Native.Nat.{◌≤◌, ◌<◌}
use mathlib.Core.Path.{refl, ◌∙◌}
use Rattle.lines.proofs.put_tokens.Goals as goal

pub loop-a-init : goal.loop-a-init
loop-a-init c =
    let a = c.args in
    (refl, walk_start a.before.now a.name.now (page a.out.now a.at) c.requires.has_room)

pub cut_at-e-requires : goal.cut_at-e-requires
cut_at-e-requires c =
    c.requires.table_value

pub cut_at-f-requires : goal.cut_at-f-requires
cut_at-f-requires c =
    c.requires.table_value

pub choice_at-c-requires : goal.choice_at-c-requires
choice_at-c-requires c = record {
  table_value = c.requires.table_value;
  a_in_bounds = (c.loop-a-test.true, (c.cut_at-e.ensures, c.cut_at-f.ensures));
}

pub put_choice-next-requires : goal.put_choice-next-requires
put_choice-next-requires c =
    let l = c.loop-a in
    let a = c.args in
    let e = c.choice_at-c.ensures in
    let h = c.loop-a-test.true in record {
      choice_within = rw e (choice_within a.before.now a.name.now l.p l.a l.b h);
      has_room = walk_room a.before.now a.name.now (page a.out.now a.at) (page l.out l.next) l.p l.a l.b l.invariant.1 h _ e;
    }

pub overflow_add-p : goal.overflow_add-p
overflow_add-p c =
    let l = c.loop-a in
    let h : l.p ≤ 128 = l.invariant.1.high in
    omega arith

pub loop-a-smaller : goal.loop-a-smaller
loop-a-smaller c =
    let l = c.loop-a in
    let a = c.args in
    let h : l.a < length a.name.now = c.loop-a-test.true in
    let r = cut_range a.name.now l.a h l.p in
    omega (arith, cut_end a.name.now l.p l.a c.cut_at-e.ensures)

pub loop-a-preserved : goal.loop-a-preserved
loop-a-preserved c =
    let l = c.loop-a in
    let a = c.args in
    (c.put_choice-next.auto.out ∙ l.invariant.0, walk_more a.before.now a.name.now (page a.out.now a.at) (page l.out l.next) l.p l.a l.b l.invariant.1 c.loop-a-test.true _ c.choice_at-c.ensures c.put_choice-next.ensures (cut_end a.name.now l.p l.a c.cut_at-e.ensures) (cut_end a.before.now l.p l.b c.cut_at-f.ensures))

pub put_choice-requires : goal.put_choice-requires
put_choice-requires c =
    let l = c.loop-a in
    let a = c.args in record {
      choice_within = tt;
      has_room = walk_last a.before.now a.name.now (page a.out.now a.at) (page l.out l.next) l.p l.a l.b l.invariant.1 c.loop-a-test.false;
    }

pub shape_of-out : goal.shape_of-out
shape_of-out c =
    c.put_choice.auto.out ∙ c.loop-a.invariant.0

pub returns : goal.returns
returns c =
    let l = c.loop-a in
    let a = c.args in
    walk_end a.before.now a.name.now (page a.out.now a.at) (page l.out l.next) l.p l.a l.b l.invariant.1 c.loop-a-test.false c.put_choice.ensures
