use mathlib.Core.List.{[]}
use mathlib.Core.Path.{refl, sym, ap, ◌∙◌}
use native.Mathlib.Omega.{arith}
use lib.ListN.{length}
use borrow.Author.Rules.{rules}
use Rattle.inputs.specs.Inputs.{names_of}
use Rattle.inputs.proofs.Laws.{judged_bad, judged_next, judged_none, names_out, good_short, good_long, good_by, allowed_name, judged_barred}
use Rattle.inputs.proofs.judge.Goals as goal

pub loop-start-init : goal.loop-start-init
unfolding names_of
loop-start-init c = (search rules, (search rules, refl))

pub allowed_end-end-requires : goal.allowed_end-end-requires
allowed_end-end-requires c = record {
  table_value = c.requires.table_value;
  at_in_bounds = (c.loop-start-test.true, c.requires.input_value.0);
}

pub bounds-input-end : goal.bounds-input-end
bounds-input-end c =
    omega (arith, c.allowed_end-end.ensures.high)

pub returns-then-input-end-ne10 : goal.returns-then-input-end-ne10
returns-then-input-end-ne10 c =
    let l = c.loop-start in
    judged_barred c.args.input.now _ _ c.allowed_end-end.ensures l.n c.requires.input_value.0 (λ e. omega arith) ∙ l.invariant.1.1

pub overflow_sub-size : goal.overflow_sub-size
overflow_sub-size c =
    omega (arith, c.allowed_end-end.ensures.low)

pub returns-then-size-lt1 : goal.returns-then-size-lt1
returns-then-size-lt1 c =
    let l = c.loop-start in
    let e = allowed_name c.args.input.now _ _ c.allowed_end-end.ensures (omega arith) in
    judged_bad l.n _ _ _ e.first (sym (good_short _ _ _ e.low (omega (arith, e.high)) c.if-size-lt1.true)) ∙ l.invariant.1.1

pub returns-then-size : goal.returns-then-size
returns-then-size c =
    let l = c.loop-start in
    let e = allowed_name c.args.input.now _ _ c.allowed_end-end.ensures (omega arith) in
    judged_bad l.n _ _ _ e.first (sym (good_long _ _ _ e.low (omega (arith, e.high)) c.if-size-lt1.false c.if-size.true)) ∙ l.invariant.1.1

pub overflow_add-n : goal.overflow_add-n
overflow_add-n c =
    omega (arith, ap length (allowed_name c.args.input.now _ _ c.allowed_end-end.ensures (omega arith)).first)

pub loop-start-smaller : goal.loop-start-smaller
loop-start-smaller c =
    let e = allowed_name c.args.input.now _ _ c.allowed_end-end.ensures (omega arith) in
    omega (arith, e.low, e.high)

pub loop-start-preserved : goal.loop-start-preserved
loop-start-preserved c =
    let l = c.loop-start in
    let e = allowed_name c.args.input.now _ _ c.allowed_end-end.ensures (omega arith) in
    let good = sym (good_by _ _ _ e.low (omega (arith, e.high)) c.if-size-lt1.false c.if-size.false) ∙ c.allowed_end-end.ensures.allowed in
    (omega (arith, e.high), (omega (arith, ap length e.first), judged_next l.n _ _ _ e.first good ∙ l.invariant.1.1))

pub returns : goal.returns
returns c =
    let l = c.loop-start in
    let i = c.args.input.now in
    judged_none l.n _ (names_out i [] l.start (omega arith)) ∙ l.invariant.1.1
