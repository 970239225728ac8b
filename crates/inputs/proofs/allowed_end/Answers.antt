use mathlib.Core.Path.{sym, ◌∙◌}
use native.Mathlib.Omega.{arith}
use borrow.Author.Rules.{rules}
use Rattle.classes.proofs.Laws.{allowed_none, allowed_more}
use Rattle.inputs.proofs.Laws.{not_last, allowed_no_ten}
use Rattle.inputs.proofs.allowed_end.Goals as goal

pub loop-i-init : goal.loop-i-init
loop-i-init c =
    let a = c.args in
    (search rules, (search rules, allowed_none a.input.now a.at a.at (omega arith)))

pub allowed_in-requires : goal.allowed_in-requires
allowed_in-requires c =
    c.requires.table_value

pub loop-i-preserved : goal.loop-i-preserved
loop-i-preserved c =
    let a = c.args in
    let s = c.args.input.now in
    let l = c.loop-i in
    let here = sym c.allowed_in.ensures ∙ c.loop-i-test.true in (
      omega arith,
      (
        not_last s l.i c.requires.at_in_bounds.1 l.invariant.1.0 (allowed_no_ten _ here),
        allowed_more s a.at l.i l.invariant.0 l.invariant.1.0 l.invariant.1.1 here,
      ),
    )

pub returns : goal.returns
returns c =
    let l = c.loop-i in
    record {
      low = l.invariant.0;
      high = l.invariant.1.0;
      allowed = l.invariant.1.1;
      barred = sym c.allowed_in.ensures ∙ c.loop-i-test.false;
    }
