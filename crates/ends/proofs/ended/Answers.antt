use native.Mathlib.Omega.{arith}
use mathlib.Core.Path.{refl}
use borrow.Author.Tests.{eq-eqb, ne_eqb}
use Rattle.base.proofs.Choice.{took, left}
use Rattle.ends.proofs.Ends.{kept_ends, empty_ends, judged_ends}
use Rattle.ends.proofs.ended.Goals as goal

pub move_on-requires : goal.move_on-requires
move_on-requires c = record {
  cursors_len = (c.requires.le_p.1.1.1, c.requires.le_p.0.1);
  n_bound = (c.requires.len_in_bounds c.if-keeping.true).1;
}

pub put-requires : goal.put-requires
put-requires c =
    omega (arith, (c.requires.len_in_bounds c.if-keeping.true).0)

pub returns-then-keeping : goal.returns-then-keeping
returns-then-keeping c =
    let k = c.if-keeping.true in let t = c.put.ensures in record {
      value = kept_ends _ _ k;
      text_value = took _ _ k (rw t);
      cursors_value = took _ _ k c.move_on.ensures;
    }

pub returns-then-len-eq0 : goal.returns-then-len-eq0
returns-then-len-eq0 c =
    let k = c.if-keeping.false in let e = c.if-len-eq0.true in record {
      value = empty_ends _ _ k (eq-eqb c.args.len 0 (omega arith));
      text_value = left _ _ k refl;
      cursors_value = left _ _ k refl;
    }

pub returns : goal.returns
returns c =
    let k = c.if-keeping.false in record {
      value = judged_ends _ _ k (ne_eqb c.args.len 0 (λ e. c.if-len-eq0.false (omega arith)));
      text_value = left _ _ k refl;
      cursors_value = left _ _ k refl;
    }
