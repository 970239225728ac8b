use native.Mathlib.Omega.{arith}
use mathlib.Core.Path.{refl, sym, ◌∙◌}
use Rattle.base.proofs.Choice.{took, left}
use Rattle.taking.proofs.Taking.{kept_on, judged_on, judged_spoils, put_typed}
use Rattle.taking.proofs.take.Goals as goal

pub keep_token-w-requires : goal.keep_token-w-requires
keep_token-w-requires c =
    let k = c.requires.keepable_at c.if-keeping.true in
    let room = k.table in record {
      inside = c.requires.inside;
      kept_below = k.below;
      t_in_bounds = (k.bytes, omega arith);
      cursors_len = (k.spans, (c.requires.placed.0.1, k.typed));
      movable = λ h. k.movable (sym c.type_in-ty.ensures ∙ h);
    }

pub returns-then-keeping : goal.returns-then-keeping
returns-then-keeping c =
    let k = c.if-keeping.true in let x = c.keep_token-w.ensures in record {
      value = kept_on _ _ _ _ _ k x.value;
      cursors_value = took _ _ k (put_typed _ _ _ _ _ _ _ c.type_in-ty.ensures x.cursors_value);
    }

pub returns-then-prints : goal.returns-then-prints
returns-then-prints c =
    let k = c.if-keeping.false in record {
      value = judged_on _ _ _ _ _ k c.prints.ensures c.if-prints.true c.length-w.ensures;
      cursors_value = left _ _ k refl;
    }

pub returns-else-prints : goal.returns-else-prints
returns-else-prints c =
    let k = c.if-keeping.false in record {
      value = judged_spoils _ _ _ _ _ k c.prints.ensures c.if-prints.false;
      cursors_value = left _ _ k refl;
    }
