use borrow.Author.Rules.{rules}
use native.Mathlib.Omega.{arith}
use Prim.Native.Nat.{◌-◌}
use mathlib.Core.Path.{refl}
use Rattle.digits.proofs.Fractions.{digits_more}
use Rattle.digits.proofs.Steps.{digit_first, digits_done}
use Rattle.digits.proofs.put_digits.Goals as goal

pub loop-left-init : goal.loop-left-init
loop-left-init c = record { within = refl; parts = search rules; others = refl }

pub loop-left-preserved : goal.loop-left-preserved
loop-left-preserved c =
    let l = c.loop-left in
    let d = c.lead-d.ensures in
    record {
      within = omega arith;
      parts = omega (arith, d.1);
      others = digit_first _ _ l.place l.buf _ (search rules) (digits_more l.rest l.left (l.left - 1) (omega arith) l.invariant.parts (omega (arith, d.1))) (omega (arith, d.0)) l.invariant.others;
    }

pub returns : goal.returns
returns c = let l = c.loop-left in digits_done _ _ l.place l.buf _ (omega arith) l.invariant.others
