use Rattle.std.proofs.Common.{rules, arith, ◌≡◌, sym, ◌∙◌}
use Rattle.classes.specs.declared.Class.TheVariants.{Digit}
use Rattle.splitting.proofs.Cuts.{said_nothing, said_here, said_out, said_small, said_digit, said_more}
use Rattle.splitting.proofs.number_run.Goals as goal

pub loop-i-init : goal.loop-i-init
loop-i-init c = said_nothing c.args.name.now c.args.at c.args.to (omega arith)

pub returns-then-ne : goal.returns-then-ne
returns-then-ne c =
    let a = c.args in
    let n : c.class_in.result ≡ Digit → ⊥ = search rules in
    said_here a.name.now a.at a.to c.loop-i.n c.loop-i.i c.loop-i.invariant (omega arith) (omega arith) (λ e. n (c.class_in.ensures ∙ e))

pub overflow_mul-n : goal.overflow_mul-n
overflow_mul-n c =
    let l = c.loop-i in
    let a = c.args in
    omega (arith, said_small a.name.now a.at a.to l.n l.i l.invariant (omega arith) (omega arith) (omega arith))

pub overflow_sub-n : goal.overflow_sub-n
overflow_sub-n c =
    let l = c.loop-i in
    let a = c.args in
    let e : c.class_in.result ≡ Digit = search rules in
    (said_digit a.name.now a.at a.to l.n l.i l.invariant (omega arith) (omega arith) (sym c.class_in.ensures ∙ e)).0

pub overflow_add-n : goal.overflow_add-n
overflow_add-n c =
    let l = c.loop-i in
    let a = c.args in
    let e : c.class_in.result ≡ Digit = search rules in
    omega (arith, said_digit a.name.now a.at a.to l.n l.i l.invariant (omega arith) (omega arith) (sym c.class_in.ensures ∙ e), said_small a.name.now a.at a.to l.n l.i l.invariant (omega arith) (omega arith) (omega arith))

pub loop-i-preserved : goal.loop-i-preserved
loop-i-preserved c =
    let l = c.loop-i in
    let a = c.args in
    let e : c.class_in.result ≡ Digit = search rules in
    said_more a.name.now a.at a.to l.n l.i l.invariant (omega arith) (omega arith) (sym c.class_in.ensures ∙ e)

pub returns : goal.returns
returns c =
    let l = c.loop-i in
    let a = c.args in
    let e : l.i ≡ a.to = omega arith in
    rw e at (said_out a.name.now a.at a.to l.n l.i l.invariant (omega arith) (omega arith))
