use Rattle.std.proofs.Common.{rules, arith, ◌≡◌, length, sym, ◌∙◌}
use Rattle.splitting.proofs.Runs.{run_here, run_next, run_out}
use Rattle.splitting.proofs.run_end.Goals as goal

pub returns-then-ne : goal.returns-then-ne
returns-then-ne c =
    let a = c.args in
    let n : c.class_in.result ≡ a.class → ⊥ = search rules in
    sym (run_here a.name.now a.class c.loop-i.i (length a.name.now) c.loop-i-test.true (λ e. n (c.class_in.ensures ∙ e))) ∙ c.loop-i.invariant

pub loop-i-preserved : goal.loop-i-preserved
loop-i-preserved c =
    let a = c.args in
    let e : c.class_in.result ≡ a.class = search rules in
    run_next a.name.now a.class c.loop-i.i (length a.name.now) c.loop-i-test.true (sym c.class_in.ensures ∙ e) ∙ c.loop-i.invariant

pub returns : goal.returns
returns c =
    let a = c.args in
    let e : c.loop-i.i ≡ length a.name.now = omega arith in
    sym e ∙ sym (run_out a.name.now a.class c.loop-i.i (length a.name.now) (omega arith)) ∙ c.loop-i.invariant
