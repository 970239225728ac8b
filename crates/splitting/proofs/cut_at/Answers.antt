use Prim.Native.Nat.{ℕ, ◌-◌}
use mathlib.Core.Path.{refl, sym, ap, ◌∙◌}
use native.Mathlib.Omega.{arith}
use borrow.Author.Tests.{eq-eqb, ne_eqb, lt-ltb, le-ltb}
use Rattle.base.proofs.Choice.{took, left}
use Rattle.classes.proofs.Laws.{same_of}
use Rattle.splitting.specs.Split.{number_run, cut_of}
use Rattle.splitting.proofs.Runs.{limit_digits, run_letters, run_alone}
use Rattle.splitting.proofs.Cuts.{cut_plain}
use Rattle.splitting.proofs.cut_at.Goals as goal

pub returns-then-name-at : goal.returns-then-name-at
unfolding cut_of
returns-then-name-at c = left _ _ (le-ltb _ _ c.if-name-at.true) refl

pub returns-then-p-eq-LAST : goal.returns-then-p-eq-LAST
unfolding cut_of
returns-then-p-eq-LAST c =
    took _ _ (lt-ltb _ _ c.if-name-at.false) (took _ _ (eq-eqb c.args.p.0 127 (omega arith)) refl)

pub number_run-requires-clause-at_le_to : goal.number_run-requires-clause-at_le_to
number_run-requires-clause-at_le_to c =
    let r = limit_digits c.args.name.now c.args.at c.if-name-at.false (sym c.class_in.ensures ∙ c.in-Digit.is) in
    rw c.digits_limit.ensures (omega arith)

pub returns-in-Digit : goal.returns-in-Digit
unfolding cut_of
returns-in-Digit c =
    let a = c.args in
    took _ _ (lt-ltb _ _ c.if-name-at.false) (left _ _ (ne_eqb a.p.0 127 (omega arith))
    (took _ _ (same_of _ _ (sym c.class_in.ensures ∙ c.in-Digit.is))
    (c.number_run.ensures ∙ ap (λ (to : ℕ). number_run a.name.now a.at (to - a.at)) c.digits_limit.ensures)))

pub returns-in-Letter : goal.returns-in-Letter
returns-in-Letter c =
    let a = c.args in
    let k = sym c.class_in.ensures ∙ c.in-Letter.is in
    cut_plain a.name.now a.p.0 a.at c.if-name-at.false (omega arith) (λ e. cc (k, e)) (c.run_end.ensures ∙ run_letters a.name.now a.at c.if-name-at.false k)

pub returns-in-Other : goal.returns-in-Other
returns-in-Other c =
    let a = c.args in
    let k = sym c.class_in.ensures ∙ c.in-Other.is in
    cut_plain a.name.now a.p.0 a.at c.if-name-at.false (omega arith) (λ e. cc (k, e)) (omega (arith, run_alone a.name.now a.at c.if-name-at.false (λ e. cc (k, e)) (λ e. cc (k, e))))
