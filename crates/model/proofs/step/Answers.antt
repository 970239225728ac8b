use Prim.Native.Nat.{◌+◌}
use mathlib.Core.Path.{◌≡◌, ap, ◌∙◌}
use native.Mathlib.Omega.{arith}
use lib.ListN.{get_or}
use Rattle.model.specs.declared.Model.{Model}
use Rattle.model.specs.Model.{model, growth, grown, settled, raised, step_at}
use Rattle.model.proofs.Laws.{settled_halved, settled_same}
use Rattle.model.proofs.Sums.{sum_set, sum_at}
use Rattle.model.proofs.step.Goals as goal
use Rattle.model.proofs.step.Goals.{then-total-gt-MOST, else-total-gt-MOST}

pub overflow_add-frequencies : goal.overflow_add-frequencies
overflow_add-frequencies c =
    let a = c.args in
    let p = c.requires in
    let f = c.args.frequencies.now in
    record { fits = omega (arith, sum_at (λ x. x) f a.at (omega (arith, p.0.table.paired)), p.0.table.summed, p.0.at_most) }

pub halve-requires : goal.halve-requires
halve-requires c =
    let a = c.args in
    let p = c.requires in
    let f = c.args.frequencies.now in
    omega (arith, sum_set (λ x. x) f a.at (get_or f a.at 0 + growth) (omega (arith, p.0.table.paired)), p.0.table.summed, p.0.at_most)

pub returns : goal.returns
unfolding step_at grown
returns c =
    let a = c.args in
    let j = c.if-total-gt-MOST in
    let m : Model = grown (model a.symbols.now a.frequencies.now a.total.now) a.at in
    let e : model a.symbols.now j.frequencies j.total ≡ settled m =
    elim j.branch [
      | then-total-gt-MOST w ↦ rw (w.frequencies-is, w.total-is) (settled_halved m (omega arith) w.halve.ensures.0 w.halve.ensures.1)
      | else-total-gt-MOST w ↦ rw (w.frequencies-is, w.total-is) (settled_same m (omega arith))
    ] in
    c.move_up.ensures _ ∙ ap (λ (x : Model). raised x a.at) e
