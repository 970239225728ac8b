use native.Mathlib.Omega.{arith}
use Rattle.model.proofs.Laws.{stays_first, stays_below, moves_up}
use Rattle.model.proofs.move_up.Goals as goal

pub returns-then-at-eq0 : goal.returns-then-at-eq0
returns-then-at-eq0 c =
    let a = c.args in
    λ t. stays_first a.symbols.now a.frequencies.now t a.at (omega arith)

pub returns-then-frequencies-at : goal.returns-then-frequencies-at
returns-then-frequencies-at c =
    let a = c.args in
    λ t. stays_below a.symbols.now a.frequencies.now t a.at (omega arith) (omega arith)

pub returns : goal.returns
returns c =
    let a = c.args in
    λ t. moves_up a.symbols.now a.frequencies.now t a.at (omega arith) (omega arith) (omega arith) (omega arith) c.swap.ensures.after c.swap-2.ensures.after
