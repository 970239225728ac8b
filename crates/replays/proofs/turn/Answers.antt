use native.Mathlib.Omega.{arith}
use Rattle.model.specs.Model.{model}
use Rattle.replays.proofs.Laws.{turn_stops, turn_steps}
use Rattle.replays.proofs.turn.Goals as goal

pub returns-then-symbols-at : goal.returns-then-symbols-at
returns-then-symbols-at c =
    let a = c.args in
    turn_stops (model a.symbols.now a.frequencies.now a.total.now) a.symbol (omega (arith, c.place_of-at.ensures))

pub returns : goal.returns
returns c =
    let a = c.args in
    turn_steps (model a.symbols.now a.frequencies.now a.total.now) a.symbol c.place_of-at.result c.place_of-at.ensures (omega arith) _ c.step.ensures
