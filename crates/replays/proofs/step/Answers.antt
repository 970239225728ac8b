use native.Mathlib.Omega.{arith}
use lib.Seq.{length-take-le}
use Rattle.model.specs.Model.{model}
use Rattle.replays.proofs.Laws.{first_sound, steps_in_place}
use Rattle.replays.proofs.step.Goals as goal

pub turn-requires : goal.turn-requires
turn-requires c =
    let a = c.args in
    first_sound a.size a.symbols.now a.frequencies.now a.total.now c.requires

pub returns : goal.returns
returns c =
    let a = c.args in
    let r = c.turn in
    steps_in_place a.size a.symbol (model a.symbols.now a.frequencies.now a.total.now) r.result r.new.symbols r.new.frequencies r.new.total
    r.ensures (omega (arith, length-take-le a.size a.symbols.now (omega (arith, c.requires.sized)))) (omega (arith, length-take-le a.size a.frequencies.now (omega (arith, c.requires.sized))))
