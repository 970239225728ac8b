use mathlib.Core.Path.{◌≡◌}
use Rattle.model.specs.Model.{model}
use Rattle.replays.specs.Replays.{replaying, replay_of}
use Rattle.modelcalls.specs.Calls.{replayed_number}
use Rattle.modelcalls.proofs.Laws.{replayed_call}
use Rattle.modelcalls.proofs.replay.Goals as goal

pub returns-in-Ok : goal.returns-in-Ok
unfolding replayed_number
returns-in-Ok c =
    let a = c.args in
    let r = c.replay in
    -- each table goes on as itself
    let e : replaying r.result (model c.replay.new.symbols c.replay.new.frequencies c.replay.new.total) ≡ replay_of a.size a.trace.now (model a.symbols.now a.frequencies.now a.total.now) = rw r.ensures in
    replayed_call _ _ _ r.result _ e (rw (c.pack.ensures, c.in-Ok.is))

pub returns-in-Err : goal.returns-in-Err
unfolding replayed_number
returns-in-Err c =
    replayed_call _ _ _ c.replay.result _ c.replay.ensures (rw (c.refused.ensures, c.in-Err.is))
