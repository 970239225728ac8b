use mathlib.Core.Path.{◌≡◌, ◌∙◌}
use native.Mathlib.Omega.{arith}
use lib.ListN.{length}
use Rattle.std.proofs.lemmas.Result.{err_from_is_err_and}
use Rattle.model.specs.Model.{model}
use Rattle.replays.proofs.Always.{sound_after}
use Rattle.replays.proofs.Laws.{replay_ends, replay_stops, replay_steps}
use Rattle.replays.proofs.follow.Goals as goal

pub returns-in_err-turn : goal.returns-in_err-turn
returns-in_err-turn c =
    let a = c.args in
    let l = c.loop-symbol in
    let r = c.turn in
    let m = model l.symbols l.frequencies l.total in
    let t = model r.new.symbols r.new.frequencies r.new.total in
    let p = err_from_is_err_and c.from_residual.result c.from_residual.ensures.1 in
    let e : c.from_residual.result ≡ r.result = cc (p.1, p.2) in
    rw e (replay_stops m a.trace.now l.symbol-index (omega arith) r.result t r.ensures _ c.in_err-turn.was ∙ l.invariant.rest)

pub loop-symbol-preserved : goal.loop-symbol-preserved
loop-symbol-preserved c =
    let a = c.args in
    let l = c.loop-symbol in
    let r = c.turn in
    let m = model l.symbols l.frequencies l.total in
    let t = model r.new.symbols r.new.frequencies r.new.total in
    record {
      sound = sound_after (length a.symbols.now) m l.invariant.sound _ r.result t r.ensures;
      rest = replay_steps m a.trace.now l.symbol-index (omega arith) r.result t r.ensures c.in_ok-turn.was ∙ l.invariant.rest;
    }

pub returns : goal.returns
returns c =
    let l = c.loop-symbol in
    replay_ends (model l.symbols l.frequencies l.total) c.args.trace.now l.symbol-index (omega arith) ∙ l.invariant.rest
