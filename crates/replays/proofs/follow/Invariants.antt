use mathlib.Core.Path.{◌≡◌}
use lib.ListN.{length, drop}
use Rattle.model.specs.Model.{model}
use Rattle.model.specs.Sound.{Sound}
use Rattle.replays.specs.Replays.{replay_from}
use Rattle.replays.proofs.follow.Given as goal

abbrev pub invariant-loop-symbol : goal.invariant-loop-symbol
invariant-loop-symbol l = record {
  sound : Sound (length l.initial.symbols) (model l.symbols l.frequencies l.total);
  rest : replay_from (model l.symbols l.frequencies l.total) (drop l.symbol-index l.trace) ≡ replay_from (model l.initial.symbols l.initial.frequencies l.initial.total) l.trace;
}
