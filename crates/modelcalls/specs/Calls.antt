-- What the exported replay leaves: its number and the model.
-- The contract names the call's own buffers: what is left in them (`..Left`) is what the definition gives of what they are lent with (`..Lent`).
use Rattle.std.specs.Prelude.{ℕ, ⊤, List, Result, Ok, Err}
use Rattle.refusals.specs.declared.Refusal.{Refusal}
use Rattle.model.specs.declared.Model.{Model}
use Rattle.model.specs.Model.{model}
use Rattle.replays.specs.Replays.{Replaying, replay_of}
use Rattle.codes.specs.Codes.{packed, refusal_number}

unfoldable pub replayed_number : Result ⊤ Refusal → ℕ
replayed_number (Ok u) = packed 0 0
replayed_number (Err r) = refusal_number r

pub record Replays : Type 0 where
  pub number : ℕ
  pub model : Model

abbrev pub replays : ℕ → Model → Replays
replays n m = record { number = n; model = m }

abbrev pub replays_left : ℕ → List ℕ → List ℕ → ℕ → Replays
replays_left n symbols frequencies total = replays n (model symbols frequencies total)

unfoldable pub replays_of : Replaying → Replays
replays_of r = replays (replayed_number r.answer) r.model

unfoldable pub replay_call : ℕ → List ℕ → Model → Replays
replay_call size trace m = replays_of (replay_of size trace m)

abbrev pub replay_call_lent : ℕ → List ℕ → List ℕ → List ℕ → ℕ → Replays
replay_call_lent size trace symbols frequencies total = replay_call size trace (model symbols frequencies total)
