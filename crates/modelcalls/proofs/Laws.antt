-- From what a replay leaves to what its export leaves.
use Prim.Native.Nat.{ℕ}
use mathlib.Core.Path.{◌≡◌, ap, ◌∙◌}
use mathlib.Core.List.{List}
use Rattle.model.specs.declared.Model.{Model}
use Rattle.std.specs.Prelude.{⊤, Result}
use Rattle.refusals.specs.declared.Refusal.{Refusal}
use Rattle.replays.specs.Replays.{replaying, replay_of}
use Rattle.modelcalls.specs.Calls.{replayed_number, replays, replays_of, replay_call}

pub replayed_call : (size : ℕ) (trace : List ℕ) (m : Model) (a : Result ⊤ Refusal) (x : Model) {n : ℕ} → replaying a x ≡ replay_of size trace m → n ≡ replayed_number a → replays n x ≡ replay_call size trace m
unfolding replay_call replays_of
replayed_call size trace m a x e p = ap (λ (k : ℕ). replays k x) p ∙ ap replays_of e
