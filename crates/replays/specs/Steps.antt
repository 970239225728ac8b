-- A replay is its steps: what `replay` leaves of a record, and what `step` leaves of it.
use Rattle.std.specs.Prelude.{ℕ, ◌≤◌, ◌≡◌, List, [], ◌∷◌, Ok}
use Rattle.model.specs.declared.Model.{Model}
use Rattle.model.specs.Model.{places, started}
use Rattle.model.specs.Sound.{Sound}
use Rattle.replays.specs.Replays.{Replaying, replaying, onward, with_table, table_in, step_of, replay_of}

-- steps one after another, each on the record that the one before left, until one is refused
unfoldable pub steps_of : ℕ → Model → List ℕ → Replaying
steps_of n m [] = replaying (Ok tt) m
steps_of n m (s ∷ rest) = onward (step_of n s m).answer (step_of n s m).model (λ t. steps_of n t rest)

-- a record with a table of n symbols at its start
unfoldable pub started_in : ℕ → Model → Model
started_in n m = with_table m (started n)

-- a replay is the start, then a step for each symbol of the trace until one is refused
abbrev pub ReplayIsSteps : Type 0
ReplayIsSteps = (n : ℕ) (trace : List ℕ) (m : Model) → 1 ≤ n → n ≤ places → replay_of n trace m ≡ steps_of n (started_in n m) trace

-- what a replay leaves, at 18 too, is what a step asks for, and so is what a step leaves
abbrev pub ReplaySound : Type 0
ReplaySound = (n : ℕ) (trace : List ℕ) (m : Model) → 1 ≤ n → n ≤ places → Sound n (table_in n (replay_of n trace m).model)

abbrev pub StepSound : Type 0
StepSound = (n s : ℕ) (m : Model) → Sound n (table_in n m) → Sound n (table_in n (step_of n s m).model)
