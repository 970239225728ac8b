-- A replay is its steps.
use Prim.Native.Nat.{ℕ, ◌+◌, ◌≤◌}
use mathlib.Core.Path.{◌≡◌, refl, sym, ap, ap₂, subst, ◌∙◌}
use mathlib.Core.List.{List, [], ◌∷◌, ◌++◌}
use lib.ListN.{length, take, drop}
use lib.Seq.{take_at}
use Rattle.base.specs.Memory.{written}
use Rattle.base.proofs.Lists.{written_mid}
use Rattle.model.specs.declared.Model.{Model}
use Rattle.model.specs.Model.{model, places, started}
use Rattle.model.specs.Sound.{Sound}
use Rattle.std.specs.Prelude.{⊤, Result, Ok, Err}
use Rattle.refusals.specs.declared.Refusal.{Refusal}
use Rattle.replays.specs.Replays.{Replaying, replaying, turn_of, onward, replay_from, replay_fresh, with_table, in_place, table_in, step_of}
use Rattle.replays.specs.Steps.{steps_of, started_in, ReplayIsSteps, ReplaySound, StepSound}
use Rattle.replays.proofs.Always.{sound_started, sound_turn}
use Rattle.replays.proofs.Laws.{fresh_is, well_sized}

-- what is written in front is in front, and is written over
module _ (d s : List ℕ) where
  front : (n : ℕ) → length s ≡ n → take n (written d 0 s) ≡ s
  unfolding written
  front n e = take_at s (drop (0 + length s) d) n e

  over : (t : List ℕ) → length s ≡ length t → written (written d 0 s) 0 t ≡ written d 0 t
  unfolding written
  over t e = written_mid [] s (drop (0 + length s) d) t 0 refl e ∙ ap (λ (j : ℕ). t ++ drop j d) (ap (λ (k : ℕ). 0 + k) e)

module _ (n : ℕ) (m : Model) where
  in_front : (t : Model) → Sound n t → table_in n (with_table m t) ≡ t
  unfolding with_table table_in
  in_front t g = ap₂ (λ (a b : List ℕ). model a b t.total) (front m.symbols t.symbols n g.table.placed) (front m.frequencies t.frequencies n g.table.paired)

  -- another table of the same size takes its place
  replaced : (t : Model) (r : Replaying) → Sound n t → Sound n r.model → in_place (with_table m t) r ≡ in_place m r
  unfolding with_table in_place
  replaced t r g h =
      ap₂ (λ (a b : List ℕ). replaying r.answer (model a b r.model.total))
      (over m.symbols t.symbols r.model.symbols (g.table.placed ∙ sym h.table.placed))
      (over m.frequencies t.frequencies r.model.frequencies (g.table.paired ∙ sym h.table.paired))

  -- a step of a record is a turn of its table
  step_is : (t : Model) (s : ℕ) → Sound n t → step_of n s (with_table m t) ≡ in_place m (turn_of t s)
  unfolding step_of
  step_is t s g = ap (λ (x : Model). in_place (with_table m t) (turn_of x s)) (in_front t g) ∙ replaced t (turn_of t s) g (sound_turn n t g s)

  -- what comes after a turn: in the table, and in the record
  onward_is : (a : Result ⊤ Refusal) (t : Model) (rest : List ℕ) → in_place m (replay_from t rest) ≡ steps_of n (with_table m t) rest
      → in_place m (onward a t (λ (x : Model). replay_from x rest)) ≡ onward a (with_table m t) (λ (x : Model). steps_of n x rest)
  unfolding onward in_place
  onward_is (Ok u) t rest e = e
  onward_is (Err c) t rest e = refl

  steps_are : (trace : List ℕ) (t : Model) → Sound n t → in_place m (replay_from t trace) ≡ steps_of n (with_table m t) trace
  unfolding replay_from steps_of in_place
  steps_are [] t g = refl
  steps_are (s ∷ rest) t g =
      onward_is (turn_of t s).answer (turn_of t s).model rest (steps_are rest (turn_of t s).model (sound_turn n t g s))
      ∙ ap (λ (r : Replaying). onward r.answer r.model (λ (x : Model). steps_of n x rest)) (sym (step_is t s g))

pub replay_is_steps : ReplayIsSteps
unfolding started_in
replay_is_steps n trace m h k = sym (well_sized n trace m h k) ∙ ap (in_place m) (fresh_is n trace) ∙ steps_are n m trace (started n) (sound_started n k)

-- a table that is sound is so after any trace
onward_sound : (n : ℕ) (a : Result ⊤ Refusal) (t : Model) (rest : List ℕ) → Sound n t → Sound n (replay_from t rest).model → Sound n (onward a t (λ (x : Model). replay_from x rest)).model
unfolding onward
onward_sound n (Ok u) t rest g h = h
onward_sound n (Err c) t rest g h = g

sound_from_law : (n : ℕ) (trace : List ℕ) (t : Model) → Sound n t → Sound n (replay_from t trace).model
unfolding replay_from
sound_from_law n [] t g = g
sound_from_law n (s ∷ rest) t g =
    let h : Sound n (turn_of t s).model = sound_turn n t g s in
    onward_sound n (turn_of t s).answer (turn_of t s).model rest h (sound_from_law n rest (turn_of t s).model h)

pub sound_fresh : (n : ℕ) → n ≤ places → (trace : List ℕ) → Sound n (replay_fresh n trace).model
sound_fresh n h trace = subst (λ (r : Replaying). Sound n r.model) (sym (fresh_is n trace)) (sound_from_law n trace (started n) (sound_started n h))

pub replay_sound : ReplaySound
unfolding in_place
replay_sound n trace m h k =
    let g : Sound n (replay_fresh n trace).model = sound_fresh n k trace in
    subst (λ (r : Replaying). Sound n (table_in n r.model)) (well_sized n trace m h k) (subst (Sound n) (sym (in_front n m (replay_fresh n trace).model g)) g)

pub step_sound : StepSound
unfolding step_of in_place
step_sound n s m g =
    let t = (turn_of (table_in n m) s).model in
    let h : Sound n t = sound_turn n (table_in n m) g s in
    subst (Sound n) (sym (in_front n m t h)) h
