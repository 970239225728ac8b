-- A trace of symbols replayed (C-22): from the start, a step for each symbol of the trace; 17, then 18.
use Rattle.std.specs.Prelude.{ℕ, ⊤, Bool, List, [], ◌∷◌, Result, Ok, Err, length, take, ltb, leb}
use Rattle.base.specs.Choice.{pick, both}
use Rattle.base.specs.Memory.{written}
use Rattle.refusals.specs.declared.Reason.TheVariants.{BadSize, BadSymbol}
use Rattle.refusals.specs.declared.Refusal.{Refusal}
use Rattle.refusals.specs.declared.Refusal.TheVariants.{Plain}
use Rattle.model.specs.declared.Model.{Model}
use Rattle.model.specs.Model.{model, places, started, place_of, step_at}

-- what a replay leaves: its answer and the model
pub record Replaying : Type 0 where
  pub answer : Result ⊤ Refusal
  pub model : Model

abbrev pub replaying : Result ⊤ Refusal → Model → Replaying
replaying a m = record { answer = a; model = m }

-- one symbol: refused with 18 if it stands nowhere in the table, which then stays; else its step
unfoldable pub turn_of : Model → ℕ → Replaying
turn_of m s =
    pick (ltb (place_of m.symbols s) (length m.symbols))
    (replaying (Ok tt) (step_at m (place_of m.symbols s)))
    (replaying (Err (Plain BadSymbol)) m)

-- what comes after a turn: the rest, on the table that it left; nothing after a refusal
unfoldable pub onward : Result ⊤ Refusal → Model → (Model → Replaying) → Replaying
onward (Ok u) m rest = rest m
onward (Err r) m rest = replaying (Err r) m

-- a table taken through a trace: a turn for each symbol until one is refused, and the table keeps what those before it did
unfoldable pub replay_from : Model → List ℕ → Replaying
replay_from m [] = replaying (Ok tt) m
replay_from m (s ∷ rest) = onward (turn_of m s).answer (turn_of m s).model (λ t. replay_from t rest)

-- a table of n symbols, from its start
unfoldable pub replay_fresh : ℕ → List ℕ → Replaying
replay_fresh n trace = replay_from (started n) trace

-- a record with a table in its first places, and its total; the places behind it stay
unfoldable pub with_table : Model → Model → Model
with_table m t = model (written m.symbols 0 t.symbols) (written m.frequencies 0 t.frequencies) t.total

-- what is left of a table, in its record
unfoldable pub in_place : Model → Replaying → Replaying
in_place m r = replaying r.answer (with_table m r.model)

-- the table in the first n places of a record
unfoldable pub table_in : ℕ → Model → Model
table_in n m = model (take n m.symbols) (take n m.frequencies) m.total

-- one symbol seen by a model whose table has n places
unfoldable pub step_of : ℕ → ℕ → Model → Replaying
step_of n s m = in_place m (turn_of (table_in n m) s)

-- a size that a table can have
unfoldable pub is_size : ℕ → Bool
is_size n = both (leb 1 n) (leb n places)

-- the call: 17 for another size, whatever the trace, and the record stays; else the table that the trace leaves, at 18 too
unfoldable pub replay_of : ℕ → List ℕ → Model → Replaying
replay_of n trace m = pick (is_size n) (in_place m (replay_fresh n trace)) (replaying (Err (Plain BadSize)) m)
