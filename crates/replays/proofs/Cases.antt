-- Worked cases, computed: the request's words and the draft's rule at the numbers where they turn.
use mathlib.Core.Path.{◌≡◌, refl}
use mathlib.Core.List.{[], ◌∷◌}
use Rattle.base.specs.Choice.{pick}
use Rattle.base.specs.Every.{numbers}
use Rattle.refusals.specs.declared.Refusal.TheVariants.{Plain}
use Rattle.refusals.specs.declared.Reason.TheVariants.{BadSymbol}
use Rattle.model.specs.Model.{model, started, place_of, sum_of, halves, grown, halved, settled, neighbour, swapped, exceeds, raised, step_at}
use Rattle.std.specs.Prelude.{Ok, Err}
use Rattle.replays.specs.Replays.{replaying, turn_of, onward, replay_from}

-- a total of 65,504 stays; at 65,512 every frequency is halved, each 1 staying 1
pub stays : step_at (model (0 ∷ 1 ∷ []) (65495 ∷ 1 ∷ []) 65496) 0 ≡ model (0 ∷ 1 ∷ []) (65503 ∷ 1 ∷ []) 65504
unfolding pick grown settled halved halves sum_of neighbour swapped exceeds raised step_at
stays = refl

pub halves_at_65512 : step_at (model (0 ∷ 1 ∷ []) (65503 ∷ 1 ∷ []) 65504) 0 ≡ model (0 ∷ 1 ∷ []) (32756 ∷ 1 ∷ []) 32757
unfolding pick grown settled halved halves sum_of neighbour swapped exceeds raised step_at
halves_at_65512 = refl

-- the move is judged by the halved numbers, which are equal here; before halving symbol 1 was the more frequent
pub moves_by_halves : step_at (model (0 ∷ 1 ∷ 2 ∷ []) (32751 ∷ 32744 ∷ 4 ∷ []) 65499) 1 ≡ model (0 ∷ 1 ∷ 2 ∷ []) (16376 ∷ 16376 ∷ 2 ∷ []) 32754
unfolding pick grown settled halved halves sum_of neighbour swapped exceeds raised step_at
moves_by_halves = refl

-- one place at a time, and only past a smaller one
pub one_place : replay_from (started 4) (3 ∷ 3 ∷ 2 ∷ 2 ∷ []) ≡ replaying (Ok tt) (model (0 ∷ 3 ∷ 2 ∷ 1 ∷ []) (1 ∷ 17 ∷ 17 ∷ 1 ∷ []) 36)
unfolding pick numbers started place_of grown settled halved halves sum_of neighbour swapped exceeds raised step_at turn_of onward replay_from
one_place = refl

-- a symbol outside the table: the first one, and a later one
pub outside_first : replay_from (started 3) (3 ∷ 2 ∷ []) ≡ replaying (Err (Plain BadSymbol)) (model (0 ∷ 1 ∷ 2 ∷ []) (1 ∷ 1 ∷ 1 ∷ []) 3)
unfolding pick numbers started place_of grown settled halved halves sum_of neighbour swapped exceeds raised step_at turn_of onward replay_from
outside_first = refl

pub outside_later : replay_from (started 3) (2 ∷ 3 ∷ 2 ∷ []) ≡ replaying (Err (Plain BadSymbol)) (model (0 ∷ 2 ∷ 1 ∷ []) (1 ∷ 9 ∷ 1 ∷ []) 11)
unfolding pick numbers started place_of grown settled halved halves sum_of neighbour swapped exceeds raised step_at turn_of onward replay_from
outside_later = refl
