-- The adaptive model's table (C-22, by the draft's rule): its start, and what one symbol that was seen does to it.
-- A table of n symbols is a model whose lists have n places: symbols and frequencies by their places, and the total.
use Rattle.std.specs.Prelude.{ℕ, suc, ◌+◌, ◌-◌, ◌/◌, Bool, List, [], ◌∷◌, get_or, set, replicate, ltb, eqb}
use Rattle.base.specs.Choice.{pick, both}
use Rattle.base.specs.Every.{numbers}
use Rattle.model.specs.declared.Model.{Model}

abbrev pub model : List ℕ → List ℕ → ℕ → Model
model s f t = record { symbols = s; frequencies = f; total = t }

-- a symbol's frequency and the total grow by 8
abbrev pub growth : ℕ
growth = 8

-- a total above it has every frequency halved
abbrev pub most : ℕ
most = 65504

-- table sizes are 1 to 256
abbrev pub places : ℕ
places = 256

-- n symbols at the start: each at its own place, all frequencies 1
unfoldable pub started : ℕ → Model
started n = model (numbers 0 n) (replicate n 1) n

-- the first place at which a symbol stands; behind the last, if it stands at none
unfoldable pub place_of : List ℕ → ℕ → ℕ
place_of [] s = 0
place_of (x ∷ l) s = pick (eqb x s) 0 (suc (place_of l s))

-- what the numbers of a list come to, each at its worth
unfoldable pub sum_of : (ℕ → ℕ) → List ℕ → ℕ
sum_of worth [] = 0
sum_of worth (x ∷ l) = worth x + sum_of worth l

abbrev pub sum : List ℕ → ℕ
sum l = sum_of (λ x. x) l

-- every frequency less its half rounded down
unfoldable pub halves : List ℕ → List ℕ
halves [] = []
halves (f ∷ l) = (f - f / 2) ∷ halves l

-- the symbol at x has been seen: its frequency and the total grow
unfoldable pub grown : Model → ℕ → Model
grown m x = model m.symbols (set m.frequencies x (get_or m.frequencies x 0 + growth)) (m.total + growth)

-- every frequency halved, the total summed afresh
unfoldable pub halved : Model → Model
halved m = model m.symbols (halves m.frequencies) (sum (halves m.frequencies))

-- every frequency halved if the total is above the most that it may be
unfoldable pub settled : Model → Model
settled m = pick (ltb most m.total) (halved m) m

-- the neighbour of a place, towards place 0
unfoldable pub neighbour : ℕ → ℕ
neighbour x = x - 1

-- what stands at x exchanged with what stands at its neighbour
unfoldable pub swapped : List ℕ → ℕ → List ℕ
swapped l x = set (set l x (get_or l (neighbour x) 0)) (neighbour x) (get_or l x 0)

-- the frequency at x exceeds its neighbour's; place 0 has none
unfoldable pub exceeds : List ℕ → ℕ → Bool
exceeds f x = both (ltb 0 x) (ltb (get_or f (neighbour x) 0) (get_or f x 0))

-- the symbol at x moves up one place if its frequency exceeds its neighbour's
unfoldable pub raised : Model → ℕ → Model
raised m x = pick (exceeds m.frequencies x) (model (swapped m.symbols x) (swapped m.frequencies x) m.total) m

-- one symbol seen, at its place: it grows, then halving if needed, then the move, judged by the halved numbers
unfoldable pub step_at : Model → ℕ → Model
step_at m x = raised (settled (grown m x)) x
