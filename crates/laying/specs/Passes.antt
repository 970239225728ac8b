-- A pass over the puts, one after another: what it does with each, and the room that it wants.
-- A span's end in the directory counts its size, and when the spans are filled it is the place of the next byte.
use Rattle.std.specs.Prelude.{ℕ, zero, suc, ◌+◌, ◌*◌, ◌^◌, ◌<◌, ◌≤◌, ◌≡◌, Bool, true, false, List, [], ◌∷◌, length, set}
use Rattle.base.specs.Choice.{pick}
use Rattle.base.specs.Memory.{written}
use Rattle.block.specs.Block.{end_of}
use Rattle.laying.specs.declared.Pass.{Pass}
use Rattle.laying.specs.declared.Pass.TheVariants.{Total, Sizes, Fill}
use Rattle.laying.specs.Puts.{Put, table_of}

-- a pass that counts in the directory
unfoldable pub counts : Pass → Bool
counts Total = false
counts Sizes = true
counts Fill = true

-- a pass that writes the bytes
unfoldable pub fills : Pass → Bool
fills Total = false
fills Sizes = false
fills Fill = true

-- the bytes met so far, the directory and the bytes
pub record World : Type 0 where
  pub total : ℕ
  pub dir : List ℕ
  pub bytes : List ℕ

abbrev pub world : ℕ → List ℕ → List ℕ → World
world t d b = record { total = t; dir = d; bytes = b }

-- a span's end moved n bytes on
unfoldable pub moved : List ℕ → ℕ → ℕ → List ℕ
moved dir k n = set dir (2 * k + 1) (end_of dir k + n)

-- one put
unfoldable pub step_of : Pass → Put → World → World
step_of pass p w = world
    (w.total + length p.bytes)
    (pick (counts pass) (moved w.dir p.span (length p.bytes)) w.dir)
    (pick (fills pass) (written w.bytes (end_of w.dir p.span) p.bytes) w.bytes)

unfoldable pub run_of : Pass → List Put → World → World
run_of pass [] w = w
run_of pass (p ∷ ps) w = run_of pass ps (step_of pass p w)

-- what a pass wants of one put of n bytes into span k
pub record Room (pass : Pass) (k n : ℕ) (w : World) : Type 0 where
  pub inside : k < 1290
  pub table : length w.dir ≡ 2580
  pub sum : w.total + n < 2 ^ 32
  pub count : counts pass ≡ true → end_of w.dir k + n < 2 ^ 32
  pub place : fills pass ≡ true → end_of w.dir k + n ≤ length w.bytes

-- and of all puts
unfoldable pub Roomy : Pass → List Put → World → Type 0
Roomy pass [] w = Unit
Roomy pass (p ∷ ps) w = Room pass p.span (length p.bytes) w × Roomy pass ps (step_of pass p w)

-- where the spans start by the sizes that a directory's ends have
unfoldable pub offset_in : List ℕ → ℕ → ℕ
offset_in dir zero = 0
offset_in dir (suc k) = offset_in dir k + end_of dir k

-- sizes made places: each span's start, and its end where its first byte goes
unfoldable pub places_of : List ℕ → List ℕ
places_of dir = table_of (offset_in dir) (offset_in dir)

-- a directory of empty spans
unfoldable pub cleared : List ℕ
cleared = table_of (λ i. 0) (λ i. 0)
