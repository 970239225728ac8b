-- Where a walk over the names of an input stands, and that it goes on from name to name.
use Prim.Native.Nat.{ℕ, ◌+◌, ◌≤◌, ◌<◌}
use mathlib.Core.Path.{◌≡◌, ap}
use mathlib.Core.List.{List, []}
use native.Mathlib.Omega.{arith}
use lib.ListN.{length, drop}
use Rattle.inputs.specs.Inputs.{names_after, names_of, NameAt}
use Rattle.inputs.proofs.Laws.{names_out}

-- where a walk over the names stands: name n starts at a place
pub record Standing (input : List ℕ) (n start : ℕ) : Type 0 where
  pub within : start ≤ length input
  pub count : n + length (names_after [] (drop start input)) ≡ length (names_of input)

pub stand_first : (input : List ℕ) → Standing input 0 0
unfolding names_of
stand_first input = record { within = omega arith; count = omega arith }

module _ (input : List ℕ) (n start : ℕ) (k : Standing input n start) where
  module _ (end : ℕ) (e : NameAt input start end) where
    pub stand_next : Standing input (n + 1) (end + 1)
    stand_next = record {
      within = let z : end < length input = e.high in omega arith;
      count = let z : n + length (names_after [] (drop start input)) ≡ length (names_of input) = k.count in omega (arith, ap length e.first);
    }

    pub names_count : n < length (names_of input)
    names_count = let z : n + length (names_after [] (drop start input)) ≡ length (names_of input) = k.count in omega (arith, ap length e.first)

  pub none_left : length input ≤ start → names_after [] (drop start input) ≡ []
  none_left h =
      let z : start ≤ length input = k.within in
      names_out input [] start (omega arith)
