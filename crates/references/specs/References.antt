-- The writing rule at position 0: what a name refers to, and the name whose rows it leans on.
use Rattle.std.specs.Prelude.{ℕ, Bool, List, [], eqb}
use Rattle.base.specs.Choice.{pick}
use Rattle.comparing.specs.Same.{same}
use Rattle.distances.specs.declared.Reference.{Reference}
use Rattle.distances.specs.declared.Reference.TheVariants.{Dup, Diff}

-- a name with no reference to an earlier one: name 0
unfoldable pub anew : ℕ → Bool
anew n = eqb n 0

-- name n after the name just before it. Name 0 is DIFF 0; a later name equal to the one before is DUP 1, otherwise DIFF 1
unfoldable pub reference_of : ℕ → List ℕ → List ℕ → Reference
reference_of n before s = pick (anew n) (Diff (record { 0 = 0 })) (pick (same before s) (Dup (record { 0 = 1 })) (Diff (record { 0 = 1 })))

-- the name whose rows name n leans on: the one just before, or none
unfoldable pub leans_on : ℕ → List ℕ → List ℕ
leans_on n before = pick (anew n) [] before
