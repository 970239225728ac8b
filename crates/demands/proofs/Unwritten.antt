-- Demand 1 for writing: a refused write leaves the directory and the bytes as they were.
use Prim.Native.Nat.{ℕ}
use Rattle.inputs.specs.Inputs.{Judged}
use Rattle.std.specs.Prelude.{Some, None}
use mathlib.Core.Path.{refl}
use mathlib.Core.List.{List}
use lib.Dec.{leb, eqb}
use lib.ListN.{length}
use Rattle.base.proofs.Choice.{pick_holds}
use Rattle.inputs.specs.Inputs.{names_of, judged_from}
use Rattle.nameputs.specs.NamePuts.{puts_of}
use Rattle.laying.specs.Puts.{total_of}
use Rattle.writing.specs.Writes.{countable, laid_of, judged_of, write_of}
use Rattle.demands.specs.Untouched.{Unwritten, WriteRefused}
use Rattle.numbering.specs.Types.{Rules}

laid : (rules : Rules) (names : List (List ℕ)) (dir bytes : List ℕ) → Unwritten dir bytes (laid_of rules names dir bytes)
unfolding laid_of
laid rules names dir bytes =
    pick_holds (Unwritten dir bytes) (leb (total_of (puts_of rules names)) (length bytes)) _ _
    (λ a r e. cc)
    (λ a r e. (refl, refl))

judged : (rules : Rules) (j : Judged) (names : List (List ℕ)) (dir bytes : List ℕ) → Unwritten dir bytes (judged_of rules j names dir bytes)
unfolding judged_of
judged rules None names dir bytes = laid rules names dir bytes
judged rules (Some n) names dir bytes = λ r e. (refl, refl)

pub write_refused : WriteRefused
unfolding write_of
write_refused rules input dir bytes =
    pick_holds (Unwritten dir bytes) (eqb (length dir) 2580) _ _
    (λ a. pick_holds (Unwritten dir bytes) (countable input) _ _
    (λ b. judged rules (judged_from 0 (names_of input)) (names_of input) dir bytes)
    (λ b r e. (refl, refl)))
    (λ a r e. (refl, refl))
