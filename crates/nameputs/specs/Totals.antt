-- How much the names of an input put.
use Rattle.std.specs.Prelude.{ℕ, ◌*◌, ◌≤◌, List, length}
use Rattle.numbering.specs.Types.{Rules}
use Rattle.laying.specs.Puts.{total_of}
use Rattle.inputs.specs.Inputs.{names_of}
use Rattle.nameputs.specs.NamePuts.{puts_of}

-- six bytes for a byte of input suffice
abbrev pub TotalMost : Type 0
TotalMost = (rules : Rules) (input : List ℕ) → total_of (puts_of rules (names_of input)) ≤ 6 * length input
