-- What may be filled in: an input of good names, and a directory for it; and what filling leaves.
use Rattle.std.specs.Prelude.{ℕ, ◌*◌, ◌≤◌, ◌≡◌, true, List, leb, length, None}
use Rattle.base.specs.Lent.{Buffer}
use Rattle.numbering.specs.Types.{Rules}
use Rattle.inputs.specs.Inputs.{names_of, ended, judged_from}
use Rattle.laying.specs.Puts.{Put, total_of, directory_of, bytes_of}
use Rattle.nameputs.specs.NamePuts.{puts_of}

-- an input of good names, and a directory for it
pub record Ready (input dir : List ℕ) : Type 0 where
  pub ends : ended input ≡ true
  pub few : length (names_of input) ≤ 65536
  pub fine : judged_from 0 (names_of input) ≡ None
  pub table : length dir ≡ 2580

-- with room of six bytes for each byte of such an input there is room for what its names put
abbrev pub Ample : Type 0
Ample = (rules : Rules) (input dir bytes : List ℕ) → Ready input dir → 6 * length input ≤ length bytes → true ≡ leb (total_of (puts_of rules (names_of input))) (length bytes)

-- all that the names of a lent input put
abbrev pub puts_lent : Rules → Buffer → List Put
puts_lent rules input = puts_of rules (names_of input)

-- the total, and the directory and the bytes that hold it
abbrev pub Filled : Rules → ℕ → Buffer → Buffer → Buffer → Buffer → Type 0
Filled rules total directory left bytes input =
    (total ≡ total_of (puts_lent rules input)) × ((directory ≡ directory_of (puts_lent rules input)) × (left ≡ bytes_of (puts_lent rules input) bytes))
