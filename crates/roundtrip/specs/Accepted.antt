-- What an accepted writing tells, and what is accepted.
use Rattle.std.specs.Prelude.{ℕ, ◌≤◌, ◌≡◌, true, List, length, None, Ok}
use Rattle.laying.specs.Puts.{directory_of, total_of, bytes_of}
use Rattle.inputs.specs.Inputs.{names_of, ended, judged_from}
use Rattle.nameputs.specs.NamePuts.{puts_of}
use Rattle.writing.specs.Writes.{writing, countable, write_of}
use Rattle.numbering.specs.Types.{Rules}

pub record Accepted (rules : Rules) (input dir bytes : List ℕ) (n total : ℕ) : Type 0 where
  pub ends : ended input ≡ true
  pub few : length (names_of input) ≤ 65536
  pub fine : judged_from 0 (names_of input) ≡ None
  pub room : total_of (puts_of rules (names_of input)) ≤ length bytes
  pub names : n ≡ length (names_of input)
  pub sum : total ≡ total_of (puts_of rules (names_of input))
  pub is : write_of rules input dir bytes ≡ writing (Ok (record { names = n; bytes = total })) (directory_of (puts_of rules (names_of input))) (bytes_of (puts_of rules (names_of input)) bytes)

-- and what is in order is accepted: a directory of the right length, 65,536 names at most, each ended and good, and room for what they put
abbrev pub AcceptsInOrder : Type 0
AcceptsInOrder =
    (rules : Rules) (input dir bytes : List ℕ) → length dir ≡ 2580 → countable input ≡ true → judged_from 0 (names_of input) ≡ None → total_of (puts_of rules (names_of input)) ≤ length bytes
    → (write_of rules input dir bytes).answer ≡ Ok (record { names = length (names_of input); bytes = total_of (puts_of rules (names_of input)) })
