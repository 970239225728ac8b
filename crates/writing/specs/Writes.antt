-- "Writing: wrong directory length 1, then 12, the first bad name's 8, then 9; it fills the directory and the bytes up to its total and no more."
use Rattle.std.specs.Prelude.{ℕ, Bool, List, leb, eqb, length, Result, Some, None, Ok, Err}
use Rattle.refusals.specs.declared.Refusal.{Refusal}
use Rattle.writing.specs.declared.Written.{Written}
use Rattle.refusals.specs.declared.Reason.TheVariants as reason
use Rattle.base.specs.Choice.{pick, both}
use Rattle.refusals.specs.declared.Refusal.TheVariants.{Plain, At}
use Rattle.numbering.specs.Types.{Rules}
use Rattle.laying.specs.Puts.{total_of, directory_of, bytes_of}
use Rattle.inputs.specs.Inputs.{Judged, names_of, ended, judged_from}
use Rattle.nameputs.specs.NamePuts.{puts_of}

-- the answer of writing
abbrev pub WriteAnswer : Type 0
WriteAnswer = Result Written Refusal

-- the answer, and the directory and the bytes after it
pub record Writing : Type 0 where
  pub answer : WriteAnswer
  pub directory : List ℕ
  pub bytes : List ℕ

abbrev pub writing : WriteAnswer → List ℕ → List ℕ → Writing
writing a d b = record { answer = a; directory = d; bytes = b }

-- at most 65,536 names, the last one ended
unfoldable pub countable : List ℕ → Bool
countable input = both (ended input) (leb (length (names_of input)) 65536)

-- names that are all good, if there is room for the bytes
unfoldable pub laid_of : Rules → List (List ℕ) → List ℕ → List ℕ → Writing
laid_of rules names dir bytes =
    pick (leb (total_of (puts_of rules names)) (length bytes))
    (writing (Ok (record { names = length names; bytes = total_of (puts_of rules names) })) (directory_of (puts_of rules names)) (bytes_of (puts_of rules names) bytes))
    (writing (Err (Plain reason.NoRoom)) dir bytes)

unfoldable pub judged_of : Rules → Judged → List (List ℕ) → List ℕ → List ℕ → Writing
judged_of rules None names dir bytes = laid_of rules names dir bytes
judged_of rules (Some n) names dir bytes = writing (Err (At reason.BadName n)) dir bytes

unfoldable pub write_of : Rules → List ℕ → List ℕ → List ℕ → Writing
write_of rules input dir bytes =
    pick (eqb (length dir) 2580)
    (pick (countable input)
    (judged_of rules (judged_from 0 (names_of input)) (names_of input) dir bytes)
    (writing (Err (Plain reason.BadCount)) dir bytes))
    (writing (Err (Plain reason.Unsound)) dir bytes)
