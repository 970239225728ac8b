-- What the exported writing leaves: its number, the directory, the bytes and the totals.
use Rattle.std.specs.Prelude.{ℕ, List, [], ◌∷◌, Ok, Err}
use Rattle.numbering.specs.Types.{Rules}
use Rattle.writing.specs.Writes.{WriteAnswer, Writing, write_of}
use Rattle.codes.specs.Codes.{packed, refusal_number}

unfoldable pub written_number : WriteAnswer → ℕ
written_number (Ok w) = packed 0 w.bytes
written_number (Err r) = refusal_number r

pub record Writes : Type 0 where
  pub number : ℕ
  pub directory : List ℕ
  pub bytes : List ℕ
  pub totals : List ℕ

abbrev pub writes : ℕ → List ℕ → List ℕ → List ℕ → Writes
writes n d b t = record { number = n; directory = d; bytes = b; totals = t }

-- names and bytes; a refused writing leaves the totals
unfoldable pub written_totals : List ℕ → WriteAnswer → List ℕ
written_totals totals (Ok w) = w.names ∷ w.bytes ∷ []
written_totals totals (Err r) = totals

unfoldable pub writes_of : List ℕ → Writing → Writes
writes_of totals w = writes (written_number w.answer) w.directory w.bytes (written_totals totals w.answer)

unfoldable pub write_call : Rules → List ℕ → List ℕ → List ℕ → List ℕ → Writes
write_call rules input dir bytes totals = writes_of totals (write_of rules input dir bytes)
