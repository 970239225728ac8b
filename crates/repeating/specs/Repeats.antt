-- What a kept row tells where it is known how it came to be: its text is what its token prints, so that a MATCH may copy it.
use Rattle.std.specs.Prelude.{ℕ, ◌+◌, ◌≤◌, ◌<◌, ◌≡◌, Bool, true, List}
use Rattle.base.specs.Memory.{part}
use Rattle.classes.specs.Classes.{all_allowed}
use Rattle.tokens.specs.Tokens.{bytes_of, kind_of, number_of, width_of, length_of}
use Rattle.tables.specs.declared.Row.{Row}
use Rattle.tables.specs.Tables.{row_at}
use Rattle.sources.specs.Source.{Earlier}
use Rattle.repeats.specs.Repeats.{token_of}

-- a row's numbers are its token's, its text is what that token prints, and SAM allows it
pub record Spelt (text : List ℕ) (r : Row) : Type 0 where
  pub kind : r.kind ≡ kind_of (token_of text r)
  pub number : r.number ≡ number_of (token_of text r)
  pub width : r.width ≡ width_of (token_of text r)
  pub length : r.length ≡ length_of (token_of text r)
  pub prints : (bytes : List ℕ) → bytes_of bytes text (token_of text r) ≡ part text r.start (r.start + r.length)
  pub allowed : all_allowed (part text r.start (r.start + r.length)) ≡ true

-- the rows of a name: each is spelt, and their texts lie one behind the other
pub record RowsSpelt (e : Earlier) : Type 0 where
  pub each : (j : ℕ) → e.first ≤ j → j < e.first + e.count → Spelt e.text (row_at e.rows j)
  pub laid : (j : ℕ) → e.first ≤ j → j + 1 < e.first + e.count → (row_at e.rows (j + 1)).start ≡ (row_at e.rows j).start + (row_at e.rows j).length

-- where that is known
abbrev pub Repeats : Bool → Earlier → Type 0
Repeats known e = known ≡ true → RowsSpelt e
