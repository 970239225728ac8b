-- What kept rows print.
use Rattle.std.specs.Prelude.{ℕ, zero, suc, ◌+◌, List, [], ◌++◌, eqb}
use Rattle.base.specs.Choice.{pick}
use Rattle.base.specs.Memory.{part}
use Rattle.digits.specs.Digits.{printed, padded}
use Rattle.tables.specs.declared.Row.{Row}
use Rattle.tables.specs.Tables.{Table, row_at}

-- the row's text in the kept text
unfoldable pub row_text : List ℕ → Row → List ℕ
row_text text r = part text r.start (r.start + r.length)

-- DIGITS prints its number, DIGITS0 its number padded to its width, STRING and CHAR their text
unfoldable pub row_prints : List ℕ → Row → List ℕ
row_prints text r =
    pick (eqb r.kind 7) (printed r.number)
    (pick (eqb r.kind 4) (padded r.number r.width)
    (row_text text r))

-- so many rows from one on, printed end to end
unfoldable pub rows_print : List ℕ → Table → ℕ → ℕ → List ℕ
rows_print text rows i zero = []
rows_print text rows i (suc n) = row_prints text (row_at rows i) ++ rows_print text rows (i + 1) n
