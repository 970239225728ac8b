-- The earlier name, and the rows that DIFF goes by.
use Rattle.std.specs.Prelude.{ℕ, ◌-◌, Bool, List, eqb, Result, Ok, Err}
use Rattle.refusals.specs.declared.Reason.{Reason}
use Rattle.earlier.specs.declared.Rows.{Rows}
use Rattle.refusals.specs.declared.Reason.TheVariants as reason
use Rattle.base.specs.Choice.{pick, either}
use Rattle.tables.specs.declared.Entry.{Entry}
use Rattle.tables.specs.Tables.{Kept, entry_at}
use Rattle.kept.specs.Judgement.{earlier_fits}
use Rattle.sources.specs.Source.{Earlier, earlier}

-- the rows that a DIFF goes by, or that the earlier name points outside
abbrev pub Back : Type 0
Back = Result Rows Reason

-- so many rows from one on
abbrev pub rows_from : ℕ → ℕ → Rows
rows_from first count = record { first = first; count = count }

-- the earlier name's rows
unfoldable pub rows_of : Kept → Entry → Earlier
rows_of m e = earlier m.text m.rows e.first e.rows

-- no earlier name
unfoldable pub none : Kept → Earlier
none m = earlier m.text m.rows 0 0

-- of so many names the one so far back
abbrev pub name_back : List ℕ → ℕ → ℕ → Entry
name_back names k distance = entry_at names (k - distance)

-- which is the earlier name
unfoldable pub entry_back : Kept → ℕ → Entry
entry_back m distance = name_back m.names m.state.names distance

-- the rows that its entry says: none without an earlier name
unfoldable pub said_back : List ℕ → ℕ → ℕ → Rows
said_back names k d = pick (eqb d 0) (rows_from 0 0) (rows_from (name_back names k d).first (name_back names k d).rows)

-- there is no earlier name, or it fits
unfoldable pub none_or_fits : Kept → ℕ → Bool
none_or_fits m d = either (eqb d 0) (earlier_fits m (m.state.names - d))

-- the rows that DIFF goes by
unfoldable pub back_of : Kept → ℕ → Back
back_of m d = pick (none_or_fits m d) (Ok (said_back m.names m.state.names d)) (Err reason.Outside)
