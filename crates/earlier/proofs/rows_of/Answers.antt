use mathlib.Core.Path.{ap}
use Rattle.tables.specs.declared.Entry.{Entry}
use Rattle.earlier.specs.Back.{rows_from}
use Rattle.earlier.proofs.rows_of.Goals as goal

pub returns : goal.returns
returns c = ap (λ (e : Entry). rows_from e.first e.rows) c.entry_at-e.ensures
