use mathlib.Core.Path.{refl}
use Rattle.tables.specs.Tables.{entry_at}
use Rattle.tables.proofs.entry_at.Goals as goal

pub returns : goal.returns
unfolding entry_at
returns c = refl
