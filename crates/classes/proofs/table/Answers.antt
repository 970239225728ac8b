use mathlib.Core.Path.{refl}
use Rattle.classes.specs.Classes.{class_table}
use Rattle.classes.proofs.table.Goals as goal

pub returns : goal.returns
unfolding class_table
returns c = refl
