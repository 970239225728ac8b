use Rattle.kept.specs.Judgement.{counts}
use Rattle.tables.specs.Tables.{room, row_room}
use Rattle.base.proofs.Choice.{and_both}
use Rattle.kept.proofs.judgement.counts.Goals as goal

pub returns : goal.returns
unfolding counts room row_room
returns c = rw (c.text_counts.ensures, c.row_counts.ensures) (and_both _ _)
