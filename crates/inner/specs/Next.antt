-- One read where block and counts are judged: what comes after what.
use Rattle.std.specs.Prelude.{eqb, None, Ok, Err}
use Rattle.distances.specs.Distances.{Head}
use Rattle.refusals.specs.declared.Reason.TheVariants as reason
use Rattle.distances.specs.declared.Reference.TheVariants as reference
use Rattle.base.specs.Choice.{pick}
use Rattle.block.specs.Block.{all_at_end}
use Rattle.tables.specs.Tables.{Kept}
use Rattle.sources.specs.Source.{Source}
use Rattle.outcomes.specs.Outcomes.{Outcome, outcome, plain, at_name}
use Rattle.heads.specs.Heads.{head_of}
use Rattle.dupdiff.specs.Judged.{dup_judged, diff_judged}

unfoldable pub headed_of : Source → Kept → Head → Outcome
headed_of s m (Err r) = at_name s m r
headed_of s m (Ok (reference.Dup d)) = dup_judged s m d.0
headed_of s m (Ok (reference.Diff d)) = diff_judged s m d.0

-- with k equal to the count, 10 or "done"; then the name
unfoldable pub next_of : Source → Kept → Outcome
next_of s m =
    pick (eqb m.state.names m.state.count)
    (pick (all_at_end s.dir s.cur) (outcome (Ok None) s.cur m) (plain s m reason.Unread))
    (headed_of s m (head_of s m.state.names))
