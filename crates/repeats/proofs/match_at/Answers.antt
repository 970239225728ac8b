use native.Mathlib.Omega.{arith}
use Rattle.repeats.proofs.Ways.{match_none, match_is}
use Rattle.repeats.proofs.match_at.Goals as goal

pub returns-then-count-at : goal.returns-then-count-at
returns-then-count-at c = match_none _ _ _ c.if-count-at.true

pub match_of-requires : goal.match_of-requires
match_of-requires c =
    rw c.row_here-r.ensures (c.requires.rows.each _ (omega arith) (omega arith))

pub returns : goal.returns
returns c = match_is _ _ _ c.if-count-at.false c.row_here-r.ensures c.match_of.ensures
