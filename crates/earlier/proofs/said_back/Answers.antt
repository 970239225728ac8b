use Rattle.earlier.proofs.Leaning.{said_none, said_entry}
use native.Mathlib.Omega.{arith}
use Rattle.earlier.proofs.said_back.Goals as goal

pub returns-then-distance-eq0 : goal.returns-then-distance-eq0
returns-then-distance-eq0 c = said_none _ _ _ (omega (arith, c.if-distance-eq0.true))

pub rows_of-requires : goal.rows_of-requires
rows_of-requires c =
    let n = c.if-distance-eq0.false in
    omega (arith, c.requires.names_in_bounds, c.requires.distance_le_names)

pub returns : goal.returns
returns c =
    said_entry _ _ _ c.if-distance-eq0.false _ c.rows_of.ensures (omega arith)
