use Rattle.opencalls.specs.Calls.{opened_number, opened_state}
use Rattle.opencalls.proofs.Laws.{opened_call}
use Rattle.opencalls.proofs.open.Goals as goal

pub returns-in-Ok : goal.returns-in-Ok
unfolding opened_number opened_state
returns-in-Ok c =
    let g = c.in-Ok.is in
    opened_call _ _ _ _ _ c.open.result _ c.open.ensures (rw (c.pack.ensures, g)) (rw (c.state_out.ensures, g))

pub returns-in-Err : goal.returns-in-Err
unfolding opened_number opened_state
returns-in-Err c =
    let g = c.in-Err.is in
    opened_call _ _ _ _ _ c.open.result _ c.open.ensures (rw (c.refused.ensures, g)) (rw g)
