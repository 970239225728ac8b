use Rattle.writecalls.specs.Calls.{written_number, written_totals}
use Rattle.writecalls.proofs.Laws.{write_call_law}
use Rattle.writecalls.proofs.write.Goals as goal

pub returns-in-Ok : goal.returns-in-Ok
unfolding written_number written_totals
returns-in-Ok c =
    let g = c.in-Ok.is in
    write_call_law _ _ _ _ _ c.write.result _ _ c.write.ensures (rw (c.pack.ensures, g)) (rw g)

pub returns-in-Err : goal.returns-in-Err
unfolding written_number written_totals
returns-in-Err c =
    let g = c.in-Err.is in
    write_call_law _ _ _ _ _ c.write.result _ _ c.write.ensures (rw (c.refused.ensures, g)) (rw g)
