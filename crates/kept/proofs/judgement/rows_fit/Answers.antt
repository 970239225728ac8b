use native.Mathlib.Omega.{arith}
use Rattle.base.proofs.Choice.{and_both}
use Rattle.kept.proofs.Steps.{rows_start, rows_turn, rows_done}
use Rattle.kept.proofs.judgement.rows_fit.Goals as goal

pub loop-i-init : goal.loop-i-init
loop-i-init c = rows_start _ _ _ _ _ (omega arith)

pub loop-i-preserved : goal.loop-i-preserved
loop-i-preserved c =
    rows_turn _ _ _ _ _ _ c.loop-i.invariant _ (omega arith) (rw (c.row_fits-ok.ensures, c.row_at.ensures) (and_both _ _))

pub returns : goal.returns
returns c = rows_done _ _ _ _ _ _ c.loop-i.invariant (omega arith)
