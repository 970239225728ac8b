use native.Mathlib.Omega.{arith}
use Prim.Native.Nat.{◌-◌, ◌+◌}
use Rattle.block.specs.Block.{end_of, cursor_of, at_end, all_at_end}
use Rattle.base.proofs.Choice.{both_none, and_both}
use Rattle.base.proofs.Every.{every_turn, every_done}
use Rattle.block.proofs.at_end.Goals as goal

pub loop-i-init : goal.loop-i-init
loop-i-init c = both_none _

pub loop-i-preserved : goal.loop-i-preserved
unfolding at_end end_of cursor_of
loop-i-preserved c =
    let l = c.loop-i in
    let a = c.args in
    every_turn (at_end a.dir.now a.cursors.now) l.i (1290 - l.i) l.ok _ l.invariant (1290 - (l.i + 1)) (omega arith) (rw and_both)

pub returns : goal.returns
unfolding all_at_end
returns c = every_done _ _ _ _ _ c.loop-i.invariant (omega arith)
