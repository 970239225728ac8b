use native.Mathlib.Omega.{arith}
use Prim.Native.Nat.{◌-◌, ◌+◌}
use Rattle.block.specs.Block.{start_of, end_of, span_sound}
use Rattle.base.proofs.Choice.{both_none, and_both, both_both}
use Rattle.base.proofs.Every.{every_turn, every_done}
use Rattle.block.proofs.spans_sound.Goals as goal

pub loop-i-init : goal.loop-i-init
loop-i-init c = both_none _

pub loop-i-preserved : goal.loop-i-preserved
unfolding span_sound start_of end_of
loop-i-preserved c =
    let l = c.loop-i in
    let a = c.args in
    every_turn (span_sound a.n a.dir.now) l.i (1290 - l.i) l.ok _ l.invariant (1290 - (l.i + 1)) (omega arith) (simp (and_both, both_both))

pub returns : goal.returns
returns c = every_done _ _ _ _ _ c.loop-i.invariant (omega arith)
