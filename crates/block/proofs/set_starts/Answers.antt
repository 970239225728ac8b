use native.Mathlib.Omega.{arith}
use Prim.Native.Nat.{ℕ}
use mathlib.Core.Path.{ap, ◌∙◌}
use mathlib.Core.List.{List}
use lib.ListN.{set}
use Rattle.block.specs.Block.{start_of, starts}
use Rattle.block.proofs.Laws.{starts_turn, starts_done}
use Rattle.block.proofs.set_starts.Goals as goal

pub loop-i-preserved : goal.loop-i-preserved
unfolding start_of
loop-i-preserved c =
    let l = c.loop-i in
    let a = c.args in
    ap (λ (s : List ℕ). set s l.i (start_of a.dir.now l.i)) l.invariant
    ∙ starts_turn a.dir.now a.cursors.now l.i c.requires.1 (omega arith)

pub returns : goal.returns
returns c =
    let a = c.args in
    c.loop-i.invariant ∙ starts_done a.dir.now a.cursors.now c.loop-i.i c.requires.1 (omega arith)
