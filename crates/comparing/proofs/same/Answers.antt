use Prim.Native.Nat.{◌-◌}
use mathlib.Core.Path.{sym}
use native.Mathlib.Omega.{arith}
use lib.ListN.{length}
use borrow.Author.Rules.{rules}
use Rattle.comparing.proofs.Equal.{other_length, other_byte, same_none, same_turn, same_done}
use Rattle.base.proofs.Choice.{both_none, and_both}
use Rattle.comparing.proofs.same.Goals as goal

pub returns-then-a-b : goal.returns-then-a-b
returns-then-a-b c = other_length _ _ (search rules)

pub returns-then-n-eq0 : goal.returns-then-n-eq0
returns-then-n-eq0 c = let a = c.args in sym (same_none a.a.now a.b.now 0 (omega arith) (omega arith))

pub returns-then-a-n : goal.returns-then-a-n
returns-then-a-n c =
    let a = c.args in other_byte a.a.now a.b.now (length a.a.now - 1) (search rules)

pub loop-i-init : goal.loop-i-init
loop-i-init c = rw both_none

pub loop-i-preserved : goal.loop-i-preserved
loop-i-preserved c =
    let l = c.loop-i in
    let a = c.args in
    same_turn a.a.now a.b.now l.i l.equal l.invariant (omega arith) (omega arith) (rw and_both)

pub returns : goal.returns
returns c =
    let l = c.loop-i in
    let a = c.args in
    same_done a.a.now a.b.now l.i l.equal l.invariant (omega arith) (omega arith)
