use native.Mathlib.Omega.{arith}
use mathlib.Core.Path.{◌∙◌}
use lib.Seq.{paste-zero}
use Rattle.base.specs.Memory.{part}
use Rattle.base.proofs.Memory.{within_step, pasted, length_part}
use Rattle.base.proofs.copy_within.Goals as goal

pub loop-j-init : goal.loop-j-init
loop-j-init c = let a = c.args in paste-zero a.buf.now a.at (part a.buf.now a.from a.to)

pub loop-j-preserved : goal.loop-j-preserved
loop-j-preserved c =
    let l = c.loop-j in
    let a = c.args in
    within_step a.buf.now _ a.from a.to a.at l.j (omega arith) (omega arith) (omega arith) (omega arith) l.invariant

pub returns : goal.returns
returns c =
    let l = c.loop-j in
    let a = c.args in
    l.invariant ∙ pasted a.buf.now a.at (part a.buf.now a.from a.to) l.j (omega (arith, length_part a.buf.now a.from a.to (omega arith) (omega arith)))
