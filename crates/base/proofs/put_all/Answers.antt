use native.Mathlib.Omega.{arith}
use Prim.Native.Nat.{ℕ, ◌+◌}
use mathlib.Core.Path.{ap, ◌∙◌}
use mathlib.Core.List.{List}
use lib.ListN.{set, get_or}
use lib.Seq.{paste-zero}
use Rattle.base.proofs.Memory.{text_step, pasted}
use Rattle.base.proofs.put_all.Goals as goal

pub loop-j-init : goal.loop-j-init
loop-j-init c = paste-zero c.args.buf.now c.args.at c.args.text.now

pub loop-j-preserved : goal.loop-j-preserved
loop-j-preserved c =
    let l = c.loop-j in
    let a = c.args in
    ap (λ (b : List ℕ). set b (a.at + l.j) (get_or a.text.now l.j 0)) l.invariant
    ∙ text_step a.text.now a.buf.now a.at l.j (omega arith) (omega arith)

pub returns : goal.returns
returns c =
    let l = c.loop-j in
    let a = c.args in
    l.invariant ∙ pasted a.buf.now a.at a.text.now l.j (omega arith)
