use Prim.Native.Nat.{◌+◌, ◌-◌, ◌<◌}
use mathlib.Core.Path.{◌≡◌}
use native.Mathlib.Omega.{arith}
use lib.ListN.{length, get_or}
use Rattle.base.specs.Memory.{part}
use Rattle.base.proofs.Memory.{length_part, get_d_part}
use Rattle.inputs.proofs.Laws.{count_here, count_next}
use Rattle.inputs.proofs.ends_in.Goals as goal
use Rattle.inputs.proofs.ends_in.Goals.{then-b-eq10, else-b-eq10}

pub loop-b-init : goal.loop-b-init
loop-b-init c =
    let e : c.args.from + 0 ≡ c.args.from = omega arith in
    (omega arith, rw e (omega arith))

pub loop-b-preserved : goal.loop-b-preserved
unfolding part
loop-b-preserved c =
    let a = c.args in
    let s = a.input.now in
    let j = c.loop-b.b-index in
    let m : length (part s a.from a.to) ≡ a.to - a.from = length_part s a.from a.to c.requires.0 c.requires.1.0 in
    let k : j < a.to - a.from = omega arith in
    let h : a.from + j < length s = omega arith in
    let b : get_or (part s a.from a.to) j 0 ≡ get_or s (a.from + j) 0 = get_d_part s a.from a.to j k in
    let e : a.from + (j + 1) ≡ a.from + j + 1 = omega arith in
    rw e
    (elim c.if-b-eq10.branch [
      | then-b-eq10 w ↦ (omega arith, omega (arith, count_here s (a.from + j) h (rw b at w.if-b-eq10.true)))
      | else-b-eq10 w ↦ (omega arith, omega (arith, count_next s (a.from + j) h (rw b at w.if-b-eq10.false)))
    ])

pub returns : goal.returns
unfolding part
returns c =
    let a = c.args in
    let m : length (part a.input.now a.from a.to) ≡ a.to - a.from = length_part a.input.now a.from a.to c.requires.0 c.requires.1.0 in
    let e : a.from + c.loop-b.b-index ≡ a.to = omega arith in
    (omega arith, rw e at c.loop-b.invariant.1)
