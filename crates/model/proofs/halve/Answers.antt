use native.Mathlib.Omega.{arith}
use Prim.Native.Nat.{◌<◌}
use mathlib.Core.Path.{◌∙◌}
use lib.ListN.{length}
use Rattle.base.proofs.Fills.{fill_done}
use Rattle.model.specs.Model.{halves}
use Rattle.model.proofs.Laws.{halves_length, halves_least, halves_done, halve_turn, halve_sum}
use Rattle.model.proofs.halve.Goals as goal

pub overflow_add-total : goal.overflow_add-total
overflow_add-total c =
    let l = c.loop-frequency in
    let f = c.args.frequencies.now in
    let h : l.frequency-index < length f = omega arith in
    record { fits = omega (arith, halve_sum f l.frequencies l.frequency-index l.total l.invariant.halved h l.invariant.summed, halves_least f) }

pub loop-frequency-preserved : goal.loop-frequency-preserved
loop-frequency-preserved c =
    let l = c.loop-frequency in
    let f = c.args.frequencies.now in
    let h : l.frequency-index < length f = omega arith in
    record {
      halved = halve_turn f l.frequencies l.frequency-index l.total l.invariant.halved h;
      summed = halve_sum f l.frequencies l.frequency-index l.total l.invariant.halved h l.invariant.summed;
    }

pub returns : goal.returns
returns c =
    let l = c.loop-frequency in
    let f = c.args.frequencies.now in
    (l.invariant.halved ∙ fill_done f (halves f) (halves_length f) l.frequency-index (omega arith), omega (arith, halves_done f l.frequency-index l.total (omega arith)))
