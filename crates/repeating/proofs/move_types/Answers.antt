use native.Mathlib.Omega.{arith}
use Prim.Native.Nat.{◌+◌, ◌-◌}
use mathlib.Core.Path.{◌∙◌}
use Rattle.repeating.proofs.Repeating.{types_over, types_more, type_later, length_typed}
use Rattle.repeating.proofs.move_types.Goals as goal

pub loop-i-preserved : goal.loop-i-preserved
loop-i-preserved c =
    let a = c.args in let l = c.loop-i in
    let e = c.move_on.ensures in record {
      numbers = length_typed l.cursors l.i e ∙ l.invariant.numbers;
      later = λ j k. type_later l.cursors l.i j e k ∙ l.invariant.later j (omega arith);
      moves = types_more l.cursors l.i (a.q.0 - l.i) (a.q.0 - (l.i + 1)) (omega arith) e ∙ l.invariant.moves;
    }

pub returns : goal.returns
returns c =
    let a = c.args in let l = c.loop-i in
    types_over l.cursors l.i (a.q.0 - l.i) (omega arith) ∙ l.invariant.moves
