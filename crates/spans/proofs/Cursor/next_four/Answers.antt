use native.Mathlib.Omega.{arith}
use Rattle.spans.specs.Spans.{four}
use Rattle.spans.proofs.Laws.{four_short, four_value}
use Rattle.spans.proofs.Cursor.next_four.Goals as goal

pub returns-then-stop-at : goal.returns-then-stop-at
returns-then-stop-at c = four_short _ _ _ (omega arith)

pub returns-then-stop-at-lt4 : goal.returns-then-stop-at-lt4
returns-then-stop-at-lt4 c = four_short _ _ _ (omega arith)

pub returns : goal.returns
unfolding four
returns c = four_value _ _ _ (omega arith) (omega (arith, c.join.ensures))
