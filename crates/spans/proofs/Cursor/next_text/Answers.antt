use native.Mathlib.Omega.{arith}
use mathlib.Core.Path.{sym, ◌∙◌}
use Rattle.spans.proofs.Laws.{text_found, text_none, end_here, end_next, end_out}
use Rattle.spans.proofs.Cursor.next_text.Goals as goal

pub returns-then-bytes-i-eq0 : goal.returns-then-bytes-i-eq0
returns-then-bytes-i-eq0 c =
    let l = c.loop-i in
    text_found _ _ _ (sym l.invariant ∙ end_here _ _ _ (omega arith) c.if-bytes-i-eq0.true) (omega arith)

pub loop-i-preserved : goal.loop-i-preserved
loop-i-preserved c = end_next _ _ _ (omega arith) c.if-bytes-i-eq0.false ∙ c.loop-i.invariant

pub returns : goal.returns
returns c = text_none _ _ _ (sym c.loop-i.invariant ∙ end_out _ _ _ (omega arith)) (omega arith)
