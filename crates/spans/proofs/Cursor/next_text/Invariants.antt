use mathlib.Core.Path.{◌≡◌}
use Rattle.spans.specs.Spans.{text_end}
use Rattle.spans.proofs.Cursor.next_text.Given as goal

abbrev pub invariant-loop-i : goal.invariant-loop-i
invariant-loop-i l = text_end l.bytes l.i l.stop ≡ text_end l.bytes l.at l.stop
