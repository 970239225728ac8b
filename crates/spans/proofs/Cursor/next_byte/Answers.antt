use native.Mathlib.Omega.{arith}
use mathlib.Core.Path.{refl}
use Rattle.spans.proofs.Laws.{byte_short, byte_value}
use Rattle.spans.proofs.Cursor.next_byte.Goals as goal

pub returns-then-stop-at : goal.returns-then-stop-at
returns-then-stop-at c = byte_short _ _ _ (omega arith)

pub returns : goal.returns
returns c = byte_value _ _ _ (omega arith) refl
