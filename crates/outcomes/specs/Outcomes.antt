-- What a read leaves: its answer, and the state, the tables and the buffers after it.
use Rattle.std.specs.Prelude.{ℕ, Bool, List, None, Ok, Err}
use Rattle.refusals.specs.declared.Reason.{Reason}
use Rattle.entries.specs.Entries.{Answer, reading}
use Rattle.refusals.specs.declared.Reason.TheVariants as reason
use Rattle.base.specs.Choice.{pick}
use Rattle.block.specs.declared.State.{State}
use Rattle.refusals.specs.declared.Refusal.TheVariants as refusal
use Rattle.tables.specs.Tables.{Kept, keeping, rows_left}
use Rattle.sources.specs.Source.{Source}
use Rattle.entries.specs.declared.Reading.{Reading}
use Rattle.base.specs.Lent.{Buffer}

-- what a read leaves: its answer, the cursors, and what is kept
pub record Outcome : Type 0 where
  pub answer : Answer
  pub cur : List ℕ
  pub kept : Kept

abbrev pub outcome : Answer → List ℕ → Kept → Outcome
outcome a c k = record { answer = a; cur = c; kept = k }

-- a refusal that carries the name being read, with the state after it
unfoldable pub refusing : State → Reason → Reading
refusing s r = reading (Err (refusal.At r s.names)) s

-- with all names read: "done", or 10 while a cursor is short of its end
unfoldable pub finishing : State → Bool → Reading
finishing s ended = reading (pick ended (Ok None) (Err (refusal.Plain reason.Unread))) s

unfoldable pub refusing_plain : State → Reason → Reading
refusing_plain s r = reading (Err (refusal.Plain r)) s

-- a refusal leaves state and buffers untouched; some carry no name, the others the number of the name being read
unfoldable pub plain : Source → Kept → Reason → Outcome
plain s m r = outcome (Err (refusal.Plain r)) s.cur m

unfoldable pub at_name : Source → Kept → Reason → Outcome
at_name s m r = outcome (Err (refusal.At r m.state.names)) s.cur m

-- what a read leaves
abbrev pub leaves : Reading → Buffer → Buffer → Buffer → Buffer → Outcome
leaves r cursors text names rows = outcome r.answer cursors (keeping r.state text names (rows_left rows))
