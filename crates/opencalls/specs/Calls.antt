-- What the exported opening leaves: its number, the cursors and the state.
use Rattle.std.specs.Prelude.{ℕ, List, length, Ok, Err}
use Rattle.block.specs.Block.{Opened, Opening, open_of}
use Rattle.codes.specs.Codes.{packed, refusal_number, state_out}

unfoldable pub opened_number : Opened → ℕ
opened_number (Ok s) = packed 0 0
opened_number (Err r) = refusal_number r

pub record Opens : Type 0 where
  pub number : ℕ
  pub cursors : List ℕ
  pub state : List ℕ

abbrev pub opens : ℕ → List ℕ → List ℕ → Opens
opens n c s = record { number = n; cursors = c; state = s }

-- a refused opening leaves the state
unfoldable pub opened_state : List ℕ → Opened → List ℕ
opened_state state (Ok s) = state_out s
opened_state state (Err r) = state

unfoldable pub opens_of : List ℕ → Opening → Opens
opens_of state o = opens (opened_number o.answer) o.cursors (opened_state state o.answer)

unfoldable pub open_call : List ℕ → List ℕ → ℕ → List ℕ → List ℕ → Opens
open_call bytes dir count cursors state = opens_of state (open_of (length bytes) dir count cursors)
