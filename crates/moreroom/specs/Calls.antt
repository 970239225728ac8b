-- C-18 at the C boundary: the numbers that callers see, and the buffers as they lend them.
use Rattle.std.specs.Prelude.{ℕ, ◌+◌, ◌≤◌, ◌<◌, ◌≡◌, List, length, replicate}
use Rattle.tables.specs.Tables.{entry_size, in_rows, room, row_room}
use Rattle.numbering.specs.Types.{Rules}
use Rattle.codes.specs.Codes.{packed, state_in}
use Rattle.opencalls.specs.Calls.{open_call}
use Rattle.readcalls.specs.Calls.{Reads, block_call}
use Rattle.demands.specs.Runs.{Call, reading}
use Rattle.demands.specs.Boundary.{Never, begun, lent_from, calls_on, claim_on}
use Rattle.moreroom.specs.Runs.{InBoth, SameUsed, reads_among}

-- two calls that can't be told apart: the number, the cursors, the state, and the used text, entries and rows
pub record SameCall (r q : Reads) : Type 0 where
  pub number : r.number ≡ q.number
  pub cursors : r.cursors ≡ q.cursors
  pub state : r.state ≡ q.state
  pub used : SameUsed (lent_from r).kept (lent_from q).kept

-- an aq_read with less room and the same aq_read with more
pub data FurtherCall (r q : Reads) : Type 0 where
  same : SameCall r q → FurtherCall r q
  on : (k : ℕ) → r.number ≡ packed 9 k → q.number ≡ packed 0 k → FurtherCall r q

-- what aq_read n leaves, counted from 0, over what the calls before it left
abbrev pub nth_call : Rules → List ℕ → List ℕ → Reads → ℕ → Reads
nth_call rules bytes dir r n = calls_on rules bytes dir r (replicate (n + 1) reading)

-- an aq_claim on a name that both have kept, whatever each has called, answers the same number
abbrev pub SameReplies : Rules → List ℕ → List ℕ → Reads → Reads → Type 0
SameReplies rules bytes dir r q =
    (calls others : List Call) (i : ℕ) (claim : List ℕ)
    → i < (state_in (calls_on rules bytes dir r calls).state).names → i < (state_in (calls_on rules bytes dir q others).state).names
    → claim_on (calls_on rules bytes dir r calls) i claim ≡ claim_on (calls_on rules bytes dir q others) i claim

-- C-18 of the calls from r on and those from q on
pub record MoreRoomCall (rules : Rules) (bytes dir : List ℕ) (r q : Reads) : Type 0 where
  -- an aq_read of one that doesn't answer 9 and the same aq_read of the other can't be told apart
  pub alike : (n : ℕ) → Never 9 (nth_call rules bytes dir r n).number → SameCall (nth_call rules bytes dir r n) (nth_call rules bytes dir q n)
  -- aq_read n of one and of the other, as long as the first hasn't answered 9 before; so at its first 9 too
  pub reads : (n : ℕ) → ((i : ℕ) → i < n → Never 9 (nth_call rules bytes dir r i).number) → FurtherCall (nth_call rules bytes dir r n) (nth_call rules bytes dir q n)
  -- once it has answered 9, every aq_read from there on answers and leaves the same
  pub ever : (n k : ℕ) → (nth_call rules bytes dir r n).number ≡ packed 9 k → (j : ℕ) → n ≤ j → nth_call rules bytes dir r j ≡ nth_call rules bytes dir r n
  -- claims in between are nothing to it
  pub between : (calls : List Call)
      → (calls_on rules bytes dir r calls ≡ calls_on rules bytes dir r (replicate (reads_among calls) reading))
      × (calls_on rules bytes dir q calls ≡ calls_on rules bytes dir q (replicate (reads_among calls) reading))
  pub claims : SameReplies rules bytes dir r q

-- an aq_read_block with less room and with more: the same; or 9 with less, at the first name that it doesn't keep, and with more that name is kept,
-- and those before it alike
pub data BlockFurtherCall (r q : Reads) : Type 0 where
  same : SameCall r q → BlockFurtherCall r q
  on : r.number ≡ packed 9 (state_in r.state).names → (state_in r.state).names < (state_in q.state).names → InBoth (lent_from r).kept (lent_from q).kept → BlockFurtherCall r q

pub record BlockMoreRoomCall (rules : Rules) (bytes dir : List ℕ) (r q : Reads) : Type 0 where
  pub further : BlockFurtherCall r q
  -- of each aq_claim from there on, with any aq_read among them
  pub claims : SameReplies rules bytes dir r q

-- what a caller lends to start a block afresh and read it, with anything in it; aq_open answers code 0
pub record Start (bytes dir : List ℕ) (count : ℕ) : Type 0 where
  pub cursors : List ℕ
  pub text : List ℕ
  pub names : List ℕ
  pub rows : List ℕ
  pub state : List ℕ
  pub value : ℕ
  pub opens : (open_call bytes dir count cursors state).number ≡ packed 0 value

-- each buffer of the other start is at least as long
pub record Longer {bytes dir : List ℕ} {count : ℕ} (a b : Start bytes dir count) : Type 0 where
  pub text : length a.text ≤ length b.text
  pub names : length a.names ≤ length b.names
  pub rows : length a.rows ≤ length b.rows

-- the text buffers are as long, and the tables have room for as many entries and rows: neither is longer by a whole one
pub record NoLonger {bytes dir : List ℕ} {count : ℕ} (a b : Start bytes dir count) : Type 0 where
  pub text : length a.text ≡ length b.text
  pub names : room entry_size a.names ≡ room entry_size b.names
  pub rows : row_room (in_rows a.rows) ≡ row_room (in_rows b.rows)

-- what aq_open leaves, with the buffers to read into; and what aq_read_block leaves
abbrev pub opened : (bytes dir : List ℕ) (count : ℕ) → Start bytes dir count → Reads
opened bytes dir count a = begun (open_call bytes dir count a.cursors a.state) a.text a.names (in_rows a.rows)

abbrev pub block : (rules : Rules) (bytes dir : List ℕ) (count : ℕ) → Start bytes dir count → Reads
block rules bytes dir count a = block_call rules bytes dir count a.cursors a.text a.names (in_rows a.rows) a.state

-- C-18: the same block, a fresh start each time, longer buffers the second time
abbrev pub CallsMoreRoom : Type 0
CallsMoreRoom = (rules : Rules) (bytes dir : List ℕ) (count : ℕ) (a b : Start bytes dir count) → Longer a b → MoreRoomCall rules bytes dir (opened bytes dir count a) (opened bytes dir count b)

-- with no whole entry or row more, nothing at all is changed
abbrev pub CallsSameRoom : Type 0
CallsSameRoom =
    (rules : Rules) (bytes dir : List ℕ) (count : ℕ) (a b : Start bytes dir count) → NoLonger a b
    → (n : ℕ) → SameCall (nth_call rules bytes dir (opened bytes dir count a) n) (nth_call rules bytes dir (opened bytes dir count b) n)

-- C-18 of whole blocks
abbrev pub BlockCallMoreRoom : Type 0
BlockCallMoreRoom =
    (rules : Rules) (bytes dir : List ℕ) (count : ℕ) (a b : Start bytes dir count) → Longer a b → BlockMoreRoomCall rules bytes dir (block rules bytes dir count a) (block rules bytes dir count b)

abbrev pub BlockCallSameRoom : Type 0
BlockCallSameRoom =
    (rules : Rules) (bytes dir : List ℕ) (count : ℕ) (a b : Start bytes dir count) → NoLonger a b → SameCall (block rules bytes dir count a) (block rules bytes dir count b)
