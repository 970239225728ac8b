-- Demand 2 at the C boundary: what aq_write wrote gives the same names back, read by aq_read_block, or by aq_open and aq_read one name a call.
use Rattle.std.specs.Prelude.{ℕ, ◌+◌, ◌*◌, ◌≤◌, ◌<◌, ◌≡◌, List, [], ◌∷◌, length, get_or, replicate, None, Ok}
use Rattle.tables.specs.Tables.{entry_size, keeping, Table, row_room}
use Rattle.outcomes.specs.Outcomes.{outcome}
use Rattle.laying.specs.Puts.{total_of}
use Rattle.inputs.specs.Inputs.{names_of}
use Rattle.nameputs.specs.NamePuts.{puts_of}
use Rattle.codes.specs.Codes.{packed, state_in}
use Rattle.opencalls.specs.Calls.{open_call}
use Rattle.readcalls.specs.Calls.{Reads, block_call}
use Rattle.writecalls.specs.Calls.{Writes, write_call}
use Rattle.demands.specs.Runs.{reading}
use Rattle.demands.specs.Refusals.{Countable, AllGood}
use Rattle.demands.specs.Boundary.{begun, lent_from, calls_on}
use Rattle.roundtrip.specs.Back.{Roomy, NameIs, InputBack}
use Rattle.roundtrip.specs.Demand.{Begins}
use Rattle.numbering.specs.Types.{Rules}

-- aq_write answered code 0, and its totals are so many names and so many bytes
pub record Wrote (w : Writes) (n total : ℕ) : Type 0 where
  pub value : ℕ
  pub number : w.number ≡ packed 0 value
  pub totals : w.totals ≡ n ∷ total ∷ []

-- what is in order it writes: a directory of the right length, 65,536 names at most, each ended and good, and room for what they put
abbrev pub WritesInOrder : Type 0
WritesInOrder = (rules : Rules) (input dir bytes totals : List ℕ) → length dir ≡ 2580 → Countable input → AllGood (names_of input) → total_of (puts_of rules (names_of input)) ≤ length bytes
    → Wrote (write_call rules input dir bytes totals) (length (names_of input)) (total_of (puts_of rules (names_of input)))

-- with code 0 the totals are how many names the input has, and how many bytes were written, which the number has too
abbrev pub TellsTotals : Type 0
TellsTotals = (rules : Rules) (input dir bytes totals : List ℕ) (value : ℕ) → (write_call rules input dir bytes totals).number ≡ packed 0 value
    → (write_call rules input dir bytes totals).totals ≡ length (names_of input) ∷ value ∷ []

-- a whole block that gave the n names of an input back: it answers "done" with n, and what it leaves holds each name, its text and its rows, and no others;
-- the used text is the input
pub record BlockBack (input : List ℕ) (n : ℕ) (r : Reads) : Type 0 where
  pub number : r.number ≡ packed 256 n
  pub count : (lent_from r).kept.state.names ≡ n
  pub all : n ≡ length (names_of input)
  pub names : InputBack input (outcome (Ok None) r.cursors (lent_from r).kept)

-- whatever aq_write wrote: aq_read_block, handed the directory and the number of names that it left and any bytes that begin with the total that it wrote,
-- a cursor table of the right length, room for the names and any state, gives the names back
abbrev pub BlockReadsBack : Type 0
BlockReadsBack =
    (rules : Rules) (input dir bytes totals : List ℕ) (n total : ℕ) → Wrote (write_call rules input dir bytes totals) n total
    → (b : List ℕ) → Begins total (write_call rules input dir bytes totals).bytes b
    → (cur text names : List ℕ) (rows : Table) (st : List ℕ) → length cur ≡ 1290 → Roomy (names_of input) (keeping (state_in st) text names rows)
    → BlockBack input n (block_call rules b (write_call rules input dir bytes totals).directory n cur text names rows st)

-- 255 bytes of text, an entry and 127 rows for each name are always room enough
abbrev pub BlockReadsBackAmply : Type 0
BlockReadsBackAmply =
    (rules : Rules) (input dir bytes totals : List ℕ) (n total : ℕ) → Wrote (write_call rules input dir bytes totals) n total
    → (b : List ℕ) → Begins total (write_call rules input dir bytes totals).bytes b
    → (cur text names : List ℕ) (rows : Table) (st : List ℕ) → length cur ≡ 1290 → 255 * n ≤ length text → entry_size * n ≤ length names → 127 * n ≤ row_room rows
    → BlockBack input n (block_call rules b (write_call rules input dir bytes totals).directory n cur text names rows st)

-- the n names of an input, read one a call over what opening left: opening answers code 0, read i, from 0 on, answers code 0 with i and keeps name i,
-- and one more is "done" with n
pub record CallsBack (rules : Rules) (input : List ℕ) (n : ℕ) (bytes dir : List ℕ) (r : Reads) : Type 0 where
  pub opened : r.number ≡ packed 0 0
  pub all : n ≡ length (names_of input)
  pub numbers : (i : ℕ) → i < n → (calls_on rules bytes dir r (replicate (i + 1) reading)).number ≡ packed 0 i
  pub names : (i : ℕ) → i < n → NameIs (lent_from (calls_on rules bytes dir r (replicate (i + 1) reading))).kept i (get_or (names_of input) i [])
  pub done : (calls_on rules bytes dir r (replicate (n + 1) reading)).number ≡ packed 256 n

abbrev pub CallsReadBack : Type 0
CallsReadBack =
    (rules : Rules) (input dir bytes totals : List ℕ) (n total : ℕ) → Wrote (write_call rules input dir bytes totals) n total
    → (b : List ℕ) → Begins total (write_call rules input dir bytes totals).bytes b
    → (cur text names : List ℕ) (rows : Table) (st : List ℕ) → length cur ≡ 1290 → Roomy (names_of input) (keeping (state_in st) text names rows)
    → CallsBack rules input n b (write_call rules input dir bytes totals).directory (begun (open_call b (write_call rules input dir bytes totals).directory n cur st) text names rows)
