-- Demand 3: what holds of the kept tables at all times.
use Rattle.std.specs.Prelude.{ℕ, ◌+◌, ◌≤◌, ◌<◌, ◌≡◌, List, ◌⊎◌, get_or, replicate, Ok, Err}
use Rattle.refusals.specs.declared.Reason.{Reason}
use Rattle.refusals.specs.declared.Reason.TheVariants as reason
use Rattle.claims.specs.declared.Verdict.TheVariants as verdict
use Rattle.block.specs.declared.State.{State}
use Rattle.refusals.specs.declared.Refusal.{Refusal}
use Rattle.refusals.specs.declared.Refusal.TheVariants as refusal
use Rattle.block.specs.Open.{Open}
use Rattle.tables.specs.Tables.{Kept, entry_at, row_at, Table}
use Rattle.kept.specs.Inside.{Counted, TextInside, RowsInside, RowInside}
use Rattle.sources.specs.Source.{Source}
use Rattle.reading.specs.Blocks.{block_of}
use Rattle.claims.specs.Claims.{name_text}
use Rattle.demands.specs.Printing.{row_text, row_prints, rows_print}
use Rattle.demands.specs.ByWords.{ByWords}
use Rattle.demands.specs.Refusals.{ByRule}
use Rattle.demands.specs.Runs.{Lent, Keeps, Reads, read, left, Fresh, Accepts, fresh_over, Call, reading, run, claimed, name_at}
use Rattle.numbering.specs.Types.{Rules}
use Rattle.words.specs.Words.{Telling, telling}

-- a row: its kind and values are in order, its text is inside the kept text and is what the row prints
pub record RowRight (used : ℕ) (text : List ℕ) (rows : Table) (i : ℕ) : Type 0 where
  pub fits : RowInside used (row_at rows i)
  pub prints : row_prints text (row_at rows i) ≡ row_text text (row_at rows i)

-- the name that added a row: the row is one of its rows and lies behind those of every lower name, and the row's text is inside its text
pub record Home (m : Kept) (j : ℕ) : Type 0 where
  pub name : ℕ
  pub kept : name < m.state.names
  pub from : (entry_at m.names name).first ≤ j
  pub to : j < (entry_at m.names name).first + (entry_at m.names name).rows
  pub adds : (i : ℕ) → i < name → (entry_at m.names i).first + (entry_at m.names i).rows ≤ j
  pub starts : (entry_at m.names name).start ≤ (row_at m.rows j).start
  pub ends : (row_at m.rows j).start + (row_at m.rows j).length ≤ (entry_at m.names name).start + (entry_at m.names name).length

-- a distance of name i: 0 is no reference (C-11), and one of 1 or more is a reference that points to a lower number
abbrev pub Refers : ℕ → ℕ → Type 0
Refers i d = (d ≡ 0) ⊎ ((1 ≤ d) × (d ≤ i))

-- a name: its text of 1 to 254 bytes and the byte 10 after it are in the used part, and so are its 1 to 127 rows;
-- those, printed end to end, are its text; its reference, if it has one, points to a lower number
pub record NameRight (m : Kept) (i : ℕ) : Type 0 where
  pub text : TextInside m.state (entry_at m.names i)
  pub rows : RowsInside m.state (entry_at m.names i)
  pub closed : (entry_at m.names i).start + (entry_at m.names i).length < m.state.text
  pub ended : get_or m.text ((entry_at m.names i).start + (entry_at m.names i).length) 0 ≡ 10
  pub prints : rows_print m.text m.rows (entry_at m.names i).first (entry_at m.names i).rows ≡ name_text m.text (entry_at m.names i)
  pub refers : Refers i (entry_at m.names i).distance

-- all that is kept, and the cursors, of a block that says b
pub record Right (rules : Rules) (bytes dir : List ℕ) (b : Telling) (l : Lent) : Type 0 where
  pub opened : Open bytes dir l.cur
  pub counts : Counted l.kept
  pub rows : (i : ℕ) → i < l.kept.state.rows → RowRight l.kept.state.text l.kept.text l.kept.rows i
  pub homes : (i : ℕ) → i < l.kept.state.rows → Home l.kept i
  pub names : (i : ℕ) → i < l.kept.state.names → NameRight l.kept i
  -- the names are the first of those that b says, each with its text, its distance and every row itself, not only what the rows print;
  -- a read answers as b does, or 9
  pub told : ByWords rules bytes dir b l

-- a claim: on a name already read it is confirmed if its bytes are all of that name's bytes and nothing else, denied otherwise;
-- on a later name it is refused as not yet read
pub record Judged (l : Lent) (number : ℕ) (claim : List ℕ) : Type 0 where
  pub confirmed : number < l.kept.state.names → claim ≡ name_at l number → claimed l number claim ≡ Ok verdict.Confirmed
  pub only : claimed l number claim ≡ Ok verdict.Confirmed → (number < l.kept.state.names) × (claim ≡ name_at l number)
  pub denied : number < l.kept.state.names → (claim ≡ name_at l number → ⊥) → claimed l number claim ≡ Ok verdict.Denied
  pub unread : l.kept.state.names ≤ number → claimed l number claim ≡ Err (refusal.At reason.NoSuchName number)
  pub never_13 : (claimed l number claim ≡ Err (refusal.Plain reason.Outside) → ⊥) × (claimed l number claim ≡ Err (refusal.At reason.Outside number) → ⊥)

-- a refusal of a read that is no fault of the memory: 10 for what is left unread, or 2 to 9 for the name being read
pub data Sane (l : Lent) : Refusal → Type 0 where
  left_over : l.kept.state.names ≡ l.kept.state.count → Sane l (refusal.Plain reason.Unread)
  by_rules : (r : Reason) → ByRule r → Sane l (refusal.At r l.kept.state.names)

-- all of demand 3, for a memory z that came from a fresh start l
pub record Demand3 (rules : Rules) (bytes dir : List ℕ) (l z : Lent) : Type 0 where
  -- every kept name's tokens, printed end to end, are that name, and its rows are those that the words say; each reference, a distance of
  -- 1 or more (C-11), points to a lower number; a read answers as the words do, or 9
  pub right : Right rules bytes dir (telling rules bytes dir l.kept.state.count) z
  -- every claim is answered by the name's bytes, or refused as not yet read
  pub claims : (number : ℕ) (claim : List ℕ) → Judged z number claim
  -- what is kept is what as many reads in a row keep, whatever was claimed or refused in between
  pub reads : Reads rules bytes dir l z
  -- no read is refused for what is kept
  pub refusals : (r : Refusal) → (read rules bytes dir z).answer ≡ Err r → Sane z r

-- at all times, so after any calls from a fresh start: the counts and cursors are sound, every kept name's tokens, printed end to end, are that name,
-- each row is the one that the words say, and each reference, a distance of 1 or more (C-11), points to a lower number
abbrev pub AlwaysRight : Type 0
AlwaysRight =
    (rules : Rules) (bytes dir : List ℕ) (count : ℕ) (l : Lent) → Fresh bytes dir count l
    → (calls : List Call) → Right rules bytes dir (telling rules bytes dir count) (run rules bytes dir l calls)

-- every claim at any time
abbrev pub AlwaysJudged : Type 0
AlwaysJudged =
    (rules : Rules) (bytes dir : List ℕ) (count : ℕ) (l : Lent) → Fresh bytes dir count l
    → (calls : List Call) (number : ℕ) (claim : List ℕ) → Judged (run rules bytes dir l calls) number claim

-- the calls that kept nothing leave no mark: the memory is that of as many reads in a row as kept a name
abbrev pub OnlyKept : Type 0
OnlyKept = (rules : Rules) (bytes dir : List ℕ) (calls : List Call) (l : Lent) → Reads rules bytes dir l (run rules bytes dir l calls)

-- the same reads, made one after another and nothing between, lead there too
abbrev pub PlainReads : Type 0
PlainReads = (rules : Rules) (bytes dir : List ℕ) (n : ℕ) (l z : Lent) → Keeps rules bytes dir n l z → run rules bytes dir l (replicate n reading) ≡ z

-- what is kept is what reading the block from its start gives, whatever was refused in between:
-- after any calls the names are the first of those that a whole-block read keeps
abbrev pub FirstNames : Type 0
FirstNames =
    (s : Source) (m : Kept) (count : ℕ) (st : State) (cur : List ℕ) → Accepts s count st cur
    → (calls : List Call) (i : ℕ) → i < (run s.rules s.bytes s.dir (fresh_over m st cur) calls).kept.state.names
    → (i < (block_of s m count).kept.state.names)
    × (name_at (run s.rules s.bytes s.dir (fresh_over m st cur) calls) i ≡ name_at (left (block_of s m count)) i)

-- from a fresh start no read meets 1 or 13
abbrev pub AlwaysSane : Type 0
AlwaysSane =
    (rules : Rules) (bytes dir : List ℕ) (count : ℕ) (l : Lent) → Fresh bytes dir count l
    → (calls : List Call) (q : Refusal) → (read rules bytes dir (run rules bytes dir l calls)).answer ≡ Err q → Sane (run rules bytes dir l calls) q

-- demand 3: start fresh on one block and make any sequence of reads and claims, refused ones too
abbrev pub AlwaysDemand3 : Type 0
AlwaysDemand3 =
    (rules : Rules) (bytes dir : List ℕ) (count : ℕ) (l : Lent) → Fresh bytes dir count l
    → (calls : List Call) → Demand3 rules bytes dir l (run rules bytes dir l calls)

-- and from a whole-block read on: once its opening has accepted the block, what it leaves is what reads from that fresh start leave,
-- and so is what any sequence of reads and claims leaves that follows it
abbrev pub BlockDemand3 : Type 0
BlockDemand3 =
    (s : Source) (m : Kept) (count : ℕ) (st : State) (cur : List ℕ) → Accepts s count st cur
    → (calls : List Call) → Demand3 s.rules s.bytes s.dir (fresh_over m st cur) (run s.rules s.bytes s.dir (left (block_of s m count)) calls)

-- so what it leaves is right
abbrev pub BlockRight : Type 0
BlockRight =
    (s : Source) (m : Kept) (count : ℕ) (st : State) (cur : List ℕ) → Accepts s count st cur
    → Right s.rules s.bytes s.dir (telling s.rules s.bytes s.dir st.count) (left (block_of s m count))
