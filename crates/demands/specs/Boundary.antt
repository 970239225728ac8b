-- The C boundary where its callers stand: what they see of a call's number, what a refused call leaves, calls one after another over what the one before left,
-- and the demands there.
use Rattle.std.specs.Prelude.{ℕ, suc, ◌^◌, ◌≤◌, ◌<◌, ◌≡◌, List, [], ◌∷◌, ◌⊎◌, eqb, length, get_or, Option, Some, None, Result, Ok, Err, option_map}
use Rattle.block.specs.Block.{Opened}
use Rattle.entries.specs.Entries.{Answer}
use Rattle.claims.specs.Claims.{Claimed}
use Rattle.writing.specs.Writes.{WriteAnswer}
use Rattle.claims.specs.declared.Verdict.TheVariants as verdict
use Rattle.base.specs.Choice.{pick}
use Rattle.refusals.specs.Refusals.{number_of, reason_of}
use Rattle.refusals.specs.declared.Reason.{Reason}
use Rattle.refusals.specs.declared.Refusal.{Refusal}
use Rattle.refusals.specs.declared.Refusal.TheVariants as refusal
use Rattle.block.specs.Block.{open_of, state}
use Rattle.block.specs.Streams.{diff_stream}
use Rattle.tables.specs.Tables.{keeping, Table}
use Rattle.sources.specs.Source.{source}
use Rattle.earlier.specs.Back.{none}
use Rattle.naming.specs.Naming.{diff_of}
use Rattle.reads.specs.Reads.{read_of}
use Rattle.reading.specs.Blocks.{block_of}
use Rattle.claims.specs.Claims.{claim_of}
use Rattle.writing.specs.Writes.{write_of}
use Rattle.codes.specs.Codes.{packed, no_name, state_in, state_out}
use Rattle.opencalls.specs.Calls.{Opens, opens, open_call}
use Rattle.readcalls.specs.Calls.{Reads, reads, reads_of, read_call, block_call}
use Rattle.claimcalls.specs.Calls.{claim_call}
use Rattle.writecalls.specs.Calls.{Writes, writes, write_call}
use Rattle.demands.specs.Runs.{Lent, lent, name_at, Call, reading, claiming}
use Rattle.demands.specs.Refusals.{Ready, Heads, ByRule}
use Rattle.demands.specs.Right.{Demand3}
use Rattle.demands.specs.OnlyOne.{OneOutcome}
use Rattle.numbering.specs.Types.{Rules}

-- a code, the low 32 bits, other than 0: the call is refused, or it is a read that finds the block at its end
pub record Stopped (number : ℕ) : Type 0 where
  pub code : ℕ
  pub value : ℕ
  pub is : number ≡ packed code value
  pub some : 1 ≤ code
  pub low : code < 2 ^ 32

-- a state of four numbers goes out as it came in: aq_read and aq_read_block write it on every path
abbrev pub StateBack : Type 0
StateBack = (l : List ℕ) → length l ≡ 4 → state_out (state_in l) ≡ l

-- opening that answers another code than 0 leaves the cursors and the state
abbrev pub OpenCallStopped : Type 0
OpenCallStopped =
    (bytes dir : List ℕ) (count : ℕ) (cur st : List ℕ) → Stopped (open_call bytes dir count cur st).number
    → open_call bytes dir count cur st ≡ opens (open_call bytes dir count cur st).number cur st

-- and it does where it is refused
abbrev pub OpenCallStops : Type 0
OpenCallStops =
    (bytes dir : List ℕ) (count : ℕ) (cur st : List ℕ) (r : Refusal) → (open_of (length bytes) dir count cur).answer ≡ Err r
    → Stopped (open_call bytes dir count cur st).number

-- a read that answers another code than 0, refused or done, leaves the cursors, the text, the names, the rows and the state
abbrev pub ReadCallStopped : Type 0
ReadCallStopped =
    (rules : Rules) (bytes dir cur text names : List ℕ) (rows : Table) (st : List ℕ) → length st ≡ 4 → Stopped (read_call rules bytes dir cur text names rows st).number
    → read_call rules bytes dir cur text names rows st ≡ reads (read_call rules bytes dir cur text names rows st).number cur text names rows st

-- and it does where it keeps no name
abbrev pub ReadCallStops : Type 0
ReadCallStops =
    (rules : Rules) (bytes dir cur text names : List ℕ) (rows : Table) (st : List ℕ)
    → ((i : ℕ) → (read_of (source rules bytes dir cur) (keeping (state_in st) text names rows)).answer ≡ Ok (Some i) → ⊥)
    → Stopped (read_call rules bytes dir cur text names rows st).number

-- writing that answers another code than 0 leaves the directory, the bytes and the totals
abbrev pub WriteCallStopped : Type 0
WriteCallStopped =
    (rules : Rules) (input dir bytes totals : List ℕ) → Stopped (write_call rules input dir bytes totals).number
    → write_call rules input dir bytes totals ≡ writes (write_call rules input dir bytes totals).number dir bytes totals

-- and it does where it is refused
abbrev pub WriteCallStops : Type 0
WriteCallStops =
    (rules : Rules) (input dir bytes totals : List ℕ) (r : Refusal) → (write_of rules input dir bytes).answer ≡ Err r
    → Stopped (write_call rules input dir bytes totals).number

-- a whole-block read whose opening answers another code than 0 answers that, and leaves everything as it was
abbrev pub BlockCallStopped : Type 0
BlockCallStopped =
    (rules : Rules) (bytes dir : List ℕ) (count : ℕ) (cur text names : List ℕ) (rows : Table) (st : List ℕ) → length st ≡ 4 → Stopped (open_call bytes dir count cur st).number
    → block_call rules bytes dir count cur text names rows st ≡ reads (open_call bytes dir count cur st).number cur text names rows st

-- a code that a call can answer: 0, 256 for "done", or the number of a reason
abbrev pub IsCode : ℕ → Type 0
IsCode code = (code ≡ 0) ⊎ ((code ≡ 256) ⊎ ((r : Reason) × (number_of r ≡ code)))

-- a number tells an answer: it has one code, below 2^32, and one value, and these tell it
pub record NumberTells {A : Type 0} (number : ℕ) (told : ℕ → ℕ → Option A) (a : A) : Type 0 where
  pub code : ℕ
  pub value : ℕ
  pub low : code < 2 ^ 32
  pub is : number ≡ packed code value
  pub one : (c v : ℕ) → c < 2 ^ 32 → number ≡ packed c v → (c ≡ code) × (v ≡ value)
  pub tells : Some a ≡ told code value

-- two answers under one number are the same answer: two of reads or of whole blocks, two of claims, two of replays, two of openings with one count, two of writings with the same totals
abbrev pub SameAnswer : {A : Type 0} → (ℕ → ℕ → Option A) → A → A → Type 0
SameAnswer told a b = (m n : ℕ) → NumberTells m told a → NumberTells n told b → m ≡ n → a ≡ b

-- what a reason and a value tell of a refusal: no name goes with it where the value says so, but for 11, which always has the number claimed
unfoldable pub refused_with : Reason → ℕ → Refusal
refused_with r value = pick (eqb (number_of r) 11) (refusal.At r value) (pick (eqb value no_name) (refusal.Plain r) (refusal.At r value))

-- what a code and a value tell of it: nothing where the code is no reason's number
unfoldable pub told_refusal : ℕ → ℕ → Option Refusal
told_refusal code value = option_map (λ (r : Reason). refused_with r value) (reason_of code)

-- of a read or a whole block; the value of "done" is k
unfoldable pub told_read : ℕ → ℕ → Option Answer
told_read code value = pick (eqb code 0) (Some (Ok (Some value))) (pick (eqb code 256) (Some (Ok None)) (option_map Err (told_refusal code value)))

-- of an opening: its state isn't in the number, but it is the fresh one for the count that was handed in
unfoldable pub told_opening : ℕ → ℕ → ℕ → Option Opened
told_opening count code value = pick (eqb code 0) (Some (Ok (state count 0 0 0))) (option_map Err (told_refusal code value))

-- of a claim
unfoldable pub told_verdict : ℕ → ℕ → Option Claimed
told_verdict code value = pick (eqb code 0) (Some (Ok (pick (eqb value 1) verdict.Confirmed verdict.Denied))) (option_map Err (told_refusal code value))

-- of a writing: the number of names isn't in the number, but it is the first of the totals that it left
unfoldable pub told_writing : List ℕ → ℕ → ℕ → Option WriteAnswer
told_writing totals code value = pick (eqb code 0) (Some (Ok (record { names = get_or totals 0 0; bytes = value }))) (option_map Err (told_refusal code value))

-- an answer that has one code and one value
abbrev pub OneNumber : {A : Type 0} → (ℕ → ℕ → Option A) → A → Type 0
OneNumber told a = (c v d w : ℕ) → Some a ≡ told c v → Some a ≡ told d w → (c ≡ d) × (v ≡ w)

-- answers are told apart: no other code than these tells one, each has one code, and a refusal one value too
pub record ToldApart {A : Type 0} (told : ℕ → ℕ → Option (Result A Refusal)) : Type 0 where
  pub known : (code value : ℕ) (a : Result A Refusal) → Some a ≡ told code value → IsCode code
  pub one_code : (c v d w : ℕ) (a : Result A Refusal) → Some a ≡ told c v → Some a ≡ told d w → c ≡ d
  pub one_refusal : (r : Refusal) → OneNumber told (Err r)

-- 256 tells none
abbrev pub NeverDone : {A : Type 0} → (ℕ → ℕ → Option A) → Type 0
NeverDone told = (value : ℕ) → told 256 value ≡ None

-- of every call; 256 tells of a read or a whole block alone. A name that is kept, a confirmed claim and a writing have one value too
abbrev pub OpeningApart : Type 0
OpeningApart = (count : ℕ) → ToldApart (told_opening count) × NeverDone (told_opening count)

abbrev pub ReadApart : Type 0
ReadApart = ToldApart told_read × ((name : ℕ) → OneNumber told_read (Ok (Some name)))

abbrev pub VerdictApart : Type 0
VerdictApart = ToldApart told_verdict × (NeverDone told_verdict × OneNumber told_verdict (Ok verdict.Confirmed))

abbrev pub WritingApart : Type 0
WritingApart = (totals : List ℕ) → ToldApart (told_writing totals) × (NeverDone (told_writing totals) × ((a : WriteAnswer) → OneNumber (told_writing totals) a))

-- the number of every call tells its answer
abbrev pub OpeningTold : Type 0
OpeningTold = (bytes dir : List ℕ) (count : ℕ) (cur st : List ℕ) → NumberTells (open_call bytes dir count cur st).number (told_opening count) (open_of (length bytes) dir count cur).answer

abbrev pub ReadTold : Type 0
ReadTold = (rules : Rules) (bytes dir cur text names : List ℕ) (rows : Table) (st : List ℕ)
    → NumberTells (read_call rules bytes dir cur text names rows st).number told_read (read_of (source rules bytes dir cur) (keeping (state_in st) text names rows)).answer

abbrev pub BlockTold : Type 0
BlockTold = (rules : Rules) (bytes dir : List ℕ) (count : ℕ) (cur text names : List ℕ) (rows : Table) (st : List ℕ)
    → NumberTells (block_call rules bytes dir count cur text names rows st).number told_read (block_of (source rules bytes dir cur) (keeping (state_in st) text names rows) count).answer

abbrev pub VerdictTold : Type 0
VerdictTold = (number : ℕ) (claim text names st : List ℕ) → NumberTells (claim_call number claim text names st) told_verdict (claim_of number claim (state_in st) text names)

abbrev pub WritingTold : Type 0
WritingTold = (rules : Rules) (input dir bytes totals : List ℕ)
    → NumberTells (write_call rules input dir bytes totals).number (told_writing (write_call rules input dir bytes totals).totals) (write_of rules input dir bytes).answer

-- what opening leaves, and buffers to read into
abbrev pub begun : Opens → List ℕ → List ℕ → Table → Reads
begun o text names rows = reads o.number o.cursors text names rows o.state

-- where opening answers code 0: what holds of what it leaves, with any buffers to read into, and of what a whole-block read leaves
abbrev pub PastOpening : (Rules → List ℕ → List ℕ → Reads → Reads → Type 0) → Type 0
PastOpening Holds =
    (rules : Rules) (bytes dir : List ℕ) (count : ℕ) (cur text names : List ℕ) (rows : Table) (st : List ℕ) (v : ℕ) → (open_call bytes dir count cur st).number ≡ packed 0 v
    → Holds rules bytes dir (begun (open_call bytes dir count cur st) text names rows) (block_call rules bytes dir count cur text names rows st)

-- what a call left, as a read or a claim inside has it
unfoldable pub lent_from : Reads → Lent
lent_from r = lent r.cursors (keeping (state_in r.state) r.text r.names r.rows)

-- a call over what the one before left
unfoldable pub call_on : Rules → List ℕ → List ℕ → Reads → Call → Reads
call_on rules bytes dir r reading = read_call rules bytes dir r.cursors r.text r.names r.rows r.state
call_on rules bytes dir r (claiming number claim) = r

unfoldable pub calls_on : Rules → List ℕ → List ℕ → Reads → List Call → Reads
calls_on rules bytes dir r [] = r
calls_on rules bytes dir r (c ∷ cs) = calls_on rules bytes dir (call_on rules bytes dir r c) cs

-- so many reads in a row, each of which answers code 0
pub data KeepCalls (rules : Rules) (bytes dir : List ℕ) : ℕ → Reads → Reads → Type 0 where
  no_call : (r : Reads) → KeepCalls rules bytes dir 0 r r
  next_call : (n i : ℕ) (r z : Reads) → (call_on rules bytes dir r reading).number ≡ packed 0 i → KeepCalls rules bytes dir n (call_on rules bytes dir r reading) z → KeepCalls rules bytes dir (suc n) r z

-- a whole-block read, from what opening leaves: reads that answer code 0, then one that doesn't; its number is that one's, and what those before it did, stays
pub record WholeCall (rules : Rules) (bytes dir : List ℕ) (r o : Reads) : Type 0 where
  pub names : ℕ
  pub last : Reads
  pub before : KeepCalls rules bytes dir names r last
  pub leaves : o ≡ call_on rules bytes dir last reading
  pub stops : Stopped o.number
  pub stays : o ≡ reads o.number last.cursors last.text last.names last.rows last.state

-- every whole-block read past its opening is one
abbrev pub BlockCallReads : Type 0
BlockCallReads = PastOpening WholeCall

-- the number of a read that keeps no name, k being kept: "done" with k; 10 for what is left unread; or, with the number of the name being read, 2 to 9
pub data StopSays (k : ℕ) : ℕ → Type 0 where
  says_done : StopSays k (packed 256 k)
  says_left_over : StopSays k (packed 10 no_name)
  says_by_rules : (r : Reason) → ByRule r → StopSays k (packed (number_of r) k)

-- a number hasn't this code, whatever the value
abbrev pub Never : ℕ → ℕ → Type 0
Never code number = (value : ℕ) → number ≡ packed code value → ⊥

-- it isn't 1, 12 or 13: tables, count and kept numbers are found sound
abbrev pub Faultless : ℕ → Type 0
Faultless number = Never 1 number × (Never 12 number × Never 13 number)

-- a whole block that got past its opening
pub record BlockSays (r : Reads) : Type 0 where
  pub says : StopSays (state_in r.state).names r.number
  pub faultless : Faultless r.number

-- every whole block past its opening says so: never 1, 12 or 13
abbrev pub BlockCallSays : Type 0
BlockCallSays = PastOpening (λ rules bytes dir r o. BlockSays o)

-- a read with k names kept: code 0 with k, the number of the name that it keeps, or it stops
pub record ReadCallSays (k number : ℕ) : Type 0 where
  pub says : (number ≡ packed 0 k) ⊎ StopSays k number
  pub faultless : Faultless number

-- a claim over what the call before left
abbrev pub claim_on : Reads → ℕ → List ℕ → ℕ
claim_on r number claim = claim_call number claim r.text r.names r.state

-- it is code 0 with 1 if its bytes are all of that name's bytes and nothing else, code 0 with 0 otherwise, and 11 on a later name
pub record JudgedCall (r : Reads) (number : ℕ) (claim : List ℕ) : Type 0 where
  pub confirmed : number < (lent_from r).kept.state.names → claim ≡ name_at (lent_from r) number → claim_on r number claim ≡ packed 0 1
  pub only : claim_on r number claim ≡ packed 0 1 → (number < (lent_from r).kept.state.names) × (claim ≡ name_at (lent_from r) number)
  pub denied : number < (lent_from r).kept.state.names → (claim ≡ name_at (lent_from r) number → ⊥) → claim_on r number claim ≡ packed 0 0
  pub unread : (lent_from r).kept.state.names ≤ number → claim_on r number claim ≡ packed 11 number

-- demand 3 at the boundary, for what the calls from a fresh start l left, and for the number of the next claim or read, whichever comes
pub record Demand3Call (rules : Rules) (bytes dir : List ℕ) (l : Lent) (r : Reads) : Type 0 where
  pub inside : Demand3 rules bytes dir l (lent_from r)
  pub claims : (number : ℕ) (claim : List ℕ) → JudgedCall r number claim
  pub reads : ReadCallSays (state_in r.state).names (call_on rules bytes dir r reading).number

-- and on the way there: for what each of these calls was handed, so for each number that was seen, and for what the last one left
unfoldable pub EachCall : (rules : Rules) (bytes dir : List ℕ) → Lent → Reads → List Call → Type 0
EachCall rules bytes dir l r [] = Demand3Call rules bytes dir l r
EachCall rules bytes dir l r (c ∷ cs) = Demand3Call rules bytes dir l r × EachCall rules bytes dir l (call_on rules bytes dir r c) cs

-- demand 3: any sequence of reads and claims, refused ones too; and from a whole-block read on
abbrev pub CallsDemand3 : Type 0
CallsDemand3 = PastOpening (λ rules bytes dir r o. (calls : List Call) → Demand3Call rules bytes dir (lent_from r) (calls_on rules bytes dir r calls))

abbrev pub BlockCallsDemand3 : Type 0
BlockCallsDemand3 = PastOpening (λ rules bytes dir r o. (calls : List Call) → Demand3Call rules bytes dir (lent_from r) (calls_on rules bytes dir o calls))

-- of each of the numbers on the way
abbrev pub CallsEach : Type 0
CallsEach = PastOpening (λ rules bytes dir r o. (calls : List Call) → EachCall rules bytes dir (lent_from r) r calls)

abbrev pub BlockCallsEach : Type 0
BlockCallsEach = PastOpening (λ rules bytes dir r o. (calls : List Call) → EachCall rules bytes dir (lent_from r) o calls)

-- C-11: a read of a name that starts afresh is rule 4 with no earlier name, whatever the tables hold
abbrev pub AfreshCall : Type 0
AfreshCall =
    (rules : Rules) (bytes dir cur text names : List ℕ) (rows : Table) (st : List ℕ)
    → Ready (source rules bytes dir cur) (keeping (state_in st) text names rows) → ((state_in st).names ≡ (state_in st).count → ⊥) → Heads (source rules bytes dir cur) rules.numbers.diff diff_stream 0
    → read_call rules bytes dir cur text names rows st
    ≡ reads_of (diff_of (source rules bytes dir cur) (keeping (state_in st) text names rows) 0 (none (keeping (state_in st) text names rows)))

-- each export has one outcome only
abbrev pub OneOpenCall : Type 0
OneOpenCall = (bytes dir : List ℕ) (count : ℕ) (cur st : List ℕ) (x y : Opens) → OneOutcome (open_call bytes dir count cur st) x y

abbrev pub OneReadCall : Type 0
OneReadCall =
    (rules : Rules) (bytes dir cur text names : List ℕ) (rows : Table) (st : List ℕ) (x y : Reads) → OneOutcome (read_call rules bytes dir cur text names rows st) x y

abbrev pub OneBlockCall : Type 0
OneBlockCall =
    (rules : Rules) (bytes dir : List ℕ) (count : ℕ) (cur text names : List ℕ) (rows : Table) (st : List ℕ) (x y : Reads)
    → OneOutcome (block_call rules bytes dir count cur text names rows st) x y

abbrev pub OneClaimCall : Type 0
OneClaimCall = (number : ℕ) (claim text names st : List ℕ) (x y : ℕ) → OneOutcome (claim_call number claim text names st) x y

abbrev pub OneWriteCall : Type 0
OneWriteCall = (rules : Rules) (input dir bytes totals : List ℕ) (x y : Writes) → OneOutcome (write_call rules input dir bytes totals) x y
