-- How the bench cases are said: small blocks from their streams, opened and read, and names written into streams.
use Rattle.std.specs.Prelude.{ℕ, ◌+◌, ◌*◌, ◌≡◌, Bool, true, List, [], ◌∷◌, ◌++◌, leb, length, set, take, replicate, Ok, Err}
use Rattle.block.specs.Block.{Opened}
use Rattle.entries.specs.Entries.{Answer}
use Rattle.writing.specs.Writes.{WriteAnswer}
use Rattle.base.specs.Choice.{both}
use Rattle.base.specs.Memory.{part}
use Rattle.block.specs.declared.State.{State}
use Rattle.block.specs.Streams.{type_stream}
use Rattle.block.specs.Block.{span_of, start_of, end_of, Opening, open_of}
use Rattle.numbering.specs.declared.TokenType.{TokenType}
use Rattle.numbering.specs.Types.{type_number, draft_numbers, Rules, rules_of, draft_plain}
use Rattle.tables.specs.Tables.{in_rows, Kept, keeping}
use Rattle.outcomes.specs.Outcomes.{Outcome}
use Rattle.writing.specs.Writes.{Writing, write_of}
use Rattle.demands.specs.Runs.{lent, read, run, reading}

-- a case: what the definitions give, and what the paper says
pub record Case : Type 1 where
  pub kind : Type 0
  pub given : kind
  pub said : kind

-- every case of a list holds
abbrev pub Hold : List Case → Type 0
Hold [] = Unit
Hold (c ∷ cs) = (c.given ≡ c.said) × Hold cs

-- all blocks here are the draft's
abbrev pub draft_rules : Rules
draft_rules = rules_of draft_plain

abbrev pub dup_number : ℕ
dup_number = draft_numbers.dup

abbrev pub diff_number : ℕ
diff_number = draft_numbers.diff

-- the bytes of one span
pub record Stream : Type 0 where
  pub position : ℕ
  pub stream : ℕ
  pub bytes : List ℕ

abbrev pub stream : ℕ → ℕ → List ℕ → Stream
stream p i b = record { position = p; stream = i; bytes = b }

-- the types of a position, which are those of tokens
unfoldable pub type_bytes : List TokenType → List ℕ
type_bytes [] = []
type_bytes (t ∷ ts) = type_number draft_numbers t ∷ type_bytes ts

abbrev pub types : ℕ → List TokenType → Stream
types p ts = stream p type_stream (type_bytes ts)

-- spans laid one after another; the others are empty
unfoldable pub bytes_in : List Stream → List ℕ
bytes_in [] = []
bytes_in (x ∷ xs) = x.bytes ++ bytes_in xs

unfoldable pub dir_from : ℕ → List Stream → List ℕ
dir_from at [] = replicate 2580 0
dir_from at (x ∷ xs) =
    set (set (dir_from (at + length x.bytes) xs) (2 * span_of x.position x.stream) at) (2 * span_of x.position x.stream + 1) (at + length x.bytes)

-- each position is 0 to 128, each stream one of ten
unfoldable pub in_directory : List Stream → Bool
in_directory [] = true
in_directory (x ∷ xs) = both (both (leb x.position 128) (leb x.stream 9)) (in_directory xs)

-- how many bytes and numbers the lent buffers have
pub record Buffers : Type 0 where
  pub text : ℕ
  pub names : ℕ
  pub rows : ℕ

-- the buffers with nothing kept in them yet
abbrev pub empty : Buffers → State → Kept
empty b s = keeping s (replicate b.text 0) (replicate b.names 0) (in_rows (replicate b.rows 0))

-- what reading came to: the answer, and the text that is kept
pub record Told : Type 0 where
  pub answer : Answer
  pub text : List ℕ

unfoldable pub told : Outcome → Told
told o = record { answer = o.answer; text = take o.kept.state.text o.kept.text }

-- n reads of a block that is opened, and the read after them; nothing is read where opening is refused
unfoldable pub read_from : Buffers → ℕ → List Stream → List ℕ → Opened → Told
read_from b n xs cur (Ok s) = told (read draft_rules (bytes_in xs) (dir_from 0 xs) (run draft_rules (bytes_in xs) (dir_from 0 xs) (lent cur (empty b s)) (replicate n reading)))
read_from b n xs cur (Err r) = record { answer = Err r; text = [] }

-- opening a block of so many names, over cursors that hold nothing yet
unfoldable pub open_in : ℕ → List Stream → Opening
open_in count xs = open_of (length (bytes_in xs)) (dir_from 0 xs) count (replicate 1290 0)

-- a block of n + 1 names, opened and read n + 1 times: what the last read came to
unfoldable pub read_in : Buffers → ℕ → List Stream → Told
read_in b n xs = read_from b n xs (open_in (n + 1) xs).cursors (open_in (n + 1) xs).answer

-- what writing came to: the answer, what lies in some spans by the directory, and all the bytes
pub record WrittenIn : Type 0 where
  pub answer : WriteAnswer
  pub streams : List Stream
  pub bytes : List ℕ

-- what lies in the spans of these streams
unfoldable pub streams_in : List ℕ → List ℕ → List Stream → List Stream
streams_in bytes dir [] = []
streams_in bytes dir (x ∷ xs) =
    stream x.position x.stream (part bytes (start_of dir (span_of x.position x.stream)) (end_of dir (span_of x.position x.stream)))
    ∷ streams_in bytes dir xs

unfoldable pub wrote_in : List Stream → Writing → WrittenIn
wrote_in xs w = record { answer = w.answer; streams = streams_in w.bytes w.directory xs; bytes = w.bytes }

-- names written over a directory and 30 bytes that hold something else
unfoldable pub write_in : List ℕ → List Stream → WrittenIn
write_in input xs = wrote_in xs (write_of draft_rules input (replicate 2580 7) (replicate 30 9))
