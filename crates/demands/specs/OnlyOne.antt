-- "Show that it admits one outcome only": a contract of a public call is an equation, the answer and every lent buffer at exit are what the definition gives.
use Rattle.std.specs.Prelude.{ℕ, ◌≡◌, List}
use Rattle.claims.specs.Claims.{Claimed}
use Rattle.block.specs.declared.State.{State}
use Rattle.block.specs.Block.{Opening, open_of}
use Rattle.tables.specs.Tables.{Kept}
use Rattle.numbering.specs.Types.{Rules}
use Rattle.sources.specs.Source.{Source}
use Rattle.outcomes.specs.Outcomes.{Outcome}
use Rattle.reads.specs.Reads.{read_of}
use Rattle.reading.specs.Blocks.{block_of}
use Rattle.claims.specs.Claims.{claim_of}
use Rattle.writing.specs.Writes.{Writing, write_of}

-- two outcomes that meet one equation are the same outcome
abbrev pub OneOutcome : {A : Type 0} → A → A → A → Type 0
OneOutcome meant x y = x ≡ meant → y ≡ meant → x ≡ y

-- of each call
abbrev pub OneOpening : Type 0
OneOpening = (len : ℕ) (dir : List ℕ) (count : ℕ) (cur : List ℕ) (x y : Opening) → OneOutcome (open_of len dir count cur) x y

abbrev pub OneRead : Type 0
OneRead = (s : Source) (m : Kept) (x y : Outcome) → OneOutcome (read_of s m) x y

abbrev pub OneBlock : Type 0
OneBlock = (s : Source) (m : Kept) (count : ℕ) (x y : Outcome) → OneOutcome (block_of s m count) x y

abbrev pub OneVerdict : Type 0
OneVerdict = (number : ℕ) (claim : List ℕ) (s : State) (text names : List ℕ) (x y : Claimed) → OneOutcome (claim_of number claim s text names) x y

abbrev pub OneWriting : Type 0
OneWriting = (rules : Rules) (input dir bytes : List ℕ) (x y : Writing) → OneOutcome (write_of rules input dir bytes) x y
