-- Demand 2: "Writing gives exactly the streams of document 01's writing rule; given room, reading those gives the same names back."
-- The writing rule is read with C-14, by which names are split (splitting/specs/Rule, pieces/specs/Becomes).
use Rattle.std.specs.Prelude.{ℕ, ◌+◌, ◌*◌, ◌≤◌, ◌<◌, ◌≡◌, List, [], length, get_or, take, Some, None, Ok}
use Rattle.block.specs.Block.{state, starts, opening, open_of}
use Rattle.tables.specs.Tables.{entry_size, Kept, keeping, row_room, Table}
use Rattle.sources.specs.Source.{source}
use Rattle.outcomes.specs.Outcomes.{Outcome, outcome}
use Rattle.reads.specs.Reads.{read_of}
use Rattle.reading.specs.Blocks.{block_of}
use Rattle.inputs.specs.Inputs.{names_of}
use Rattle.writing.specs.Writes.{writing, write_of}
use Rattle.nameputs.specs.NamePuts.{puts_of}
use Rattle.roundtrip.specs.Layout.{LaidOut}
use Rattle.roundtrip.specs.Back.{Roomy, NameIs, InputBack, OneByOne}
use Rattle.numbering.specs.Types.{Rules}

-- bytes that begin with the first so many of those written, whatever comes after them
abbrev pub Begins : ℕ → List ℕ → List ℕ → Type 0
Begins total all b = take total b ≡ take total all

-- those that writing left do, and a buffer cut to the total
abbrev pub BeginsLeft : Type 0
BeginsLeft = (total : ℕ) (all : List ℕ) → Begins total all all

abbrev pub BeginsCut : Type 0
BeginsCut = (total : ℕ) (all : List ℕ) → Begins total all (take total all)

-- whatever writing accepts: a whole-block read of bytes that begin with the total that it wrote and of the directory that it leaves,
-- with any cursor table of the right length and room for the names, gives the names back
abbrev pub ReadsBack : Type 0
ReadsBack =
    (rules : Rules) (input dir bytes : List ℕ) (n total : ℕ) → (write_of rules input dir bytes).answer ≡ Ok (record { names = n; bytes = total })
    → (b : List ℕ) → Begins total (write_of rules input dir bytes).bytes b
    → (cur : List ℕ) (m : Kept) → length cur ≡ 1290 → Roomy (names_of input) m
    → InputBack input (block_of (source rules b (write_of rules input dir bytes).directory cur) m n)

-- 255 bytes of text, an entry and 127 rows for each name are always room enough
abbrev pub ReadsBackAmply : Type 0
ReadsBackAmply =
    (rules : Rules) (input dir bytes : List ℕ) (n total : ℕ) → (write_of rules input dir bytes).answer ≡ Ok (record { names = n; bytes = total })
    → (b : List ℕ) → Begins total (write_of rules input dir bytes).bytes b
    → (cur : List ℕ) (m : Kept) → length cur ≡ 1290 → 255 * n ≤ length m.text → entry_size * n ≤ length m.names → 127 * n ≤ row_room m.rows
    → InputBack input (block_of (source rules b (write_of rules input dir bytes).directory cur) m n)

-- and so does reading one name a call, from the state and the cursors that opening leaves
abbrev pub ReadsOneByOne : Type 0
ReadsOneByOne =
    (rules : Rules) (input dir bytes : List ℕ) (n total : ℕ) → (write_of rules input dir bytes).answer ≡ Ok (record { names = n; bytes = total })
    → (b : List ℕ) → Begins total (write_of rules input dir bytes).bytes b
    → (text table : List ℕ) (rows : Table) → Roomy (names_of input) (keeping (state n 0 0 0) text table rows)
    → OneByOne rules (names_of input) b (write_of rules input dir bytes).directory
    (outcome (Ok None) (starts (write_of rules input dir bytes).directory) (keeping (state n 0 0 0) text table rows))

-- opening accepts what writing wrote, with any cursor table of the right length
abbrev pub Opens : Type 0
Opens =
    (rules : Rules) (input dir bytes : List ℕ) (n total : ℕ) → (write_of rules input dir bytes).answer ≡ Ok (record { names = n; bytes = total })
    → (b : List ℕ) → Begins total (write_of rules input dir bytes).bytes b
    → (cur : List ℕ) → length cur ≡ 1290
    → open_of (length b) (write_of rules input dir bytes).directory n cur
    ≡ opening (Ok (state n 0 0 0)) (starts (write_of rules input dir bytes).directory)

-- and what it wrote is laid out as the paper says; its total is the end of the last span, not any number
abbrev pub LaysOut : Type 0
LaysOut =
    (rules : Rules) (input dir bytes : List ℕ) (n total : ℕ) → (write_of rules input dir bytes).answer ≡ Ok (record { names = n; bytes = total })
    → LaidOut (puts_of rules (names_of input)) (write_of rules input dir bytes).directory (write_of rules input dir bytes).bytes bytes total

-- "No names: writing gives 0 bytes", with any directory of the right length and any bytes, none too
abbrev pub Nothing : Type 0
Nothing = (rules : Rules) (dir bytes : List ℕ) → length dir ≡ 2580 → (write_of rules [] dir bytes).answer ≡ Ok (record { names = 0; bytes = 0 })

-- The demand of the code: whatever meets the contract of writing and is accepted, a whole-block read that meets its contract gives back
abbrev pub CodeReadsBack : Type 0
CodeReadsBack =
    (rules : Rules) (input dir bytes d w : List ℕ) (n total : ℕ) → writing (Ok (record { names = n; bytes = total })) d w ≡ write_of rules input dir bytes
    → (b : List ℕ) → Begins total w b
    → (cur : List ℕ) (m : Kept) → length cur ≡ 1290 → Roomy (names_of input) m
    → (o : Outcome) → o ≡ block_of (source rules b d cur) m n → InputBack input o

-- and reads of one name a call do, each over what the one before left: read i, from 0 on, answers i and keeps name i, and one more read is done
abbrev pub CodeReadsOneByOne : Type 0
CodeReadsOneByOne =
    (rules : Rules) (input dir bytes d w : List ℕ) (n total : ℕ) → writing (Ok (record { names = n; bytes = total })) d w ≡ write_of rules input dir bytes
    → (b : List ℕ) → Begins total w b
    → (text table : List ℕ) (rows : Table) → Roomy (names_of input) (keeping (state n 0 0 0) text table rows)
    → (o : ℕ → Outcome) → o 0 ≡ outcome (Ok None) (starts d) (keeping (state n 0 0 0) text table rows)
    → ((i : ℕ) → o (i + 1) ≡ read_of (source rules b d (o i).cur) (o i).kept)
    → ((i : ℕ) → i < length (names_of input) → ((o (i + 1)).answer ≡ Ok (Some i)) × NameIs (o (i + 1)).kept i (get_or (names_of input) i []))
    × ((o (length (names_of input) + 1)).answer ≡ Ok None)
