-- From what a read or a whole block leaves to what its export leaves.
use Prim.Native.Nat.{ℕ}
use Rattle.entries.specs.Entries.{Answer}
use mathlib.Core.Path.{◌≡◌, ap, ◌∙◌}
use mathlib.Core.List.{List}
use Rattle.block.specs.declared.State.{State}
use Rattle.numbering.specs.Types.{Rules}
use Rattle.tables.specs.Tables.{keeping, Table}
use Rattle.outcomes.specs.Outcomes.{Outcome, outcome}
use Rattle.sources.specs.Source.{source}
use Rattle.reads.specs.Reads.{read_of}
use Rattle.reading.specs.Blocks.{block_of}
use Rattle.codes.specs.Codes.{state_in, state_out}
use Rattle.answers.specs.Answers.{read_number}
use Rattle.readcalls.specs.Calls.{reads, reads_of, read_call, block_call}

same_reads : {n n' : ℕ} (c t e : List ℕ) (r : Table) {s s' : List ℕ} → n ≡ n' → s ≡ s' → reads n c t e r s ≡ reads n' c t e r s'
same_reads c t e r p q = cc

pub read_call_law : (a : Answer) (c t e : List ℕ) (r : Table) (k : State) (o : Outcome) {n : ℕ} {s : List ℕ}
    → outcome a c (keeping k t e r) ≡ o → n ≡ read_number k.names a → s ≡ state_out k → reads n c t e r s ≡ reads_of o
unfolding reads_of
read_call_law a c t e r k o f p q = same_reads c t e r p q ∙ ap reads_of f

-- the state that is handed in as four numbers
pub read_state : (rules : Rules) (bytes dir cur text names : List ℕ) (rows : Table) (state : List ℕ) {k : State} → k ≡ state_in state
    → reads_of (read_of (source rules bytes dir cur) (keeping k text names rows)) ≡ read_call rules bytes dir cur text names rows state
unfolding read_call
read_state rules bytes dir cur text names rows state e = ap (λ (k : State). reads_of (read_of (source rules bytes dir cur) (keeping k text names rows))) e

pub block_state : (rules : Rules) (bytes dir : List ℕ) (count : ℕ) (cur text names : List ℕ) (rows : Table) (state : List ℕ) {k : State} → k ≡ state_in state
    → reads_of (block_of (source rules bytes dir cur) (keeping k text names rows) count) ≡ block_call rules bytes dir count cur text names rows state
unfolding block_call
block_state rules bytes dir count cur text names rows state e = ap (λ (k : State). reads_of (block_of (source rules bytes dir cur) (keeping k text names rows) count)) e
