-- Demand 2 at the C boundary.
use Prim.Native.Nat.{ℕ, zero, suc, ◌+◌, ◌*◌, ◌≤◌}
use Rattle.entries.specs.Entries.{Answer}
use Rattle.std.specs.Prelude.{None, Ok}
use mathlib.Core.Path.{◌≡◌, refl, sym, ap, ◌∙◌, subst}
use mathlib.Core.List.{List, [], ◌∷◌}
use native.Mathlib.Omega.{arith}
use native.Mathlib.Numerals.{add-one}
use lib.ListN.{length, get_or, replicate}
use Rattle.block.specs.Block.{Opening, opening, open_of, state, starts}
use Rattle.tables.specs.Tables.{entry_size, keeping, Table, row_room}
use Rattle.sources.specs.Source.{source}
use Rattle.outcomes.specs.Outcomes.{Outcome, outcome}
use Rattle.reads.specs.Reads.{read_of}
use Rattle.laying.specs.Puts.{total_of}
use Rattle.inputs.specs.Inputs.{names_of}
use Rattle.nameputs.specs.NamePuts.{puts_of}
use Rattle.writing.specs.Writes.{Writing, write_of}
use Rattle.codes.specs.Codes.{packed, refusal_number, state_in, state_out}
use Rattle.opencalls.specs.Calls.{opened_number}
use Rattle.writecalls.specs.Calls.{written_number}
use Rattle.answers.specs.Answers.{read_number}
use Rattle.opencalls.specs.Calls.{opened_state, opens_of, open_call}
use Rattle.readcalls.specs.Calls.{Reads, reads_of, read_call, block_call}
use Rattle.writecalls.specs.Calls.{written_totals, writes_of, write_call}
use Rattle.demands.specs.Runs.{Lent, left, reading}
use Rattle.demands.specs.Refusals as cases
use Rattle.demands.specs.Refusals.{WriteCase}
use Rattle.demands.specs.Boundary.{begun, lent_from, call_on, calls_on}
use Rattle.demands.proofs.Refusals.{write_case, case_writes}
use Rattle.roundtrip.specs.Back.{Roomy, InputBack, read_times, OneByOne}
use Rattle.roundtrip.specs.Demand.{Begins}
use Rattle.roundtrip.proofs.RoundTrip.{reads_back_written, reads_back_amply, reads_one_by_one, opens_written}
use Rattle.roundcalls.specs.Demand.{Wrote, WritesInOrder, TellsTotals, BlockBack, BlockReadsBack, BlockReadsBackAmply, CallsBack, CallsReadBack}
use Rattle.numbering.specs.Types.{Rules}

-- writing that answers code 0 has written
code_0 : (rules : Rules) (input dir bytes totals : List ℕ) (v : ℕ) (w : Writing) → WriteCase rules input dir bytes w → (writes_of totals w).number ≡ packed 0 v
    → w.answer ≡ Ok (record { names = length (names_of input); bytes = v })
unfolding writes_of written_number refusal_number packed
code_0 rules input dir bytes totals v w (cases.writes_1 a) e = absurd (omega (arith, e))
code_0 rules input dir bytes totals v w (cases.writes_12 a n) e = absurd (omega (arith, e))
code_0 rules input dir bytes totals v w (cases.writes_8 n a c b) e = absurd (omega (arith, e))
code_0 rules input dir bytes totals v w (cases.writes_9 a c h l) e = absurd (omega (arith, e))
code_0 rules input dir bytes totals v w (cases.writes a c h l) e = ap (λ (b : ℕ). Ok (record { names = length (names_of input); bytes = b })) (omega (arith, e))

has_written : (rules : Rules) (input dir bytes totals : List ℕ) (v : ℕ) → (write_call rules input dir bytes totals).number ≡ packed 0 v
    → (write_of rules input dir bytes).answer ≡ Ok (record { names = length (names_of input); bytes = v })
unfolding write_call
has_written rules input dir bytes totals v e = code_0 rules input dir bytes totals v _ (write_case rules input dir bytes) e

pub tells_totals : TellsTotals
unfolding write_call writes_of written_totals
tells_totals rules input dir bytes totals v e = ap (written_totals totals) (has_written rules input dir bytes totals v e)

pub writes_in_order : WritesInOrder
unfolding write_call writes_of written_number written_totals
writes_in_order rules input dir bytes totals a c h l =
    let e : (write_of rules input dir bytes).answer ≡ Ok (record { names = length (names_of input); bytes = total_of (puts_of rules (names_of input)) }) =
    ap (λ (w : Writing). w.answer) (case_writes rules input dir bytes _ (cases.writes a c h l)) in
    record { value = total_of (puts_of rules (names_of input)); number = ap written_number e; totals = ap (written_totals totals) e }

-- a whole-block read as its export leaves it
block_back : (input : List ℕ) (n : ℕ) (o : Outcome) → n ≡ length (names_of input) → InputBack input o → BlockBack input n (reads_of o)
unfolding reads_of read_number lent_from state_in state_out
block_back input n o e b =
    let k : o.kept.state.names ≡ n = b.names.count ∙ sym e in
    record {
      number = rw (b.names.answer, k);
      count = k;
      all = e;
      names = subst (InputBack input) (ap (λ (a : Answer). outcome a o.cur o.kept) b.names.answer) b;
    }

-- reads over what the one before left, as their exports leave them
module _ (rules : Rules) (bytes dir : List ℕ) where
  read_on : (r : Reads) (o : Outcome) → lent_from r ≡ left o → call_on rules bytes dir r reading ≡ reads_of (read_of (source rules bytes dir o.cur) o.kept)
  unfolding call_on read_call lent_from left
  read_on r o e = ap (λ (l : Lent). reads_of (read_of (source rules bytes dir l.cur) l.kept)) e

  read_lent : (o : Outcome) → lent_from (reads_of o) ≡ left o
  unfolding lent_from reads_of left state_in state_out
  read_lent o = refl

  reads_on : (i : ℕ) (r : Reads) (o : Outcome) → lent_from r ≡ left o → calls_on rules bytes dir r (replicate (suc i) reading) ≡ reads_of (read_times rules bytes dir (suc i) o)
  unfolding calls_on read_times
  reads_on zero r o e = read_on r o e
  reads_on (suc i) r o e = reads_on i (call_on rules bytes dir r reading) (read_of (source rules bytes dir o.cur) o.kept) (ap lent_from (read_on r o e) ∙ read_lent _)

module _ (rules : Rules) (input dir bytes totals : List ℕ) (n total : ℕ) (w : Wrote (write_call rules input dir bytes totals) n total) where
  same_totals : length (names_of input) ∷ w.value ∷ [] ≡ n ∷ total ∷ []
  same_totals = sym (tells_totals rules input dir bytes totals w.value w.number) ∙ w.totals

  all : n ≡ length (names_of input)
  all = sym (ap (λ (l : List ℕ). get_or l 0 0) same_totals)

  answers : (write_of rules input dir bytes).answer ≡ Ok (record { names = n; bytes = total })
  answers =
      has_written rules input dir bytes totals w.value w.number
      ∙ ap (λ (l : List ℕ). Ok (record { names = get_or l 0 0; bytes = get_or l 1 0 })) same_totals

  module _ (b : List ℕ) (same : Begins total (write_call rules input dir bytes totals).bytes b) (cur text names : List ℕ) (rows : Table) (st : List ℕ) (t : length cur ≡ 1290) where
    call_back : Roomy (names_of input) (keeping (state_in st) text names rows)
        → BlockBack input n (block_call rules b (write_call rules input dir bytes totals).directory n cur text names rows st)
    unfolding write_call writes_of block_call
    call_back r = block_back input n _ all (reads_back_written rules input dir bytes n total answers b same cur _ t r)

    call_back_amply : 255 * n ≤ length text → entry_size * n ≤ length names → 127 * n ≤ row_room rows
        → BlockBack input n (block_call rules b (write_call rules input dir bytes totals).directory n cur text names rows st)
    unfolding write_call writes_of block_call
    call_back_amply x y z = block_back input n _ all (reads_back_amply rules input dir bytes n total answers b same cur _ t x y z)

    calls_back : Roomy (names_of input) (keeping (state_in st) text names rows)
        → CallsBack rules input n b (write_call rules input dir bytes totals).directory (begun (open_call b (write_call rules input dir bytes totals).directory n cur st) text names rows)
    unfolding write_call writes_of open_call opens_of opened_number opened_state lent_from left reads_of read_number state_in state_out
    calls_back r =
        let d : List ℕ = (write_of rules input dir bytes).directory in
        let fresh : open_of (length b) d n cur ≡ opening (Ok (state n 0 0 0)) (starts d) = opens_written rules input dir bytes n total answers b same cur t in
        let start : Reads = begun (open_call b d n cur st) text names rows in
        let first : Outcome = outcome (Ok None) (starts d) (keeping (state n 0 0 0) text names rows) in
        let o : OneByOne rules (names_of input) b d first =
        reads_one_by_one rules input dir bytes n total answers b same text names rows (record { text = r.text; entries = r.entries; rows = r.rows }) in
        let lends : lent_from start ≡ left first = ap (λ (x : Opening). lent_from (begun (opens_of st x) text names rows)) fresh in
        let times : (i : ℕ) → calls_on rules b d start (replicate (i + 1) reading) ≡ reads_of (read_times rules b d (i + 1) first) = λ i. rw add-one (reads_on rules b d i start first lends) in
        let q : n ≡ length (names_of input) = all in
        record {
          opened = ap (λ (x : Opening). opened_number x.answer) fresh;
          all = all;
          numbers = λ i h. ap (λ (x : Reads). x.number) (times i) ∙ ap (read_number _) (o.answers i (omega arith));
          names = λ i h. rw (times i) (o.keeps i (omega arith));
          done =
              ap (λ (x : Reads). x.number) (times n)
              ∙ subst (λ (k : ℕ). (reads_of (read_times rules b d (k + 1) first)).number ≡ packed 256 k) (sym q) (ap (read_number _) o.done ∙ ap (packed 256) o.count);
        }

pub block_reads_back : BlockReadsBack
block_reads_back rules input dir bytes totals n total w b same cur text names rows st t r = call_back rules input dir bytes totals n total w b same cur text names rows st t r

pub block_reads_back_amply : BlockReadsBackAmply
block_reads_back_amply rules input dir bytes totals n total w b same cur text names rows st t x y z =
    call_back_amply rules input dir bytes totals n total w b same cur text names rows st t x y z

pub calls_read_back : CallsReadBack
calls_read_back rules input dir bytes totals n total w b same cur text names rows st t r = calls_back rules input dir bytes totals n total w b same cur text names rows st t r
