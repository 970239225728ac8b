-- Demand 2 of the code: whatever meets the contract of writing and is accepted, reads that meet their contracts give back, a whole block or one name a call,
-- from any bytes that begin with the total that was written.
use Prim.Native.Nat.{ℕ, zero, suc, ◌+◌}
use Rattle.std.specs.Prelude.{Some, None, Ok}
use mathlib.Core.Path.{◌≡◌, refl, sym, ap, ◌∙◌, subst}
use mathlib.Core.List.{List, []}
use native.Mathlib.Numerals.{add-one}
use lib.ListN.{length, get_or, take}
use Rattle.block.specs.Block.{state, starts}
use Rattle.tables.specs.Tables.{keeping}
use Rattle.sources.specs.Source.{source}
use Rattle.outcomes.specs.Outcomes.{Outcome, outcome}
use Rattle.reads.specs.Reads.{read_of}
use Rattle.reading.specs.Blocks.{block_of}
use Rattle.inputs.specs.Inputs.{names_of}
use Rattle.writing.specs.Writes.{Writing, write_of}
use Rattle.roundtrip.specs.Back.{NameIs, InputBack, read_times, OneByOne}
use Rattle.roundtrip.specs.Demand.{Begins, CodeReadsBack, CodeReadsOneByOne}
use Rattle.roundtrip.proofs.RoundTrip.{reads_back_written, reads_one_by_one}
use Rattle.numbering.specs.Types.{Rules}

pub code_reads_back : CodeReadsBack
code_reads_back rules input dir bytes d w n total e b s cur m h r o f =
    let same : Begins total (write_of rules input dir bytes).bytes b = s ∙ ap (λ (x : Writing). take total x.bytes) e in
    let whole = reads_back_written rules input dir bytes n total (ap (λ (x : Writing). x.answer) (sym e)) b same cur m h r in
    let back : InputBack input (block_of (source rules b d cur) m n) =
    subst (λ (x : Writing). InputBack input (block_of (source rules b x.directory cur) m n)) (sym e) whole in
    subst (λ (x : Outcome). InputBack input x) (sym f) back

-- outcomes of reads that meet their contract, each over what the one before left, are those of so many reads in a row
seen_times : (rules : Rules) (bytes dir : List ℕ) (n : ℕ) (o : ℕ → Outcome) → ((i : ℕ) → o (suc i) ≡ read_of (source rules bytes dir (o i).cur) (o i).kept) → o n ≡ read_times rules bytes dir n (o 0)
unfolding read_times
seen_times rules bytes dir zero o f = refl
seen_times rules bytes dir (suc n) o f = seen_times rules bytes dir n (λ i. o (suc i)) (λ i. f (suc i)) ∙ ap (read_times rules bytes dir n) (f 0)

pub code_reads_one_by_one : CodeReadsOneByOne
code_reads_one_by_one rules input dir bytes d w n total e b s text table rows r o z f =
    let same : Begins total (write_of rules input dir bytes).bytes b = s ∙ ap (λ (x : Writing). take total x.bytes) e in
    let begun : List ℕ → Outcome = λ x. outcome (Ok None) (starts x) (keeping (state n 0 0 0) text table rows) in
    let whole : OneByOne rules (names_of input) b d (begun d) =
    subst (λ (x : Writing). OneByOne rules (names_of input) b x.directory (begun x.directory)) (sym e)
    (reads_one_by_one rules input dir bytes n total (ap (λ (x : Writing). x.answer) (sym e)) b same text table rows r) in
    let next : (i : ℕ) → o (suc i) ≡ read_of (source rules b d (o i).cur) (o i).kept = λ i. ap o (sym (add-one i)) ∙ f i in
    let times : (i : ℕ) → read_times rules b d i (begun d) ≡ o i = λ i. sym (seen_times rules b d i o next ∙ ap (read_times rules b d i) z) in (
      λ i h. (
        subst (λ (x : Outcome). x.answer ≡ Ok (Some i)) (times (i + 1)) (whole.answers i h),
        subst (λ (x : Outcome). NameIs x.kept i (get_or (names_of input) i [])) (times (i + 1)) (whole.keeps i h),
      ),
      subst (λ (x : Outcome). x.answer ≡ Ok None) (times (length (names_of input) + 1)) whole.done,
    )
