-- Demand 2, "given room, reading those gives the same names back": whatever writing accepts, the whole-block read of what it wrote gives again.
use Prim.Native.Nat.{ℕ, suc, ◌+◌, ◌*◌, ◌≤◌, ◌<◌}
use Rattle.std.specs.Prelude.{Some, None, Ok, Err}
use Rattle.refusals.specs.declared.Reason.TheVariants as reason
use mathlib.Core.Path.{◌≡◌, refl, sym, ap, ◌∙◌, subst}
use mathlib.Core.Bool.{true}
use mathlib.Core.List.{List, []}
use native.Mathlib.Omega.{arith}
use native.Mathlib.Nat.{zero-add}
use native.Mathlib.Numerals.{add-one}
use borrow.Author.Tests.{leb-true, le-leb, eq-eqb}
use lib.Dec.{leb, eqb}
use lib.ListN.{length, get_or, take}
use lib.Seq.{take-take}
use Rattle.base.specs.Choice.{pick}
use Rattle.base.specs.Memory.{part}
use Rattle.base.proofs.Choice.{pick_true, pick_false, both_true, by_test}
use Rattle.base.proofs.Holding.{holds_part}
use Rattle.block.specs.declared.State.{State}
use Rattle.refusals.specs.declared.Refusal.{Refusal}
use Rattle.refusals.specs.declared.Refusal.TheVariants.{Plain, At}
use Rattle.block.specs.Block.{Opening, opening, open_of, end_of, sound, starts, state}
use Rattle.block.proofs.Laws.{sound_of, opens_fresh}
use Rattle.kept.proofs.Laws.{fresh_counted}
use Rattle.tables.specs.Tables.{entry_size, Kept, keeping, Table, row_room}
use Rattle.sources.specs.Source.{source}
use Rattle.outcomes.specs.Outcomes.{Outcome, outcome}
use Rattle.reads.specs.Reads.{reads_from}
use Rattle.reading.specs.Blocks.{opened_of, block_of}
use Rattle.laying.specs.Puts.{directory_of, total_of, bytes_of}
use Rattle.inputs.specs.Inputs.{Judged, names_after, names_of, ended, judged_from}
use Rattle.nameputs.specs.NamePuts.{puts_of}
use Rattle.writing.specs.Writes.{WriteAnswer, Writing, writing, countable, laid_of, judged_of, write_of}
use Rattle.roundtrip.specs.Room.{listed, text_wanted, rows_for, rows_wanted}
use Rattle.roundtrip.specs.Back.{Roomy, NameIs, RowsAre, Back, InputBack, read_times, OneByOne}
use Rattle.roundtrip.specs.Layout.{LaidOut}
use Rattle.roundtrip.specs.Accepted.{Accepted, AcceptsInOrder}
use Rattle.roundtrip.specs.Demand.{Begins, BeginsLeft, BeginsCut, ReadsBack, ReadsBackAmply, ReadsOneByOne, Opens, LaysOut, Nothing}
use Rattle.roundtrip.proofs.Reading.{Reached}
use Rattle.roundtrip.proofs.Blocks.{names_at, Whole, reads_back, calls_back, calls_done}
use Rattle.roundtrip.proofs.Spans.{directory_length, start_is, end_is, span_size, ends_within, laid, laid_out, nothing_put}
use Rattle.roundtrip.proofs.Inputs.{all_good, listed_length, listed_back, text_most, rows_most_law}
use Rattle.numbering.specs.Types.{Rules}

-- good names, few enough, and bytes that begin with what they put, written where there was room
module _ (rules : Rules) (names : List (List ℕ)) (fine : judged_from 0 names ≡ None) (few : length names ≤ 65536) (bytes : List ℕ) (room : total_of (puts_of rules names) ≤ length bytes)
    (all : List ℕ) (same : Begins (total_of (puts_of rules names)) (bytes_of (puts_of rules names) bytes) all) where
  abbrev dir : List ℕ
  dir = directory_of (puts_of rules names)

  within : (i : ℕ) → i < 1290 → end_of dir i ≤ length all
  within = ends_within (puts_of rules names) bytes all same room

  sounds : (cur : List ℕ) → length cur ≡ 1290 → sound (length all) dir cur ≡ true
  sounds cur t =
      sound_of (length all) dir cur (directory_length (puts_of rules names)) t
      (λ i h. omega (arith, start_is (puts_of rules names) i h, end_is (puts_of rules names) i h, span_size (puts_of rules names) i))
      within

  -- opening accepts them
  pub opens : (cur : List ℕ) → length cur ≡ 1290 → open_of (length all) dir (length names) cur ≡ opening (Ok (state (length names) 0 0 0)) (starts dir)
  opens cur t = sym (opens_fresh (length all) dir (length names) cur (sounds cur t) few)

  module _ (text table : List ℕ) (rows : Table) where
    -- what is kept when they are opened
    abbrev fresh : Kept
    fresh = keeping (state (length names) 0 0 0) text table rows

    begun : Roomy names fresh → Reached rules all dir (starts dir) fresh [] names
    unfolding puts_of rows_wanted
    begun r =
        record {
          left = laid (puts_of rules names) bytes all same;
          counted = fresh_counted (length names) text table rows few;
          fits = λ i h. absurd (omega arith);
          all = sym (zero-add (length names));
          last = λ h. absurd (omega arith);
          good = all_good names 0 fine;
          texts = omega (arith, r.text);
          entries = omega (arith, r.entries);
          rows = omega (arith, r.rows);
        }

    abbrev result : Outcome
    result = reads_from rules all dir (length names + 1) (outcome (Ok None) (starts dir) fresh)

    reads : Roomy names fresh → Whole fresh [] names result
    reads r = reads_back rules all dir (directory_length (puts_of rules names)) within names (length names + 1) (Ok None) (starts dir) fresh [] (omega arith) (begun r)

    results : Roomy names fresh → Back names result
    unfolding rows_wanted
    results r =
        let w : Whole fresh [] names result = reads r in
        let at : (i : ℕ) → i < length names → NameIs result.kept i (get_or names i []) × RowsAre result.kept i (get_or names i []) =
        λ i h. subst (λ (n : ℕ). NameIs result.kept n (get_or names i []) × RowsAre result.kept n (get_or names i [])) (zero-add i) (names_at result.kept names 0 w.each i h) in
        let used : result.kept.state.text ≡ text_wanted names = ap (λ (x : State). x.text) w.counts ∙ zero-add (text_wanted names) in
        let long : result.kept.state.text ≡ 0 + length (listed names) = used ∙ sym (zero-add (text_wanted names)) ∙ ap (λ (n : ℕ). 0 + n) (sym (listed_length names)) in
        record {
          answer = w.answer;
          count = ap (λ (x : State). x.names) w.counts ∙ zero-add (length names);
          each = λ i h. (at i h).0;
          tokens = λ i h. (at i h).1;
          text = ap (part result.kept.text 0) long ∙ holds_part result.kept.text 0 (listed names) w.text;
          used = used;
          rows = ap (λ (x : State). x.rows) w.counts ∙ zero-add (rows_for 0 [] names);
        }

  -- reading them gives the same names back
  pub names_back : (cur : List ℕ) (m : Kept) → length cur ≡ 1290 → Roomy names m → Back names (block_of (source rules all dir cur) m (length names))
  unfolding block_of opened_of
  names_back cur m t r =
      subst (λ (o : Opening). Back names (opened_of (source rules all dir cur) m (length names) o.cursors o.answer)) (sym (opens cur t))
      (results m.text m.names m.rows (record { text = r.text; entries = r.entries; rows = r.rows }))

  -- and so does reading them one a call, from the cursors and the state that opening leaves
  pub calls_names : (text table : List ℕ) (rows : Table) → Roomy names (keeping (state (length names) 0 0 0) text table rows)
      → OneByOne rules names all dir (outcome (Ok None) (starts dir) (keeping (state (length names) 0 0 0) text table rows))
  calls_names text table rows r =
      let d = directory_length (puts_of rules names) in
      let m : Kept = keeping (state (length names) 0 0 0) text table rows in
      let o : Outcome = outcome (Ok None) (starts dir) m in
      let one : (i : ℕ) → i < length names → ((read_times rules all dir (suc i) o).answer ≡ Ok (Some (0 + i))) × NameIs (read_times rules all dir (suc i) o).kept (0 + i) (get_or names i []) =
      λ i h. calls_back rules all dir d within names i (Ok None) (starts dir) m [] h (begun text table rows r) in
      let last = calls_done rules all dir d within names (Ok None) (starts dir) m [] (begun text table rows r) in
      record {
        answers = λ i h. ap (λ (n : ℕ). (read_times rules all dir n o).answer) (add-one i) ∙ (one i h).0 ∙ ap (λ (k : ℕ). Ok (Some k)) (zero-add i);
        keeps = λ i h. rw add-one (subst (λ (n : ℕ). NameIs (read_times rules all dir (suc i) o).kept n (get_or names i [])) (zero-add i) (one i h).1);
        done = ap (λ (n : ℕ). (read_times rules all dir n o).answer) (add-one (length names)) ∙ last.0;
        count = ap (λ (n : ℕ). (read_times rules all dir n o).kept.state.names) (add-one (length names)) ∙ last.1 ∙ zero-add (length names);
      }

-- room that always suffices: 255 bytes of text, an entry and 127 rows a name
pub roomy_most : (names : List (List ℕ)) (m : Kept) → judged_from 0 names ≡ None → 255 * length names ≤ length m.text → entry_size * length names ≤ length m.names
    → 127 * length names ≤ row_room m.rows → Roomy names m
roomy_most names m fine t e r =
    record { text = omega (arith, text_most names (all_good names 0 fine)); entries = e; rows = omega (arith, rows_most_law names) }

-- What an accepted writing tells

names_said : WriteAnswer → ℕ
names_said (Ok w) = w.names
names_said (Err r) = 0

bytes_said : WriteAnswer → ℕ
bytes_said (Ok w) = w.bytes
bytes_said (Err r) = 0

-- a refusal is no accepted writing
refused_not : {n total : ℕ} (w : Writing) {dir bytes : List ℕ} (r : Refusal) → w ≡ writing (Err r) dir bytes → w.answer ≡ Ok (record { names = n; bytes = total }) → ⊥
refused_not {n} {total} w r e q =
    let z : ◌≡◌ {A = WriteAnswer} (Err r) (Ok (record { names = n; bytes = total })) = sym (ap (λ (x : Writing). x.answer) e) ∙ q in
    cc

module _ (rules : Rules) (input dir bytes : List ℕ) (n total : ℕ) (e : (write_of rules input dir bytes).answer ≡ Ok (record { names = n; bytes = total })) where
  abbrev names : List (List ℕ)
  names = names_of input

  counted : countable input ≡ true → (ended input ≡ true) × (length names ≤ 65536)
  unfolding countable
  counted c = let b = both_true (ended input) (leb (length names) 65536) c in (b.0, leb-true _ _ b.1)

  by_room : countable input ≡ true → judged_from 0 names ≡ None → write_of rules input dir bytes ≡ laid_of rules names dir bytes → Accepted rules input dir bytes n total
  unfolding laid_of names_said bytes_said
  by_room c f w =
      by_test (leb (total_of (puts_of rules names)) (length bytes))
      (λ t.
      let q : write_of rules input dir bytes ≡ writing (Ok (record { names = length names; bytes = total_of (puts_of rules names) })) (directory_of (puts_of rules names)) (bytes_of (puts_of rules names) bytes) = w ∙ pick_true _ _ t in
      let z : ◌≡◌ {A = WriteAnswer} (Ok (record { names = length names; bytes = total_of (puts_of rules names) })) (Ok (record { names = n; bytes = total })) = sym (ap (λ (x : Writing). x.answer) q) ∙ e in
      record {
        ends = (counted c).0;
        few = (counted c).1;
        fine = f;
        room = leb-true _ _ t;
        names = sym (ap names_said z);
        sum = sym (ap bytes_said z);
        is = q ∙ ap (λ (x : WriteAnswer). writing x (directory_of (puts_of rules names)) (bytes_of (puts_of rules names) bytes)) z;
      })
      (λ t. absurd (refused_not (write_of rules input dir bytes) (Plain reason.NoRoom) (w ∙ pick_false _ _ t) e))

  by_judgement : countable input ≡ true → (j : Judged) → judged_from 0 names ≡ j → write_of rules input dir bytes ≡ judged_of rules j names dir bytes → Accepted rules input dir bytes n total
  unfolding judged_of
  by_judgement c None f w = by_room c f w
  by_judgement c (Some k) f w = absurd (refused_not (write_of rules input dir bytes) (At reason.BadName k) w e)

  pub accepted : Accepted rules input dir bytes n total
  unfolding write_of
  accepted =
      by_test (eqb (length dir) 2580)
      (λ a.
      by_test (countable input)
      (λ c. by_judgement c (judged_from 0 names) refl (pick_true _ _ a ∙ pick_true _ _ c))
      (λ c. absurd (refused_not (write_of rules input dir bytes) (Plain reason.BadCount) (pick_true _ _ a ∙ pick_false _ _ c) e)))
      (λ a. absurd (refused_not (write_of rules input dir bytes) (Plain reason.Unsound) (pick_false _ _ a) e))

  -- what was written is laid out span after span
  pub written_laid : LaidOut (puts_of rules names) (write_of rules input dir bytes).directory (write_of rules input dir bytes).bytes bytes total
  written_laid = rw (accepted.is, accepted.sum) (laid_out (puts_of rules names) bytes)

  -- bytes that begin with what was written
  module _ (b : List ℕ) (same : Begins total (write_of rules input dir bytes).bytes b) where
    begins : Begins (total_of (puts_of rules names)) (bytes_of (puts_of rules names) bytes) b
    begins = subst (λ (t : ℕ). Begins t (bytes_of (puts_of rules names) bytes) b) accepted.sum (same ∙ ap (λ (w : Writing). take total w.bytes) accepted.is)

    -- opening them, with any cursor table
    pub written_opens : (cur : List ℕ) → length cur ≡ 1290
        → open_of (length b) (write_of rules input dir bytes).directory n cur ≡ opening (Ok (state n 0 0 0)) (starts (write_of rules input dir bytes).directory)
    written_opens cur t = rw (accepted.is, accepted.names) (opens rules names accepted.fine accepted.few bytes accepted.room b begins cur t)

    -- reading them, with room for the names, gives the names back
    pub written_back : (cur : List ℕ) (m : Kept) → length cur ≡ 1290 → Roomy names m
        → InputBack input (block_of (source rules b (write_of rules input dir bytes).directory cur) m n)
    written_back cur m t r =
        let k : Back names (block_of (source rules b (directory_of (puts_of rules names)) cur) m (length names)) =
        names_back rules names accepted.fine accepted.few bytes accepted.room b begins cur m t r in
        rw (accepted.is, accepted.names)
        (record {
          names = k;
          text = k.text ∙ listed_back input accepted.ends;
          used = k.used ∙ sym (listed_length names) ∙ ap length (listed_back input accepted.ends);
        })

    -- 255 bytes of text, an entry and 127 rows a name are always enough
    pub written_back_most : (cur : List ℕ) (m : Kept) → length cur ≡ 1290 → 255 * n ≤ length m.text → entry_size * n ≤ length m.names → 127 * n ≤ row_room m.rows
        → InputBack input (block_of (source rules b (write_of rules input dir bytes).directory cur) m n)
    written_back_most cur m t x y z =
        let q : n ≡ length names = accepted.names in
        written_back cur m t (roomy_most names m accepted.fine (omega arith) (omega arith) (omega arith))

    -- and one name a call
    pub written_calls : (text table : List ℕ) (rows : Table) → Roomy names (keeping (state n 0 0 0) text table rows)
        → OneByOne rules names b (write_of rules input dir bytes).directory
        (outcome (Ok None) (starts (write_of rules input dir bytes).directory) (keeping (state n 0 0 0) text table rows))
    written_calls text table rows r =
        rw (accepted.is, accepted.names)
        (calls_names rules names accepted.fine accepted.few bytes accepted.room b begins text table rows (record { text = r.text; entries = r.entries; rows = r.rows }))

pub accepts : AcceptsInOrder
unfolding write_of judged_of laid_of
accepts rules input dir bytes d c f r =
    ap (λ (w : Writing). w.answer)
    (pick_true _ _ (eq-eqb _ _ d) ∙ pick_true _ _ c ∙ ap (λ (j : Judged). judged_of rules j (names_of input) dir bytes) f ∙ pick_true _ _ (le-leb _ _ r))

-- The demand

pub reads_back_written : ReadsBack
reads_back_written rules input dir bytes n total e b s cur m t r = written_back rules input dir bytes n total e b s cur m t r

pub reads_back_amply : ReadsBackAmply
reads_back_amply rules input dir bytes n total e b s cur m t x y z = written_back_most rules input dir bytes n total e b s cur m t x y z

pub reads_one_by_one : ReadsOneByOne
reads_one_by_one rules input dir bytes n total e b s text table rows r = written_calls rules input dir bytes n total e b s text table rows r

pub opens_written : Opens
opens_written rules input dir bytes n total e b s cur t = written_opens rules input dir bytes n total e b s cur t

pub begins_left : BeginsLeft
begins_left total all = refl

pub begins_cut : BeginsCut
begins_cut total all = take-take total total all (omega arith)

pub lays_out : LaysOut
lays_out rules input dir bytes n total e = written_laid rules input dir bytes n total e

pub writes_nothing : Nothing
unfolding names_of names_after ended judged_from countable pick
writes_nothing rules dir bytes d =
    accepts rules [] dir bytes d refl refl (omega (arith, nothing_put rules)) ∙ ap (λ (b : ℕ). Ok (record { names = 0; bytes = b })) (nothing_put rules)
