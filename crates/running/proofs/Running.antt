-- A run of MATCHes repeated in one go is what its tokens, one by one, make of a name.
use Prim.Native.Nat.{ℕ, suc, ◌+◌, ◌-◌, ◌*◌, ◌^◌, ◌≤◌, ◌<◌}
use Rattle.names.specs.Names.{Judged, Draft, Named, named, type_at, name_from}
use Rattle.running.specs.Running.{Ran, Reaches, on_at, run_of, run_put}
use Rattle.std.specs.Prelude.{Ok, Err}
use Rattle.refusals.specs.declared.Reason.{Reason}
use Rattle.refusals.specs.declared.Reason.TheVariants as reason
use mathlib.Core.Path.{◌≡◌, refl, sym, ap, ◌∙◌, subst}
use mathlib.Core.Bool.{true, false}
use mathlib.Core.List.{List}
use mathlib.Core.Logic.{◌⊎◌, inl, inr}
use native.Mathlib.Omega.{arith}
use borrow.Author.Tests.{lt-ltb}
use lib.Dec.{ltb}
use lib.ListN.{length, take, length-append}
use Rattle.base.specs.Memory.{part, written}
use Rattle.base.proofs.Choice.{pick_true, pick_false, both_of, both_left}
use Rattle.base.proofs.Memory.{length_part, written_next}
use Rattle.base.proofs.Numbers.{by_order}
use Rattle.base.specs.Every.{Below}
use Rattle.spans.specs.declared.Position.{Position}
use Rattle.block.specs.Block.{span_of, cursor_of}
use Rattle.numbering.specs.Types.{Rules}
use Rattle.base.proofs.Below.{take_written}
use Rattle.tables.specs.Tables.{Table, row_room, row_at, put_rows}
use Rattle.kept.specs.Inside.{RowInside}
use Rattle.sources.specs.Source.{Source, source, Earlier, earlier}
use Rattle.repeats.specs.Sound.{Rows}
use Rattle.steps.proofs.Laws.{Known}
use Rattle.names.specs.Judge.{summary, draft_of}
use Rattle.names.specs.Keeps.{Memory, memory, Roomy}
use Rattle.repeating.specs.Repeats.{RowsSpelt}
use Rattle.runs.specs.Runs.{is_match, run_end, text_start, text_length}
use Rattle.repeating.specs.Repeating.{moved_rows, types_past}
use Rattle.names.proofs.Growing.{grows, name_same}
use Rattle.names.proofs.Judgement.{judge_from, judge_from_law}
use Rattle.names.proofs.Behind.{Stays, stays}
use Rattle.names.proofs.Turns.{Going}
use Rattle.repeating.proofs.Repeating.{text_size, size_ends, length_size}
use Rattle.runs.proofs.Matches.{run_matches}
use Rattle.running.proofs.Runs.{run_few, run_spelt, ran_none, ran_on_law, ran_long, puts_none}
use Rattle.running.proofs.OneByOne.{judge_run, judge_long, ran_on, name_run, length_moved, types_later, types_open}
use Rattle.repeating.proofs.Spelling.{rows_spelt_same}
use Rattle.tables.proofs.Rows.{SameRows, RowsBelow, below_put, put_next}

never_on : {n : Reason} {q l : ℕ} → Err n ≡ on_at q l → ⊥
never_on h = cc

same_on : {p len q l : ℕ} → on_at p len ≡ on_at q l → (q ≡ p) × (l ≡ len)
same_on {p} {len} {q} {l} h =
    let w : ◌≡◌ {A = Position × ℕ} (record { 0 = q }, l) (record { 0 = p }, len) = cc in
    (ap (λ (x : Position × ℕ). x.0.0) w, ap (λ (x : Position × ℕ). x.1) w)

-- a run that came to something
record Some (s : Source) (e : Earlier) (end p len q l : ℕ) : Type 0 where
  pub is : q ≡ run_end s p (end - p)
  pub some : p < q
  pub wide : l ≡ len + text_length e.rows (e.first + (p - 1)) (e.first + (q - 1))
  pub short : l ≤ 254

module _ (s : Source) (e : Earlier) (end p len : ℕ) where
  some_on : (t l q : ℕ) → t ≡ run_end s p (end - p) → p < t → l ≡ len + text_length e.rows (e.first + (p - 1)) (e.first + (t - 1)) → l ≤ 254 → q ≡ t → Some s e end p len q l
  some_on t l q is some wide short same = rw same (record { is = is; some = some; wide = wide; short = short })

  ways : (q l : ℕ) → run_of s e end p len ≡ on_at q l → ((q ≡ p) × (l ≡ len)) ⊎ Some s e end p len q l
  ways q l h =
      let t = run_end s p (end - p) in
      let w = text_length e.rows (e.first + (p - 1)) (e.first + (t - 1)) in
      by_order p t
      (λ some.
      by_order 254 (len + w)
      (λ z. absurd (never_on (ran_long s e end p t len refl w refl some z ∙ h)))
      (λ z. let o = same_on (ran_on_law s e end p t len refl w refl some z ∙ h) in inr (some_on t l q refl some o.1 (omega arith) o.0)))
      (λ none. inl (same_on (ran_none s e end p t len refl none ∙ h)))

-- the rows of a run
module _ (s : Source) (e : Earlier) (used end p q : ℕ) (k : Rows used e) (r : Reaches end e) (low : 1 ≤ p) (is : q ≡ run_end s p (end - p)) (some : p < q) where
  sized : text_length e.rows (e.first + (p - 1)) (e.first + (q - 1)) ≡ text_size e.rows (e.first + (p - 1)) (suc (q - p - 1))
  sized =
      let f = (run_few s e used end p q k r low is some).0 in
      length_size e.rows e.first (e.first + e.count) (run_spelt s e used end p q k r low is some).laid (e.first + (p - 1)) (e.first + (q - 1)) (q - p - 1)
      (omega arith) (omega arith) (omega arith)

  matches : (j : ℕ) → p ≤ j → j < p + suc (q - p - 1) → is_match (type_at s j) ≡ true
  matches j h l = run_matches s (end - p) p j h (omega arith)

-- judged
module _ (s : Source) (e : Earlier) (used end p len : ℕ) (all : Judged) (k : Rows used e) (r : Reaches end e) (low : 1 ≤ p) (high : p ≤ 128) (short : len ≤ 254)
    (inv : judge_from s e (129 - p) p len (p - 1) ≡ all) where
  judges : (q l : ℕ) → ((q ≡ p) × (l ≡ len)) ⊎ Some s e end p len q l → (p ≤ q) × ((q ≤ 128) × ((l ≤ 254) × (judge_from s e (129 - q) q l (q - 1) ≡ all)))
  judges q l (inl w) =
      let a : q ≡ p = w.0 in
      let b : l ≡ len = w.1 in
      (omega arith, (omega arith, (omega arith, rw (a, b) inv)))
  judges q l (inr w) =
      let some = w.some in
      let f = run_few s e used end p q k r low w.is some in (
        omega arith,
        (
          f.1,
          (
            w.short,
            judge_run s e used k (run_spelt s e used end p q k r low w.is some) (suc (q - p - 1)) p (e.first + (p - 1)) (129 - p) (129 - q) len (p - 1) q l (q - 1) all refl low
                (omega (arith, f.0)) (matches s e used end p q k r low w.is some) (omega (arith, f.1)) (omega arith)
                (w.wide ∙ ap (λ (x : ℕ). len + x) (sized s e used end p q k r low w.is some)) (omega arith) w.short inv,
          ),
        ),
      )

  pub run_judges : (q l : ℕ) → run_of s e end p len ≡ on_at q l → (p ≤ q) × ((q ≤ 128) × ((l ≤ 254) × (judge_from s e (129 - q) q l (q - 1) ≡ all)))
  run_judges q l h = judges q l (ways s e end p len q l h)

  pub run_spoils : {n : Reason} → run_of s e end p len ≡ Err n → Err n ≡ all
  run_spoils {n} h =
      let t = run_end s p (end - p) in
      let w = text_length e.rows (e.first + (p - 1)) (e.first + (t - 1)) in
      by_order p t
      (λ some.
      by_order 254 (len + w)
      (λ z.
      let f = run_few s e used end p t k r low refl some in
      let long = ran_long s e end p t len refl w refl some z ∙ h in
      let is : n ≡ reason.BadName = cc in
      rw is (judge_long s e used k (run_spelt s e used end p t k r low refl some) (suc (t - p - 1)) p (e.first + (p - 1)) (129 - p) (129 - t) len (p - 1) all refl low
      (omega (arith, f.0)) (matches s e used end p t k r low refl some) (omega (arith, f.1)) short
      (omega (arith, z, sized s e used end p t k r low refl some)) inv))
      (λ z. absurd (never_on (sym (ran_on_law s e end p t len refl w refl some z ∙ h)))))
      (λ none. absurd (never_on (sym (ran_none s e end p t len refl none ∙ h))))

-- where a name is only judged, a run leaves the memory
pub run_leaves : (e : Earlier) (used row p len : ℕ) (r : Ran) (m : Memory) → run_put false e used row p len r m ≡ m
unfolding run_put
run_leaves e used row p len (Ok (q, l)) m = pick_false _ m (both_left (ltb p q.0) refl)
run_leaves e used row p len (Err n) m = refl

-- what the earlier name's rows tell stays so while a name is kept behind them
pub going_reaches : (rules : Rules) (bytes dir text₀ : List ℕ) (rows₀ : Table) (first count used row : ℕ) (n : Named) (room : Roomy n (first + count) used row text₀ rows₀)
    (cur text : List ℕ) (rows : Table) (p at : ℕ) → Going rules bytes dir text₀ rows₀ first count used row (draft_of n) cur text rows p at
    → (end : ℕ) → Reaches end (earlier text₀ rows₀ first count) → Reaches end (earlier text rows first count)
going_reaches rules bytes dir text₀ rows₀ first count used row n room cur text rows p at g end r = (
  λ h.
      let alike : SameRows rows₀ rows (first + count) =
      λ j l. sym (ap (λ (x : Table). row_at x j) g.table ∙ below_put rows₀ row g.d.rows (first + count) room.behind (omega (arith, room.table)) j l) in
      rows_spelt_same text₀ text rows₀ rows first count used
      (λ j a b. subst (RowInside used) (sym (alike j b)) (g.known.each j a b))
      (sym (ap (take used) g.texts ∙ take_written text₀ used g.d.text used (omega arith) (omega (arith, room.bytes))))
      alike
      (r.0 h),
  r.1,
)

-- kept
module _ (rules : Rules) (bytes dir text₀ : List ℕ) (rows₀ : Table) (first count used row : ℕ) (n : Named) (room : Roomy n (first + count) used row text₀ rows₀)
    (bytes_below : Below 256 bytes) (dir_below : Below (2 ^ 32) dir)
    (cur text : List ℕ) (rows : Table) (p len : ℕ) (g : Going rules bytes dir text₀ rows₀ first count used row (draft_of n) cur text rows p (used + len))
    (end : ℕ) (r : Reaches end (earlier text rows first count)) where
  judges_whole : judge_from (source rules bytes dir cur) (earlier text rows first count) (129 - p) p len (p - 1) ≡ summary (named (draft_of n))
  judges_whole =
      let a : len ≡ length g.d.text = omega (arith, g.place) in
      let b : p - 1 ≡ g.d.count = omega (arith, g.counted) in
      rw (a, b) (sym (judge_from_law (source rules bytes dir cur) (earlier text rows first count) used (129 - p) p g.d) ∙ ap summary g.goes)

  pub never_long : {n : Reason} → run_of (source rules bytes dir cur) (earlier text rows first count) end p len ≡ Err n → ⊥
  unfolding summary
  never_long h =
      let w : len ≤ 254 = omega (arith, g.place, g.short) in
      let x = run_spoils (source rules bytes dir cur) (earlier text rows first count) used end p len (summary (named (draft_of n))) g.known r g.low g.high w judges_whole h in
      cc

  -- a run that came to something
  module _ (q l : ℕ) (w : Some (source rules bytes dir cur) (earlier text rows first count) end p len q l) where
    few : (q ≤ count + 1) × (q ≤ 128)
    few = run_few (source rules bytes dir cur) (earlier text rows first count) used end p q g.known r g.low w.is w.some

    spelt : RowsSpelt (earlier text rows first count)
    spelt = run_spelt (source rules bytes dir cur) (earlier text rows first count) used end p q g.known r g.low w.is w.some

    matched : (j : ℕ) → p ≤ j → j < p + suc (q - p - 1) → is_match (type_at (source rules bytes dir cur) j) ≡ true
    matched = matches (source rules bytes dir cur) (earlier text rows first count) used end p q g.known r g.low w.is w.some

    after : Draft
    after = ran_on (earlier text rows first count) used (first + (p - 1)) p (suc (q - p - 1)) g.d

    ran_goes : name_from (source rules bytes dir cur) (earlier text rows first count) used (129 - q) q after ≡ named (draft_of n)
    unfolding after
    ran_goes =
        let some = w.some in
        name_run (source rules bytes dir cur) (earlier text rows first count) used g.known spelt (suc (q - p - 1)) p (first + (p - 1)) (129 - p) (129 - q) q g.d (draft_of n)
        refl g.low (omega (arith, few.0)) matched (omega (arith, few.1)) (omega arith) g.goes

    wide_is : l ≡ len + text_size rows (first + (p - 1)) (suc (q - p - 1))
    wide_is =
        w.wide ∙ ap (λ (x : ℕ). len + x) (sized (source rules bytes dir cur) (earlier text rows first count) used end p q g.known r g.low w.is w.some)

    abbrev start : ℕ
    start = (row_at rows (first + (p - 1))).start

    -- the bytes that the run repeats
    abbrev again : List ℕ
    again = part text start (start + text_size rows (first + (p - 1)) (suc (q - p - 1)))

    again_ends : start + text_size rows (first + (p - 1)) (suc (q - p - 1)) ≤ used
    again_ends =
        let some = w.some in
        let f = few.0 in
        let low = g.low in
        omega (arith, size_ends rows first (first + count) spelt.laid (q - p - 1) (first + (p - 1)) (omega arith) (omega arith), (g.known.each (first + (p - 1) + (q - p - 1)) (omega arith) (omega arith)).ends)

    length_again : length again ≡ text_size rows (first + (p - 1)) (suc (q - p - 1))
    length_again =
        omega (arith, length_part text start (start + text_size rows (first + (p - 1)) (suc (q - p - 1))) (omega arith) (omega (arith, again_ends, g.known.room)))

    after_text : length after.text ≡ l
    unfolding after ran_on
    after_text = omega (arith, length-append g.d.text again, length_again, wide_is, g.place)

    after_count : after.count ≡ q - 1
    unfolding after ran_on
    after_count = let some = w.some in omega (arith, g.counted)

    after_rows : length after.rows ≡ after.count
    unfolding after ran_on
    after_rows =
        omega (arith, length-append g.d.rows (moved_rows rows (first + (p - 1)) (suc (q - p - 1)) (used + length g.d.text)), length_moved rows (suc (q - p - 1)) (first + (p - 1)) (used + length g.d.text), g.whole)

    some_room : (used + l ≤ length text) × (row + (q - 1) ≤ row_room rows)
    some_room =
        let z = grows (source rules bytes dir cur) (earlier text rows first count) used (129 - q) q after (draft_of n) ran_goes in (
          omega (arith, z.longer, after_text, room.bytes, g.length_text),
          omega (arith, z.more, after_count, room.table, g.room_rows),
        )

    module _ (text' : List ℕ) (rows' : Table) (cur' : List ℕ) (m : memory text' rows' cur' ≡ run_put true (earlier text rows first count) used row p len (on_at q l) (memory text rows cur)) where
      put_is : memory text' rows' cur' ≡ memory (written text (used + len) again)
          (put_rows rows (row + (p - 1)) (moved_rows rows (first + (p - 1)) (suc (q - p - 1)) (used + len)))
          (types_past cur p (suc (q - p - 1)))
      unfolding run_put text_start
      put_is =
          let some = w.some in
          let a : l - len ≡ text_size rows (first + (p - 1)) (suc (q - p - 1)) = omega (arith, wide_is) in
          let b : q - p ≡ suc (q - p - 1) = omega arith in
          m ∙ pick_true _ (memory text rows cur) (both_of refl (lt-ltb p q some))
          ∙ ap (λ (x : ℕ). memory (written text (used + len) (part text start (start + x)))
          (put_rows rows (row + (p - 1)) (moved_rows rows (first + (p - 1)) (q - p) (used + len))) (types_past cur p (q - p))) a
          ∙ ap (λ (x : ℕ). memory (written text (used + len) again)
          (put_rows rows (row + (p - 1)) (moved_rows rows (first + (p - 1)) x (used + len))) (types_past cur p x)) b

      text_is : text' ≡ written text (used + len) again
      text_is = ap (λ (x : Memory). x.text) put_is

      rows_is : rows' ≡ put_rows rows (row + (p - 1)) (moved_rows rows (first + (p - 1)) (suc (q - p - 1)) (used + len))
      rows_is = ap (λ (x : Memory). x.rows) put_is

      cur_is : cur' ≡ types_past cur p (suc (q - p - 1))
      cur_is = ap (λ (x : Memory). x.cur) put_is

      -- there is room for what the run puts down
      text_room : used + len + length again ≤ length text
      text_room = omega (arith, some_room.0, wide_is, length_again)

      rows_room : row + (p - 1) + length (moved_rows rows (first + (p - 1)) (suc (q - p - 1)) (used + len)) ≤ row_room rows
      rows_room =
          let some = w.some in
          omega (arith, some_room.1, g.low, length_moved rows (suc (q - p - 1)) (first + (p - 1)) (used + len))

      span_later : (j i : ℕ) → q ≤ j → i ≤ 9 → cursor_of cur (span_of j i) ≡ cursor_of cur' (span_of j i)
      unfolding span_of
      span_later j i h z =
          let some = w.some in
          sym (ap (λ (x : List ℕ). cursor_of x (10 * j + i)) cur_is ∙ types_later (suc (q - p - 1)) cur p (10 * j + i) (omega arith))

      low_after : 1 ≤ q
      low_after = omega (arith, g.low, w.some)

      known_at : (j : ℕ) → q ≤ j → j ≤ 128 → Known (source rules bytes dir cur) (earlier text rows first count) used j
      known_at j h z =
          record { opened = g.opened; rows = g.known; first = omega (arith, low_after); last = z; bytes = bytes_below; texts = g.below_text; numbers = g.below_rows }

      behind : Stays rules bytes dir cur cur' text text' rows rows' first count used q
      behind =
          stays rules bytes dir cur cur' text text' rows rows' first count used q (used + len) (row + (p - 1)) again (moved_rows rows (first + (p - 1)) (suc (q - p - 1)) (used + len)) text_is rows_is
          (omega arith) (omega (arith, room.behind)) text_room rows_room
          g.known known_at span_later

      text_after : text' ≡ written text₀ used after.text
      unfolding after ran_on
      text_after =
          text_is ∙ ap (λ (x : ℕ). written text x again) g.place
          ∙ ap (λ (x : List ℕ). written x (used + length g.d.text) again) g.texts
          ∙ written_next text₀ used g.d.text again (omega (arith, text_room, g.place, g.length_text))

      rows_after : rows' ≡ put_rows rows₀ row after.rows
      unfolding after ran_on
      rows_after =
          let moved = moved_rows rows (first + (p - 1)) (suc (q - p - 1)) (used + length g.d.text) in
          let at_row : row + (p - 1) ≡ row + length g.d.rows = omega (arith, g.whole, g.counted) in
          rows_is ∙ ap (λ (x : ℕ). put_rows rows (row + (p - 1)) (moved_rows rows (first + (p - 1)) (suc (q - p - 1)) x)) g.place
          ∙ ap (λ (x : ℕ). put_rows rows x moved) at_row
          ∙ ap (λ (x : Table). put_rows x (row + length g.d.rows) moved) g.table
          ∙ put_next rows₀ row g.d.rows moved (omega (arith, rows_room, g.whole, g.counted, g.room_rows))

      cur_after : cur' ≡ after.cur
      unfolding after ran_on
      cur_after = cur_is ∙ ap (λ (x : List ℕ). types_past x p (suc (q - p - 1))) g.cursors

      some_keeps : Below 256 text' → RowsBelow (2 ^ 32) rows' → Going rules bytes dir text₀ rows₀ first count used row (draft_of n) cur' text' rows' q (used + l)
      some_keeps bt br =
          record {
            d = after;
            low = low_after;
            high = few.1;
            texts = text_after;
            table = rows_after;
            cursors = cur_after;
            place = omega (arith, after_text);
            short = omega (arith, after_text, w.short);
            counted = omega (arith, after_count, low_after);
            whole = after_rows;
            opened = rw cur_is (types_open rules (suc (q - p - 1)) bytes dir cur p (omega (arith, few.1, w.some)) g.opened matched);
            known = behind.known;
            goes =
                name_same (source rules bytes dir cur) (source rules bytes dir cur') (earlier text rows first count) (earlier text' rows' first count) used
                (129 - q) q after (omega (arith, few.1)) behind.alike
                ∙ ran_goes;
            length_text = behind.length_text ∙ g.length_text;
            room_rows = behind.room_rows ∙ g.room_rows;
            below_text = bt;
            below_rows = br;
          }

  none_room : (used + len ≤ length text) × (row + (p - 1) ≤ row_room rows)
  none_room =
      let z = grows (source rules bytes dir cur) (earlier text rows first count) used (129 - p) p g.d (draft_of n) g.goes in (
        omega (arith, z.longer, g.place, room.bytes, g.length_text),
        omega (arith, z.more, g.counted, room.table, g.room_rows),
      )

  room_of_law : (q l : ℕ) → ((q ≡ p) × (l ≡ len)) ⊎ Some (source rules bytes dir cur) (earlier text rows first count) end p len q l
      → (used + l ≤ length text) × (row + (q - 1) ≤ row_room rows)
  room_of_law q l (inl w) = rw (w.0, w.1) none_room
  room_of_law q l (inr w) = some_room q l w

  pub run_room : (q l : ℕ) → run_of (source rules bytes dir cur) (earlier text rows first count) end p len ≡ on_at q l
      → (used + l ≤ length text) × (row + (q - 1) ≤ row_room rows)
  run_room q l h = room_of_law q l (ways (source rules bytes dir cur) (earlier text rows first count) end p len q l h)

  module _ (q l : ℕ) (text' : List ℕ) (rows' : Table) (cur' : List ℕ) (m : memory text' rows' cur' ≡ run_put true (earlier text rows first count) used row p len (on_at q l) (memory text rows cur))
      (bt : Below 256 text') (br : RowsBelow (2 ^ 32) rows') where
    none_keeps : q ≡ p → l ≡ len → Going rules bytes dir text₀ rows₀ first count used row (draft_of n) cur' text' rows' q (used + l)
    none_keeps a b =
        let x = m ∙ sym (puts_none (earlier text rows first count) used row p len (memory text rows cur) true q l (omega arith)) in
        let t : text' ≡ text = ap (λ (z : Memory). z.text) x in
        let y : rows' ≡ rows = ap (λ (z : Memory). z.rows) x in
        let c : cur' ≡ cur = ap (λ (z : Memory). z.cur) x in
        rw (a, b, t, y, c) g

    keeps : ((q ≡ p) × (l ≡ len)) ⊎ Some (source rules bytes dir cur) (earlier text rows first count) end p len q l
        → Going rules bytes dir text₀ rows₀ first count used row (draft_of n) cur' text' rows' q (used + l)
    keeps (inl w) = none_keeps w.0 w.1
    keeps (inr w) = some_keeps q l w text' rows' cur' m bt br

  pub run_keeps : (q l : ℕ) (text' : List ℕ) (rows' : Table) (cur' : List ℕ) → run_of (source rules bytes dir cur) (earlier text rows first count) end p len ≡ on_at q l
      → memory text' rows' cur' ≡ run_put true (earlier text rows first count) used row p len (on_at q l) (memory text rows cur)
      → Below 256 text' → RowsBelow (2 ^ 32) rows'
      → Going rules bytes dir text₀ rows₀ first count used row (draft_of n) cur' text' rows' q (used + l)
  run_keeps q l text' rows' cur' h m bt br = keeps q l text' rows' cur' m bt br (ways (source rules bytes dir cur) (earlier text rows first count) end p len q l h)
