-- One read of written streams: it keeps the next name, and the streams are left as the names after it put them.
use Prim.Native.Nat.{ℕ, suc, ◌+◌, ◌-◌, ◌*◌, ◌≤◌, ◌<◌}
use Rattle.distances.specs.Distances.{Head}
use Rattle.std.specs.Prelude.{Some, None, Ok}
use Rattle.distances.specs.declared.Reference.TheVariants as reference
use mathlib.Core.Path.{◌≡◌, refl, sym, ap, ◌∙◌, subst}
use mathlib.Core.Bool.{true, false}
use mathlib.Core.List.{List, [], ◌∷◌, ◌++◌}
use native.Mathlib.Omega.{arith}
use borrow.Author.Tests.{eqb-false, eq-eqb, ne_eqb}
use lib.ListN.{length}
use Rattle.base.specs.Choice.{pick}
use Rattle.base.specs.Memory.{part}
use Rattle.comparing.specs.Same.{same}
use Rattle.base.proofs.Choice.{pick_true, pick_false, by_test}
use Rattle.comparing.proofs.Equal.{same_equal}
use Rattle.base.proofs.Every.{every_none}
use Rattle.base.proofs.Holding.{Holds, holds_none}
use Rattle.classes.specs.Classes.{is_allowed, all_allowed}
use Rattle.spans.specs.Spans.{four_bytes}
use Rattle.block.specs.Block.{state, span_of, end_of}
use Rattle.block.specs.Open.{Open}
use Rattle.block.proofs.Laws.{each_at_end}
use Rattle.block.specs.Streams.{type_stream, dup_stream, diff_stream}
use Rattle.tables.specs.declared.Entry.{Entry}
use Rattle.tables.specs.Tables.{entry_size, Kept, entry_at, Table, row_room}
use Rattle.kept.proofs.Later.{Later}
use Rattle.kept.specs.Judgement.{counts}
use Rattle.kept.specs.Inside.{Counted}
use Rattle.numbering.specs.Types.{Rules}
use Rattle.sources.specs.Source.{Source, source, Earlier, earlier}
use Rattle.names.specs.Names.{Draft, draft, name_of}
use Rattle.earlier.specs.Fits.{AllFit}
use Rattle.outcomes.specs.Outcomes.{outcome}
use Rattle.heads.specs.Heads.{head_of, head_past}
use Rattle.outcomes.specs.Keeping.{keep_of}
use Rattle.copying.specs.Copies.{dup_of}
use Rattle.naming.specs.Naming.{named_of, diff_of}
use Rattle.earlier.specs.Back.{rows_of, none, entry_back}
use Rattle.inner.specs.Next.{headed_of, next_of}
use Rattle.reads.specs.Reads.{read_of}
use Rattle.heads.proofs.Heads.{head_same}
use Rattle.reads.proofs.Holding.{next_holds, read_next}
use Rattle.distances.specs.declared.Reference.TheVariants.{Dup, Diff}
use Rattle.references.specs.References.{anew, reference_of, leans_on}
use Rattle.choices.specs.Choices.{choices_of}
use Rattle.laying.specs.Puts.{Put, put}
use Rattle.tokenputs.specs.TokenPuts.{token_puts}
use Rattle.nameputs.specs.NamePuts.{head_puts, reference_puts, name_puts, puts_from}
use Rattle.roundtrip.specs.Rows.{split_rows, tokens_in}
use Rattle.roundtrip.specs.Room.{text_wanted, rows_added, rows_for}
use Rattle.roundtrip.proofs.Eating.{Left, left_open, left_none}
use Rattle.roundtrip.proofs.Pieces.{rows_out, count_out}
use Rattle.roundtrip.proofs.Heading.{head_past_law, dup_head_law, diff_head_law}
use Rattle.roundtrip.proofs.Spelling.{Good, RowsOf, Spelt, name_back_law, length_split}
use Rattle.roundtrip.proofs.Keeping.{EntryIs, entry_text_law, after, kept_back, after_text, after_is, after_stays, after_texts, after_names, after_rows, rows_new, rows_old}
use Rattle.tables.proofs.Rows.{hold_none}

-- each of the names is one that SAM allows
unfoldable pub AllGood : List (List ℕ) → Type 0
AllGood [] = Unit
AllGood (s ∷ ss) = Good s × AllGood ss

-- so far read: the last name kept is `before`, the streams hold what the names `coming` put, and there is room for them
pub record Reached (rules : Rules) (bytes dir cur : List ℕ) (m : Kept) (before : List ℕ) (coming : List (List ℕ)) : Type 0 where
  pub left : Left bytes dir cur (puts_from rules m.state.names before coming)
  pub counted : Counted m
  pub fits : AllFit m
  pub all : m.state.count ≡ m.state.names + length coming
  pub last : 1 ≤ m.state.names → Good before × EntryIs m (m.state.names - 1) before
  pub good : AllGood coming
  pub texts : m.state.text + text_wanted coming ≤ length m.text
  pub entries : entry_size * (m.state.names + length coming) ≤ length m.names
  pub rows : m.state.rows + rows_for m.state.names before coming ≤ row_room m.rows

-- a read that kept the name s
pub record ReadBack (rules : Rules) (bytes dir cur : List ℕ) (m : Kept) (before s : List ℕ) (ss : List (List ℕ)) : Type 0 where
  pub now : List ℕ
  pub next : Kept
  pub is : read_of (source rules bytes dir cur) m ≡ outcome (Ok (Some m.state.names)) now next
  pub reached : Reached rules bytes dir now next s ss
  pub stays : Later m next
  pub entry : EntryIs next m.state.names s
  pub text : Holds next.text m.state.text (s ++ 10 ∷ [])
  pub counts : next.state ≡ state m.state.count (m.state.names + 1) (m.state.text + (length s + 1)) (m.state.rows + rows_added m.state.names before s)

-- The reference of a name, case by case

module _ (rules : Rules) (n : ℕ) (before s : List ℕ) where
  puts_first : anew n ≡ true → name_puts rules n before s ≡ reference_puts rules [] s (Diff (record { 0 = 0 }))
  unfolding name_puts reference_of leans_on pick
  puts_first a = rw a

  puts_dup : anew n ≡ false → same before s ≡ true → name_puts rules n before s ≡ reference_puts rules before s (Dup (record { 0 = 1 }))
  unfolding name_puts reference_of leans_on pick
  puts_dup a e = rw (a, e)

  puts_diff : anew n ≡ false → same before s ≡ false → name_puts rules n before s ≡ reference_puts rules before s (Diff (record { 0 = 1 }))
  unfolding name_puts reference_of leans_on pick
  puts_diff a e = rw (a, e)

  added_first : anew n ≡ true → rows_added n before s ≡ tokens_in s
  unfolding rows_added
  added_first a = pick_true _ _ a

  added_dup : anew n ≡ false → same before s ≡ true → rows_added n before s ≡ 0
  unfolding rows_added
  added_dup a e = pick_false _ _ a ∙ pick_true _ _ e

  added_diff : anew n ≡ false → same before s ≡ false → rows_added n before s ≡ tokens_in s
  unfolding rows_added
  added_diff a e = pick_false _ _ a ∙ pick_false _ _ e

-- no earlier name: no rows, those of the empty split
rows_nothing : (text : List ℕ) (rows : Table) (used : ℕ) → RowsOf (earlier text rows 0 0) used []
unfolding split_rows tokens_in
rows_nothing text rows used =
    record {
      origin = 0;
      text = holds_none text 0;
      below = omega arith;
      rows = rw (rows_out [] 127 1 0 0 (omega arith)) (hold_none rows 0);
      many = sym (count_out [] 127 1 0 (omega arith));
    }

module _ (rules : Rules) (bytes dir cur : List ℕ) (m : Kept) (before : List ℕ) (directory : length dir ≡ 2580) (within : (i : ℕ) → i < 1290 → end_of dir i ≤ length bytes) where
  abbrev src : Source
  src = source rules bytes dir cur

  opened : (coming : List (List ℕ)) → Reached rules bytes dir cur m before coming → Open bytes dir cur
  opened coming r = left_open bytes dir cur (puts_from rules m.state.names before coming) directory within r.left

  judged : (coming : List (List ℕ)) → Reached rules bytes dir cur m before coming → read_of src m ≡ next_of src m
  judged coming r = read_next rules bytes dir cur m.text m.names m.rows m.state (opened coming r) r.counted

  -- with all names read, "done"
  pub done_back : Reached rules bytes dir cur m before [] → read_of src m ≡ outcome (Ok None) cur m
  unfolding next_of puts_from
  done_back r =
      let all : m.state.count ≡ m.state.names + 0 = r.all in
      judged [] r ∙ pick_true _ _ (eq-eqb m.state.names m.state.count (omega arith))
      ∙ pick_true _ _ (each_at_end dir cur (left_none bytes dir cur r.left))

  module _ (s : List ℕ) (ss : List (List ℕ)) (r : Reached rules bytes dir cur m before (s ∷ ss)) where
    abbrev k : ℕ
    k = m.state.names

    good : Good s
    unfolding AllGood
    good = r.good.0

    goods : AllGood ss
    unfolding AllGood
    goods = r.good.1

    headed : (h : Head) → head_of src k ≡ h → read_of src m ≡ headed_of src m h
    unfolding next_of
    headed h q =
        let all : m.state.count ≡ k + suc (length ss) = r.all in
        judged (s ∷ ss) r ∙ pick_false _ _ (ne_eqb k m.state.count (λ w. omega arith)) ∙ ap (headed_of src m) q

    text_room : m.state.text + (length s + 1 + text_wanted ss) ≤ length m.text
    unfolding text_wanted
    text_room = omega (arith, r.texts)

    row_room_law : m.state.rows + (rows_added k before s + rows_for (k + 1) s ss) ≤ row_room m.rows
    unfolding rows_for
    row_room_law = r.rows

    puts : (ps : List Put) → name_puts rules k before s ≡ ps → Left bytes dir cur (ps ++ puts_from rules (k + 1) s ss)
    unfolding puts_from
    puts ps q = subst (λ (x : List Put). Left bytes dir cur (x ++ puts_from rules (k + 1) s ss)) q r.left

    -- what was read is kept
    module _ (d : Draft) (text : d.text ≡ s) (whole : length d.rows ≡ d.count) (count : d.count ≡ rows_added k before s) (first many distance : ℕ) where
      roomy : m.state.text + length s + 1 ≤ length m.text
      roomy = omega (arith, text_room)

      fits : entry_size * (k + 1) ≤ length m.names
      fits = let all : entry_size * (k + suc (length ss)) ≤ length m.names = r.entries in omega arith

      enough : m.state.rows + d.count ≤ row_room m.rows
      enough = omega (arith, row_room_law, count)

      abbrev then : Kept
      then = after m s d text whole roomy fits enough first many distance

      kept_read : read_of src m ≡ keep_of src m d first many distance → Left bytes dir d.cur (puts_from rules (k + 1) s ss)
          → RowsOf (earlier then.text then.rows first many) then.state.text s → first + many ≤ then.state.rows
          → ReadBack rules bytes dir cur m before s ss
      kept_read q l rows inside =
          let all : m.state.count ≡ k + suc (length ss) = r.all in
          let table : entry_size * (k + suc (length ss)) ≤ length m.names = r.entries in
          let n : length d.text ≡ length s = ap length text in
          let is : EntryIs then k s = after_is m s d text whole roomy fits enough first many distance rows inside in
          let t : m.state.text + length d.text + 1 ≡ m.state.text + (length s + 1) = omega arith in
          let w : m.state.rows + d.count ≡ m.state.rows + rows_added k before s = ap (λ (x : ℕ). m.state.rows + x) count in
          let e : k + 1 - 1 ≡ k = omega arith in
          let p : read_of src m ≡ outcome (Ok (Some k)) d.cur then = q ∙ kept_back m s d text whole roomy fits enough first many distance src in
          let h = rw (sym (judged (s ∷ ss) r) ∙ p) at (next_holds rules bytes dir cur m.text m.names m.rows m.state (opened (s ∷ ss) r) r.counted) in
          record {
            now = d.cur;
            next = then;
            is = p;
            reached =
                record {
                  left = l;
                  counted = h.counted;
                  fits = h.fits r.fits;
                  all = omega arith;
                  last = λ h. (good, subst (λ (i : ℕ). EntryIs then i s) (sym e) is);
                  good = goods;
                  texts = omega (arith, text_room, after_texts m s d text whole roomy fits enough first many distance);
                  entries = omega (arith, after_names m s d text whole roomy fits enough first many distance);
                  rows = omega (arith, row_room_law, count, after_rows m s d text whole roomy fits enough first many distance);
                };
            stays = after_stays m s d text whole roomy fits enough first many distance;
            entry = is;
            text = after_text m s d text whole roomy fits enough first many distance;
            counts = rw (t, w) refl;
          }

    -- DUP
    dup_back : 1 ≤ k → anew k ≡ false → same before s ≡ true → ReadBack rules bytes dir cur m before s ss
    unfolding reference_puts head_puts headed_of dup_of entry_back
    dup_back h a q =
        let l : Left bytes dir cur (put (span_of 0 type_stream) (rules.numbers.dup ∷ []) ∷ put (span_of 0 dup_stream) (four_bytes 1) ∷ puts_from rules (k + 1) s ss) = puts _ (puts_dup rules k before s a q) in
        let is : before ≡ s = same_equal before s q in
        let was = r.last h in
        let entry : Entry = entry_at m.names (k - 1) in
        let d : Draft = draft (part m.text entry.start (entry.start + entry.length)) [] 0 (head_past cur dup_stream) in
        let text : d.text ≡ s = entry_text_law m (k - 1) before was.1 ∙ is in
        let c : 0 ≡ rows_added k before s = sym (added_dup rules k before s a q) in
        let old : RowsOf (earlier m.text m.rows entry.first entry.rows) m.state.text s =
        subst (λ (x : List ℕ). RowsOf (earlier m.text m.rows entry.first entry.rows) m.state.text x) is was.1.rows in
        let f : length d.rows ≡ d.count = refl in
        kept_read d text f c entry.first entry.rows 1
        (headed (Ok (reference.Dup (record { 0 = 1 }))) (dup_head_law rules bytes dir cur k 1 (omega arith) (puts_from rules (k + 1) s ss) (omega arith) h l)
        ∙ pick_true _ _ (r.fits (k - 1) (omega arith)))
        (head_past_law rules bytes dir cur rules.numbers.dup dup_stream 1 (omega arith) (omega arith) (omega arith) (puts_from rules (k + 1) s ss) l)
        (rows_old m s d text f (roomy d text f c entry.first entry.rows 1) (fits d text f c entry.first entry.rows 1)
        (enough d text f c entry.first entry.rows 1) entry.first entry.rows 1 entry.first entry.rows old was.1.inside)
        (omega (arith, was.1.inside))

    -- DIFF, leaning on the rows of an earlier name that is x
    module _ (distance : ℕ) (e : Earlier) (x : List ℕ) (allowed : all_allowed x ≡ true) (o : RowsOf e m.state.text x) (added : rows_added k before s ≡ tokens_in s)
        (q : read_of src m ≡ diff_of src m distance e) (l : Left bytes dir (head_past cur diff_stream) (token_puts rules s 1 (choices_of x s) ++ puts_from rules (k + 1) s ss)) where
      spelt : Spelt bytes dir s m.state.text 127 1 0 (draft [] [] 0 (head_past cur diff_stream)) (puts_from rules (k + 1) s ss) (name_of src e m.state.text (head_past cur diff_stream))
      spelt = name_back_law rules bytes dir cur (head_past cur diff_stream) e m.state.text x s (puts_from rules (k + 1) s ss) allowed good o (head_same cur diff_stream (omega arith)) l

      rows : spelt.draft.rows ≡ split_rows s m.state.text
      unfolding split_rows
      rows = spelt.rows

      count : spelt.draft.count ≡ tokens_in s
      unfolding tokens_in
      count = omega (arith, spelt.count)

      diff_back : ReadBack rules bytes dir cur m before s ss
      unfolding diff_of named_of
      diff_back =
          let d : Draft = spelt.draft in
          let f : length d.rows ≡ d.count = ap length rows ∙ length_split s m.state.text ∙ sym count in
          let c : d.count ≡ rows_added k before s = count ∙ sym added in
          kept_read d spelt.text f c m.state.rows d.count distance
          (q ∙ ap (named_of src m distance) spelt.is) spelt.left
          (rows_new m s d spelt.text f (roomy d spelt.text f c m.state.rows d.count distance) (fits d spelt.text f c m.state.rows d.count distance)
          (enough d spelt.text f c m.state.rows d.count distance) m.state.rows d.count distance rows count)
          (omega arith)

    first_back : anew k ≡ true → ReadBack rules bytes dir cur m before s ss
    unfolding reference_puts head_puts headed_of none
    first_back a =
        let l : Left bytes dir cur (put (span_of 0 type_stream) (rules.numbers.diff ∷ []) ∷ put (span_of 0 diff_stream) (four_bytes 0) ∷ (token_puts rules s 1 (choices_of [] s) ++ puts_from rules (k + 1) s ss)) =
        puts _ (puts_first rules k before s a) in
        diff_back 0 (none m) [] (every_none is_allowed) (rows_nothing m.text m.rows m.state.text) (added_first rules k before s a)
        (headed (Ok (reference.Diff (record { 0 = 0 }))) (diff_head_law rules bytes dir cur k 0 (omega arith) (token_puts rules s 1 (choices_of [] s) ++ puts_from rules (k + 1) s ss) (omega arith) l)
        ∙ pick_true _ _ (eq-eqb 0 0 refl))
        (head_past_law rules bytes dir cur rules.numbers.diff diff_stream 0 (omega arith) (omega arith) (omega arith) (token_puts rules s 1 (choices_of [] s) ++ puts_from rules (k + 1) s ss) l)

    later_back : 1 ≤ k → anew k ≡ false → same before s ≡ false → ReadBack rules bytes dir cur m before s ss
    unfolding reference_puts head_puts headed_of rows_of entry_back
    later_back h a q =
        let l : Left bytes dir cur (put (span_of 0 type_stream) (rules.numbers.diff ∷ []) ∷ put (span_of 0 diff_stream) (four_bytes 1) ∷ (token_puts rules s 1 (choices_of before s) ++ puts_from rules (k + 1) s ss)) =
        puts _ (puts_diff rules k before s a q) in
        let was = r.last h in
        diff_back 1 (rows_of m (entry_back m 1)) before was.0.allowed was.1.rows (added_diff rules k before s a q)
        (headed (Ok (reference.Diff (record { 0 = 1 }))) (diff_head_law rules bytes dir cur k 1 (omega arith) (token_puts rules s 1 (choices_of before s) ++ puts_from rules (k + 1) s ss) h l)
        ∙ pick_false _ _ (ne_eqb 1 0 (λ (w : 1 ≡ 0). omega arith)) ∙ pick_true _ _ (r.fits (k - 1) (omega arith)))
        (head_past_law rules bytes dir cur rules.numbers.diff diff_stream 1 (omega arith) (omega arith) (omega arith) (token_puts rules s 1 (choices_of before s) ++ puts_from rules (k + 1) s ss) l)

    -- the next name
    pub read_back : ReadBack rules bytes dir cur m before s ss
    unfolding anew
    read_back =
        by_test (anew k)
        first_back
        (λ a.
        let z : k ≡ 0 → ⊥ = eqb-false k 0 a in
        let h : 1 ≤ k = omega (arith, z) in
        by_test (same before s) (dup_back h a) (later_back h a))
