-- A name in two walks, the first of which judges it and the second of which keeps it: what is known where each starts, and what each way out leaves.
use Prim.Native.Nat.{ℕ, ◌+◌, ◌*◌, ◌^◌, ◌≤◌, ◌<◌}
use Rattle.names.specs.Names.{Judged, Draft, Named, named, refused, name_of}
use Rattle.std.specs.Prelude.{Ok, Err}
use Rattle.refusals.specs.declared.Reason.{Reason}
use Rattle.refusals.specs.declared.Reason.TheVariants as reason
use mathlib.Core.Path.{◌≡◌, refl, sym, ap, ◌∙◌}
use mathlib.Core.Bool.{Bool, true, false}
use mathlib.Core.List.{List}
use native.Mathlib.Omega.{arith}
use lib.ListN.{length}
use Rattle.base.specs.Choice.{pick}
use Rattle.base.specs.Memory.{written}
use Rattle.base.proofs.Choice.{by_test, never, pick_true, pick_false, pick_holds}
use Rattle.base.specs.Every.{Below}
use Rattle.block.specs.declared.State.{State}
use Rattle.block.specs.Open.{Open}
use Rattle.block.specs.Streams.{diff_stream}
use Rattle.numbering.specs.Types.{Rules}
use Rattle.tables.specs.Tables.{entry_size, keeping, Table}
use Rattle.kept.specs.Inside.{Counted}
use Rattle.sources.specs.Source.{source, Earlier, earlier}
use Rattle.repeats.specs.Sound.{Rows}
use Rattle.names.specs.declared.Size.{Size}
use Rattle.names.specs.Judge.{summary, draft_of}
use Rattle.names.specs.Keeps.{Memory, memory, put_name, Roomy}
use Rattle.repeating.specs.Repeats.{RowsSpelt, Repeats}
use Rattle.names.proofs.Judgement.{judge_of}
use Rattle.names.proofs.Frames.{SameFrom, Judges, judged_name, judged_refused, name_bounds, name_cursors}
use Rattle.entries.specs.declared.Reading.{Reading}
use Rattle.heads.specs.Headed.{Headed, Passable}
use Rattle.outcomes.specs.Outcomes.{outcome, refusing, at_name}
use Rattle.outcomes.specs.Keeping.{room_for}
use Rattle.entries.specs.Entries.{keeping_name, room_of, entry_of}
use Rattle.heads.specs.Heads.{head_past}
use Rattle.naming.specs.Naming.{named_of, diff_of}
use Rattle.heads.proofs.Heads.{head_same, head_open, head_passable}
use Rattle.outcomes.proofs.Keeping.{room_same, keep_refused, keep_kept}
use Rattle.entries.proofs.Entries.{Room, has_room, enter_asks}

never_both : {r : Reason} {d : Draft} → named d ≡ refused r → ⊥
never_both q = cc

-- no earlier name has no rows
pub none_spelt : (text : List ℕ) (rows : Table) → RowsSpelt (earlier text rows 0 0)
none_spelt text rows = record { each = λ j a b. absurd (omega arith); laid = λ j a b. absurd (omega arith) }

-- what is known of rows is known under another name
pub known_as : {b known : Bool} (e : Earlier) → b ≡ known → Repeats known e → Repeats b e
known_as e q r y = r (sym q ∙ y)

-- there is a second walk, and no third
pub walks_less : {b : Bool} → b ≡ false → pick true 0 1 < pick b 0 1
unfolding pick
walks_less q = rw q (omega arith)

module _ (rules : Rules) (bytes dir cur text names : List ℕ) (rows : Table) (st : State) (distance first count : ℕ) where
  abbrev name : Named
  name = name_of (source rules bytes dir cur) (earlier text rows first count) st.text (head_past cur diff_stream)

  -- where a walk starts, nothing is written; where it is to keep, the name is judged, there is room for it, and the head's cursors are moved
  pub record Starts (keeps : Bool) (cur' text' names' : List ℕ) (rows' : Table) : Type 0 where
    pub texts : text' ≡ text
    pub entries : names' ≡ names
    pub table : rows' ≡ rows
    pub cursors : cur' ≡ pick keeps (head_past cur diff_stream) cur
    pub whole : keeps ≡ true → name ≡ named (draft_of name)
    pub room : keeps ≡ true → room_for (keeping st text names rows) (draft_of name) ≡ true
    pub length_cursors : length cur' ≡ length cur
    pub length_text : length text' ≡ length text
    pub length_entries : length names' ≡ length names

  -- the first walk is one that judges
  pub starts : {keeps : Bool} → keeps ≡ false → Starts keeps cur text names rows
  starts q = record {
    texts = refl;
    entries = refl;
    table = refl;
    cursors = sym (pick_false _ _ q);
    whole = λ y. absurd (never (sym q ∙ y));
    room = λ y. absurd (never (sym q ∙ y));
    length_cursors = refl;
    length_text = refl;
    length_entries = refl;
  }

  same_from : (keeps : Bool) → SameFrom 1 (pick keeps (head_past cur diff_stream) cur) cur
  same_from keeps = pick_holds (λ (c : List ℕ). SameFrom 1 c cur) keeps _ _ (λ q. head_same cur diff_stream (omega arith)) (λ q j h. refl)

  -- what the name is judged as doesn't depend on how far the cursors before it are moved
  summed : (keeps : Bool) (c : List ℕ)
      → summary (name_of (source rules bytes dir (pick keeps (head_past cur diff_stream) cur)) (earlier text rows first count) st.text c) ≡ summary name
  summed keeps c =
      let s = source rules bytes dir (pick keeps (head_past cur diff_stream) cur) in
      let e = earlier text rows first count in
      judge_of s e st.text c ∙ sym (judge_of s e st.text (head_past cur diff_stream))
      ∙ ap summary (name_cursors rules bytes dir (pick keeps (head_past cur diff_stream) cur) cur e st.text (head_past cur diff_stream) (same_from keeps))

  -- nor does the name, behind its head
  here : {keeps : Bool} {cur' : List ℕ} → keeps ≡ true → cur' ≡ pick keeps (head_past cur diff_stream) cur
      → name_of (source rules bytes dir cur') (earlier text rows first count) st.text cur' ≡ name
  here q c =
      rw (c ∙ pick_true _ _ q)
      (name_cursors rules bytes dir (head_past cur diff_stream) cur (earlier text rows first count) st.text (head_past cur diff_stream) (head_same cur diff_stream (omega arith)))

  module _ (o : Open bytes dir cur) (k : Counted (keeping st text names rows)) (r : Rows st.text (earlier text rows first count) × (first + count ≤ st.rows))
      (g : Headed (source rules bytes dir cur) diff_stream distance st.names) where
    roomy : room_for (keeping st text names rows) (draft_of name) ≡ true → name ≡ named (draft_of name) → Roomy name (first + count) st.text st.rows text rows
    unfolding room_for
    roomy h w =
        let m = has_room bytes dir cur text names rows st (length (draft_of name).text) (draft_of name).count h in
        record {
          whole = w;
          bytes = m.texts;
          table = m.table;
          behind = r.1;
          near = omega (arith, k.most, k.kept, k.limit);
          few = omega (arith, k.rows_most, k.kept, k.limit);
        }

    opens : (keeps : Bool) → Open bytes dir (pick keeps (head_past cur diff_stream) cur)
    opens keeps = pick_holds (Open bytes dir) keeps _ _ (λ q. head_open rules bytes dir cur diff_stream distance st.names o (omega arith) (omega arith) g) (λ q. o)

    -- what a walk asks for
    pub walk_asks : (known : Bool) → Repeats known (earlier text rows first count) → (keeps : Bool) {cur' text' names' : List ℕ} {rows' : Table} → Starts keeps cur' text' names' rows'
        → Open bytes dir cur' × (Rows st.text (earlier text' rows' first count)
        × (((st.text < 2 ^ 31) × ((first + count ≤ st.rows) × (st.rows < 2 ^ 31)))
        × (Repeats known (earlier text' rows' first count)
        × (keeps ≡ true → Roomy (name_of (source rules bytes dir cur') (earlier text' rows' first count) st.text cur') (first + count) st.text st.rows text' rows'))))
    walk_asks known p keeps s =
        rw (s.texts, s.table) (
          rw s.cursors (opens keeps),
          (
            r.0,
            (
              (omega (arith, k.most, k.kept, k.limit), (r.1, omega (arith, k.rows_most, k.kept, k.limit))),
              (p, λ q. rw (here q s.cursors) (roomy (s.room q) (s.whole q))),
            ),
          ),
        )

    -- a walk, and what it answers and leaves
    module _ (keeps : Bool) (cur' text' names' : List ℕ) (rows' : Table) (s : Starts keeps cur' text' names' rows') (j : Judged) (cur'' text'' : List ℕ) (rows'' : Table)
        (told : j ≡ summary (name_of (source rules bytes dir cur') (earlier text' rows' first count) st.text cur'))
        (left : memory text'' rows'' cur'' ≡ pick keeps
        (put_name st.text st.rows text' rows' (draft_of (name_of (source rules bytes dir cur') (earlier text' rows' first count) st.text cur')))
        (memory text' rows' cur')) where
      sums : j ≡ summary name
      sums = told ∙ rw (s.texts, s.table, s.cursors) (summed keeps (pick keeps (head_past cur diff_stream) cur))

      unwritten : keeps ≡ false → memory text'' rows'' cur'' ≡ memory text rows cur
      unwritten q =
          let c = s.cursors ∙ pick_false _ _ q in
          left ∙ pick_false _ _ q ∙ rw (s.texts, s.table, c)

      judges : (size : Size) → j ≡ Ok size → Judges name size.rows size.length
      judges size q = judged_name name (sym q ∙ sums)

      bounds : (size : Size) → j ≡ Ok size → (size.length ≤ 254) × (size.rows ≤ 127)
      bounds size q =
          let w = judges size q in
          let b = name_bounds (source rules bytes dir cur) (earlier text rows first count) st.text (head_past cur diff_stream) _ w.whole in
          (omega (arith, b.short (omega arith), w.bytes), omega (arith, b.few, w.rows))

      -- refused for itself: not where it was judged before
      pub walk_refused : {z : Reading} (n : Reason) → j ≡ Err n → z ≡ refusing st n
          → outcome z.answer cur'' (keeping z.state text'' names' rows'') ≡ diff_of (source rules bytes dir cur) (keeping st text names rows) distance (earlier text rows first count)
      unfolding diff_of named_of refusing at_name
      walk_refused {z} n q e =
          let w = judged_refused name (sym q ∙ sums) in
          by_test keeps
          (λ y. absurd (never_both (sym (s.whole y) ∙ w)))
          (λ y.
          let u = unwritten y in
          rw (ap (λ (m : Memory). m.text) u, ap (λ (m : Memory). m.rows) u, ap (λ (m : Memory). m.cur) u, s.entries, w, e))

      module _ (size : Size) (q : j ≡ Ok size) where
        -- judged, and no room for it
        pub walk_full : {z : Reading} → keeps ≡ false → room_of (keeping st text'' names' rows'') size.length size.rows ≡ false → z ≡ refusing st reason.NoRoom
            → outcome z.answer cur'' (keeping z.state text'' names' rows'') ≡ diff_of (source rules bytes dir cur) (keeping st text names rows) distance (earlier text rows first count)
        unfolding diff_of named_of
        walk_full y h e =
            let u = unwritten y in
            let w = judges size q in
            let t = ap (λ (m : Memory). m.text) u in
            let n = s.entries in
            let l = ap (λ (m : Memory). m.rows) u in
            rw (t, l, ap (λ (m : Memory). m.cur) u, n, w.whole)
            (keep_refused rules bytes dir cur text names rows st (draft_of name) st.rows (draft_of name).count distance size.length size.rows (sym w.bytes) (sym w.rows) (rw (t, l, n) at h) e)

        -- what moving past the head asks for
        pub head_asks : keeps ≡ false → Below (2 ^ 32) dir → ((length cur'' ≡ 1290) × (1 ≤ diff_stream)) × Passable cur'' diff_stream
        head_asks y b =
            rw (ap (λ (m : Memory). m.cur) (unwritten y))
            ((o.table, omega arith), head_passable rules bytes dir cur diff_stream distance st.names b g)

        -- judged, with room for it: on to the walk that keeps it
        pub walk_on : {past : List ℕ} → keeps ≡ false → room_of (keeping st text'' names' rows'') size.length size.rows ≡ true → past ≡ head_past cur'' diff_stream
            → Starts true past text'' names' rows''
        unfolding pick
        walk_on y h c =
            let u = unwritten y in
            let w = judges size q in
            let t = ap (λ (m : Memory). m.text) u in
            let v = ap (λ (m : Memory). m.rows) u in
            let n = s.entries in
            let p = c ∙ ap (λ (m : Memory). head_past m.cur diff_stream) u in
            let l = (head_open rules bytes dir cur diff_stream distance st.names o (omega arith) (omega arith) g).table in
            record {
              texts = t;
              entries = n;
              table = v;
              cursors = p;
              whole = λ z. w.whole;
              room = λ z. sym (room_same bytes dir cur text names rows st (draft_of name) size.length size.rows (sym w.bytes) (sym w.rows)) ∙ rw (t, v, n) at h;
              length_cursors = ap length p ∙ l ∙ sym o.table;
              length_text = ap length t;
              length_entries = ap length n;
            }

        module _ (y : keeps ≡ true) where
          has : Room bytes dir cur text names rows st size.length size.rows
          has =
              let w = judges size q in
              has_room bytes dir cur text names rows st size.length size.rows
              (room_same bytes dir cur text names rows st (draft_of name) size.length size.rows (sym w.bytes) (sym w.rows) ∙ s.room y)

          -- what the entry asks for
          pub entry_asks : (entry_size * st.names + entry_size ≤ length names') × ((st.names + 1 < 2 ^ 32) × ((st.text + size.length + 1 < 2 ^ 32) × (st.rows + size.rows < 2 ^ 32)))
          entry_asks = let b = bounds size q in rw s.entries (enter_asks bytes dir cur text names rows st size.length size.rows k has b.0 b.1)

          put : memory text'' rows'' cur'' ≡ put_name st.text st.rows text rows (draft_of name)
          put = left ∙ pick_true _ _ y ∙ rw (s.texts, s.table, here y s.cursors)

          -- kept
          pub walk_kept : {z : Reading} {names'' : List ℕ} → z ≡ keeping_name st size.length size.rows → names'' ≡ written names' (entry_size * st.names) (entry_of st size.length st.rows size.rows distance)
              → outcome z.answer cur'' (keeping z.state text'' names'' rows'') ≡ diff_of (source rules bytes dir cur) (keeping st text names rows) distance (earlier text rows first count)
          unfolding diff_of named_of put_name
          walk_kept {z} {names''} e n =
              let w = judges size q in
              let D = draft_of name in
              rw w.whole
              (keep_kept rules bytes dir cur text names rows st D st.rows D.count distance size.length size.rows (sym w.bytes) (sym w.rows)
              (room_same bytes dir cur text names rows st D size.length size.rows (sym w.bytes) (sym w.rows) ∙ s.room y) e
              (ap (λ (m : Memory). m.cur) put) (ap (λ (m : Memory). m.text) put)
              (n ∙ ap (λ (l : List ℕ). written l (entry_size * st.names) (entry_of st size.length st.rows size.rows distance)) s.entries
              ∙ ap (λ (x : ℕ). written names (entry_size * st.names) (entry_of st size.length st.rows x distance)) (sym w.rows))
              (ap (λ (m : Memory). m.rows) put))
