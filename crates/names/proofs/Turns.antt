-- A name kept token by token: the memory holds it as far as it is read, and the rest of it is what it was.
use Prim.Native.Nat.{ℕ, suc, ◌+◌, ◌-◌, ◌*◌, ◌^◌, ◌≤◌, ◌<◌}
use Rattle.spans.specs.Spans.{Next}
use Rattle.values.specs.Values.{Step}
use Rattle.std.specs.Prelude.{Some, None, Ok, Err}
use Rattle.refusals.specs.declared.Reason.{Reason}
use Rattle.refusals.specs.declared.Reason.TheVariants as reason
use mathlib.Core.Path.{◌≡◌, refl, sym, ap, ◌∙◌}
use mathlib.Core.Bool.{true}
use mathlib.Core.List.{List, [], ◌∷◌, ◌++◌}
use native.Mathlib.Omega.{arith}
use lib.Dec.{eqb}
use lib.ListN.{length, length-append}
use Rattle.base.specs.Memory.{written}
use Rattle.base.proofs.Choice.{pick_true, pick_false, by_test}
use Rattle.base.proofs.Memory.{written_next, written_none}
use Rattle.base.specs.Every.{Below}
use Rattle.spans.specs.declared.Cursor.{Cursor}
use Rattle.block.specs.Block.{span_of, end_of, cursor_of}
use Rattle.block.specs.Open.{Open}
use Rattle.tables.specs.Tables.{Table, row_room, put_rows}
use Rattle.tables.proofs.Rows.{RowsBelow, put_none, put_next}
use Rattle.numbering.specs.declared.TokenType.{TokenType}
use Rattle.tokens.specs.declared.Token.{Token}
use Rattle.tokens.specs.Tokens.{bytes_of, length_of, row_of}
use Rattle.tokens.proofs.Laws.{length_bytes}
use Rattle.numbering.specs.Types.{Rules}
use Rattle.sources.specs.Source.{Source, source, Earlier, earlier, byte_in}
use Rattle.steps.specs.Steps.{typed_step, step_at}
use Rattle.repeats.specs.Sound.{Rows}
use Rattle.steps.proofs.Laws.{Known, Given, given, ended}
use Rattle.names.specs.Names.{Draft, draft, Named, named, refused, type_at, grown, printable, onward, name_from, name_of}
use Rattle.moving.specs.Moves.{past, value_past}
use Rattle.names.specs.Names as names
use Rattle.names.specs.Judge.{draft_of}
use Rattle.names.specs.Keeps.{Memory, memory, put_token, put_name, Roomy}
use Rattle.names.proofs.Cursors.{open_token}
use Rattle.moving.proofs.Moves.{past_later, value_later}
use Rattle.names.proofs.Behind.{Stays, stays}
use Rattle.names.proofs.Growing.{never_named, grows, name_same, printable_short}

pub step_of : (s : Source) (e : Earlier) (p : ℕ) {found : Next} {r : Step} → found ≡ byte_in s p 0 → r ≡ typed_step s e p found → r ≡ step_at s e p
unfolding step_at
step_of s e p f q = q ∙ ap (typed_step s e p) f

pub token_put : (bytes text : List ℕ) (rows : Table) (cur : List ℕ) (t : Token) (ty : TokenType) (p c at row : ℕ) {text' : List ℕ} {rows' : Table} {cur' : List ℕ}
    → text' ≡ written text at (bytes_of bytes text t) → rows' ≡ put_rows rows row (row_of t at ∷ []) → cur' ≡ value_past ty p c (past cur (span_of p 0) 1)
    → memory text' rows' cur' ≡ put_token bytes (memory text rows cur) t ty p c at row
unfolding put_token
token_put bytes text rows cur t ty p c at row e f g = cc

-- what lies before position p is kept, and what is read from there on is the rest of the name D
pub record Going (rules : Rules) (bytes dir text₀ : List ℕ) (rows₀ : Table) (first count used row : ℕ) (D : Draft) (cur text : List ℕ) (rows : Table) (p at : ℕ) : Type 0 where
  pub d : Draft
  pub low : 1 ≤ p
  pub high : p ≤ 128
  pub texts : text ≡ written text₀ used d.text
  pub table : rows ≡ put_rows rows₀ row d.rows
  pub cursors : cur ≡ d.cur
  pub place : at ≡ used + length d.text
  pub short : length d.text ≤ 254
  pub counted : p ≡ d.count + 1
  pub whole : length d.rows ≡ d.count
  pub opened : Open bytes dir cur
  pub known : Rows used (earlier text rows first count)
  pub goes : name_from (source rules bytes dir cur) (earlier text rows first count) used (129 - p) p d ≡ named D
  pub length_text : length text ≡ length text₀
  pub room_rows : row_room rows ≡ row_room rows₀
  pub below_text : Below 256 text
  pub below_rows : RowsBelow (2 ^ 32) rows

pub begun : (rules : Rules) (bytes dir cur text : List ℕ) (rows : Table) (first count used row : ℕ) (n : Named) → name_of (source rules bytes dir cur) (earlier text rows first count) used cur ≡ n
    → n ≡ named (draft_of n) → Open bytes dir cur → Rows used (earlier text rows first count) → Below 256 text → RowsBelow (2 ^ 32) rows
    → Going rules bytes dir text rows first count used row (draft_of n) cur text rows 1 used
unfolding name_of
begun rules bytes dir cur text rows first count used row n q w o k bt br =
    record {
      d = draft [] [] 0 cur;
      low = omega arith;
      high = omega arith;
      texts = sym (written_none text used []);
      table = sym (put_none rows row);
      cursors = refl;
      place = omega arith;
      short = omega arith;
      counted = refl;
      whole = refl;
      opened = o;
      known = k;
      goes = q ∙ w;
      length_text = refl;
      room_rows = refl;
      below_text = bt;
      below_rows = br;
    }

module _ (rules : Rules) (bytes dir text₀ : List ℕ) (rows₀ : Table) (first count used row : ℕ) (n : Named) (room : Roomy n (first + count) used row text₀ rows₀)
    (bytes_below : Below 256 bytes) (dir_below : Below (2 ^ 32) dir)
    (cur text : List ℕ) (rows : Table) (p at : ℕ) (g : Going rules bytes dir text₀ rows₀ first count used row (draft_of n) cur text rows p at) where
  known_at : (q : ℕ) → p ≤ q → q ≤ 128 → Known (source rules bytes dir cur) (earlier text rows first count) used q
  known_at q h l =
      record { opened = g.opened; rows = g.known; first = omega (arith, g.low); last = l; bytes = bytes_below; texts = g.below_text; numbers = g.below_rows }

  one : onward (source rules bytes dir cur) (earlier text rows first count) used p g.d (step_at (source rules bytes dir cur) (earlier text rows first count) p)
      (name_from (source rules bytes dir cur) (earlier text rows first count) used (129 - (p + 1)) (p + 1)) ≡ named (draft_of n)
  unfolding name_from
  one = let e : 129 - p ≡ suc (129 - (p + 1)) = omega (arith, g.high) in rw e at g.goes

  pub never_refuses : {r : Reason} → step_at (source rules bytes dir cur) (earlier text rows first count) p ≡ Err r → ⊥
  unfolding onward
  never_refuses q = never_named (rw q at one)

  end_of_law : step_at (source rules bytes dir cur) (earlier text rows first count) p ≡ Ok None → names.ended p g.d ≡ draft_of n
  unfolding onward
  end_of_law q =
      let o = rw q at one in
      by_test (eqb (length g.d.text) 0)
      (λ y. absurd (never_named (sym (pick_true (refused reason.BadName) (named (names.ended p g.d)) y) ∙ o)))
      (λ y. let z = sym (pick_false (refused reason.BadName) (named (names.ended p g.d)) y) ∙ o in (cc))

  -- END: byte 10 behind the text
  pub ends : {text' cur' : List ℕ} → step_at (source rules bytes dir cur) (earlier text rows first count) p ≡ Ok None
      → cur' ≡ past cur (span_of p 0) 1 → text' ≡ written text at (10 ∷ []) → memory text' rows cur' ≡ put_name used row text₀ rows₀ (draft_of n)
  unfolding put_name names.ended
  ends {text'} {cur'} q c t =
      let w = end_of_law q in
      let r = room.bytes in
      let dt : g.d.text ≡ (draft_of n).text = ap (λ (x : Draft). x.text) w in
      let dr : g.d.rows ≡ (draft_of n).rows = ap (λ (x : Draft). x.rows) w in
      let dc : past g.d.cur (span_of p 0) 1 ≡ (draft_of n).cur = ap (λ (x : Draft). x.cur) w in
      let dl = ap length dt in
      let te : text' ≡ written text₀ used ((draft_of n).text ++ (10 ∷ [])) =
      t ∙ ap (λ (x : ℕ). written text x (10 ∷ [])) g.place
      ∙ ap (λ (x : List ℕ). written x (used + length g.d.text) (10 ∷ [])) g.texts
      ∙ written_next text₀ used g.d.text (10 ∷ []) (omega arith)
      ∙ ap (λ (x : List ℕ). written text₀ used (x ++ (10 ∷ []))) dt in
      let re : rows ≡ put_rows rows₀ row (draft_of n).rows = g.table ∙ ap (put_rows rows₀ row) dr in
      let ce : cur' ≡ (draft_of n).cur = c ∙ ap (λ (x : List ℕ). past x (span_of p 0) 1) g.cursors ∙ dc in
      cc

  end_there : step_at (source rules bytes dir cur) (earlier text rows first count) p ≡ Ok None → cursor_of cur (span_of p 0) + 1 < 2 ^ 32
  unfolding end_of
  end_there q =
      let w = (ended (source rules bytes dir cur) (earlier text rows first count) used p (known_at p (omega arith) g.high) q).there in
      omega (arith, dir_below (2 * span_of p 0 + 1))

  -- what keeping END asks for
  pub end_asks : step_at (source rules bytes dir cur) (earlier text rows first count) p ≡ Ok None
      → ((length cur ≡ 1290) × ((p ≤ 128) × (cursor_of cur (span_of p 0) + 1 < 2 ^ 32))) × (at + 1 ≤ length text)
  unfolding names.ended
  end_asks q =
      let dl = ap (λ (x : Draft). length x.text) (end_of_law q) in
      ((g.opened.table, (g.high, end_there q)), omega (arith, room.bytes, g.place, g.length_text))

  module _ (t : Token) (c : Cursor) (q : step_at (source rules bytes dir cur) (earlier text rows first count) p ≡ Ok (Some (t, c))) where
    next : Draft
    next = grown (source rules bytes dir cur) (earlier text rows first count) used p t c.0 g.d

    told : Given (source rules bytes dir cur) (earlier text rows first count) used p t c
    told = given (source rules bytes dir cur) (earlier text rows first count) used p (known_at p (omega arith) g.high) q

    prints : printable (bytes_of bytes text t) (length g.d.text) ≡ true
    unfolding onward
    prints =
        let o = rw q at one in
        by_test (printable (bytes_of bytes text t) (length g.d.text))
        (λ y. y)
        (λ y. absurd (never_named (sym (pick_false _ (refused reason.BadName) y) ∙ o)))

    rest : name_from (source rules bytes dir cur) (earlier text rows first count) used (129 - (p + 1)) (p + 1) next ≡ named (draft_of n)
    unfolding onward next
    rest = sym (pick_true (name_from (source rules bytes dir cur) (earlier text rows first count) used (129 - (p + 1)) (p + 1) next) (refused reason.BadName) prints) ∙ rw q at one

    wide : length (bytes_of bytes text t) ≡ length_of t
    wide = length_bytes bytes text t told.inside

    next_text : length next.text ≡ length g.d.text + length_of t
    unfolding next grown
    next_text = length-append g.d.text (bytes_of bytes text t) ∙ ap (λ (x : ℕ). length g.d.text + x) wide

    next_rows : length next.rows ≡ next.count
    unfolding next grown
    next_rows =
        length-append g.d.rows (row_of t (used + length g.d.text) ∷ [])
        ∙ omega (arith, g.whole)

    next_count : next.count ≡ g.d.count + 1
    unfolding next grown
    next_count = refl

    next_short : length g.d.text + length_of t ≤ 254
    next_short = omega (arith, printable_short (bytes_of bytes text t) (length g.d.text) prints, wide)

    -- there is room for the token
    pub token_room : (at + length_of t ≤ length text) × (row + (p - 1) < row_room rows)
    token_room =
        let w = grows (source rules bytes dir cur) (earlier text rows first count) used (129 - (p + 1)) (p + 1) next (draft_of n) rest in (
          omega (arith, w.longer, next_text, room.bytes, g.place, g.length_text),
          omega (arith, w.more, next_count, room.table, g.counted, g.room_rows),
        )

    module _ (ty : TokenType) (text' : List ℕ) (rows' : Table) (cur' : List ℕ) (e : ty ≡ type_at (source rules bytes dir cur) p)
        (m : memory text' rows' cur' ≡ put_token bytes (memory text rows cur) t ty p c.0 at (row + (p - 1))) where
      text_is : text' ≡ written text at (bytes_of bytes text t)
      unfolding put_token
      text_is = ap (λ (x : Memory). x.text) m

      rows_is : rows' ≡ put_rows rows (row + (p - 1)) (row_of t at ∷ [])
      unfolding put_token
      rows_is = ap (λ (x : Memory). x.rows) m

      cur_is : cur' ≡ value_past (type_at (source rules bytes dir cur) p) p c.0 (past cur (span_of p 0) 1)
      unfolding put_token
      cur_is = ap (λ (x : Memory). x.cur) m ∙ ap (λ (x : TokenType). value_past x p c.0 (past cur (span_of p 0) 1)) e

      later : (j : ℕ) → 10 * (p + 1) ≤ j → cursor_of cur j ≡ cursor_of cur' j
      later j h =
          sym (ap (λ (x : List ℕ). cursor_of x j) cur_is
          ∙ value_later (type_at (source rules bytes dir cur) p) (past cur (span_of p 0) 1) p c.0 j h
          ∙ past_later cur p 0 1 j (omega arith) h)

      span_later : (q i : ℕ) → p + 1 ≤ q → i ≤ 9 → cursor_of cur (span_of q i) ≡ cursor_of cur' (span_of q i)
      unfolding span_of
      span_later q i h l = later (10 * q + i) (omega arith)

      behind : Stays rules bytes dir cur cur' text text' rows rows' first count used (p + 1)
      behind =
          stays rules bytes dir cur cur' text text' rows rows' first count used (p + 1) at (row + (p - 1)) (bytes_of bytes text t) (row_of t at ∷ []) text_is rows_is
          (omega (arith, g.place)) (omega (arith, room.behind)) (omega (arith, token_room.0, wide)) (omega (arith, token_room.1))
          g.known (λ j h l. known_at j (omega arith) l) span_later

      text_grown : text' ≡ written text₀ used next.text
      unfolding next grown
      text_grown =
          text_is ∙ ap (λ (x : ℕ). written text x (bytes_of bytes text t)) g.place
          ∙ ap (λ (x : List ℕ). written x (used + length g.d.text) (bytes_of bytes text t)) g.texts
          ∙ written_next text₀ used g.d.text (bytes_of bytes text t) (omega (arith, token_room.0, g.place, g.length_text))

      rows_grown : rows' ≡ put_rows rows₀ row next.rows
      unfolding next grown
      rows_grown =
          let at_row : row + (p - 1) ≡ row + length g.d.rows = omega (arith, g.whole, g.counted) in
          rows_is ∙ ap (λ (x : ℕ). put_rows rows (row + (p - 1)) (row_of t x ∷ [])) g.place
          ∙ ap (λ (x : ℕ). put_rows rows x (row_of t (used + length g.d.text) ∷ [])) at_row
          ∙ ap (λ (x : Table). put_rows x (row + length g.d.rows) (row_of t (used + length g.d.text) ∷ [])) g.table
          ∙ put_next rows₀ row g.d.rows (row_of t (used + length g.d.text) ∷ []) (omega (arith, token_room.1, g.whole, g.counted, g.room_rows))

      cur_grown : cur' ≡ next.cur
      unfolding next grown
      cur_grown =
          cur_is ∙ ap (λ (x : List ℕ). value_past (type_at (source rules bytes dir cur) p) p c.0 (past x (span_of p 0) 1)) g.cursors

      -- after a turn
      pub turned : (w : ℕ) → w ≡ length_of t → Below 256 text' → RowsBelow (2 ^ 32) rows'
          → Going rules bytes dir text₀ rows₀ first count used row (draft_of n) cur' text' rows' (p + 1) (at + w)
      turned w k bt br =
          record {
            d = next;
            low = omega arith;
            high = omega (arith, told.before);
            texts = text_grown;
            table = rows_grown;
            cursors = cur_grown;
            place = omega (arith, next_text, g.place);
            short = omega (arith, next_text, next_short);
            counted = omega (arith, next_count, g.counted);
            whole = next_rows;
            opened = rw cur_is (open_token rules bytes dir cur g.opened (earlier text rows first count) p g.high q);
            known = behind.known;
            goes =
                name_same (source rules bytes dir cur) (source rules bytes dir cur') (earlier text rows first count) (earlier text' rows' first count) used
                (129 - (p + 1)) (p + 1) next (omega (arith, told.before)) behind.alike
                ∙ rest;
            length_text = behind.length_text ∙ g.length_text;
            room_rows = behind.room_rows ∙ g.room_rows;
            below_text = bt;
            below_rows = br;
          }
