-- The walk over a name's positions: what holds at each turn, whether the name is judged or kept, and what each way out of it answers.
use Prim.Native.Nat.{ℕ, suc, ◌+◌, ◌-◌, ◌^◌, ◌≤◌, ◌<◌}
use Rattle.values.specs.Values.{Step}
use Rattle.names.specs.Names.{Judged, Named, named, type_at, printable, name_of}
use Rattle.running.specs.Running.{Ran, Reaches, on_at, run_of, run_put}
use Rattle.taking.specs.Taking.{Turn, place_of, Placed, taken, turn_of}
use Rattle.std.specs.Prelude.{Some, None, Ok, Err}
use Rattle.refusals.specs.declared.Reason.{Reason}
use Rattle.refusals.specs.declared.Reason.TheVariants as reason
use mathlib.Core.Path.{◌≡◌, refl, sym, ap, ◌∙◌, subst}
use mathlib.Core.Bool.{Bool, true, false}
use mathlib.Core.List.{List, [], ◌∷◌}
use native.Mathlib.Omega.{arith}
use lib.Dec.{eqb}
use lib.ListN.{length}
use Rattle.base.specs.Choice.{pick}
use Rattle.base.specs.Memory.{written}
use Rattle.base.proofs.Choice.{took, left, pick_true, pick_false, by_test, never}
use Rattle.base.specs.Every.{Below}
use Rattle.spans.specs.declared.Cursor.{Cursor}
use Rattle.block.specs.Block.{span_of, cursor_of}
use Rattle.block.specs.Open.{Open}
use Rattle.tables.specs.Tables.{row_room}
use Rattle.tokens.specs.declared.Token.{Token}
use Rattle.numbering.specs.Types.{Rules}
use Rattle.tokens.specs.Tokens.{bytes_of, length_of}
use Rattle.tokens.proofs.Laws.{length_bytes}
use Rattle.sources.specs.Source.{Source, source, Earlier, earlier}
use Rattle.steps.specs.Steps.{step_at}
use Rattle.repeats.specs.Sound.{Rows}
use Rattle.steps.proofs.Laws.{Known, given}
use Rattle.taking.specs.declared.Place.{Place}
use Rattle.moving.specs.Moves.{past}
use Rattle.names.specs.Judge.{summary, draft_of}
use Rattle.names.specs.Keeps.{Memory, memory, put_token, put_name, Roomy}
use Rattle.repeating.specs.Repeats.{Repeats}
use Rattle.turns.specs.Turns.{turn_put, RoomAt}
use Rattle.ends.specs.Ends.{ended_of}
use Rattle.names.proofs.Growing.{printable_short}
use Rattle.names.proofs.Judgement.{judge_from, judge_from_law, judge_of, refuses, empty, ends, spoils, goes, over}
use Rattle.names.proofs.Turns.{Going, begun, never_refuses, token_room, turned}
use Rattle.names.proofs.Turns as turns
use Rattle.running.proofs.Running.{run_judges, run_spoils, run_leaves, going_reaches, never_long, run_room, run_keeps}
use Rattle.tables.proofs.Rows.{RowsBelow}

-- a walk: which way it is taken, what it looks at and where it puts down; the memory is that at its beginning
pub record Walk : Type 0 where
  pub keeping : Bool
  pub rules : Rules
  pub bytes : List ℕ
  pub dir : List ℕ
  pub start : Memory
  pub first : ℕ
  pub count : ℕ
  pub used : ℕ
  pub row : ℕ
  pub end : ℕ

abbrev pub src : Walk → Memory → Source
src x m = source x.rules x.bytes x.dir m.cur

abbrev pub back : Walk → Memory → Earlier
back x m = earlier m.text m.rows x.first x.count

abbrev pub name : Walk → Named
name x = name_of (src x x.start) (back x x.start) x.used x.start.cur

-- what it goes by
pub record Asked (x : Walk) : Type 0 where
  pub opened : Open x.bytes x.dir x.start.cur
  pub known : Rows x.used (back x x.start)
  pub reaches : Reaches x.end (back x x.start)
  pub near : x.used < 2 ^ 31
  pub behind : x.first + x.count ≤ x.row
  pub few : x.row < 2 ^ 31
  pub room : x.keeping ≡ true → Roomy (name x) (x.first + x.count) x.used x.row x.start.text x.start.rows
  pub bytes_below : Below 256 x.bytes
  pub dir_below : Below (2 ^ 32) x.dir

abbrev pub Keeping : Walk → Memory → ℕ → ℕ → Type 0
Keeping x m p len = Going x.rules x.bytes x.dir x.start.text x.start.rows x.first x.count x.used x.row (draft_of (name x)) m.cur m.text m.rows p (x.used + len)

-- at position p, with a name of len bytes so far
pub record Walking (x : Walk) (m : Memory) (p len : ℕ) : Type 0 where
  pub low : 1 ≤ p
  pub high : p ≤ 129
  pub short : len ≤ 254
  pub opened : Open x.bytes x.dir m.cur
  pub known : Rows x.used (back x m)
  pub reaches : Reaches x.end (back x m)
  pub below_text : Below 256 m.text
  pub below_rows : RowsBelow (2 ^ 32) m.rows
  pub length_text : length m.text ≡ length x.start.text
  pub judges : judge_from (src x m) (back x m) (129 - p) p len (p - 1) ≡ summary (name x)
  pub still : x.keeping ≡ false → m ≡ x.start
  pub going : x.keeping ≡ true → Keeping x m p len

-- a run may go over all rows where it is known that they are spelt, and over none where it isn't
pub reaches_known : (known : Bool) (used : ℕ) (e : Earlier) → Rows used e → Repeats known e → (end : ℕ) → end ≡ pick known (e.count + 1) 1 → Reaches end e
reaches_known known used e k r end q =
    by_test known
    (λ y. let z : end ≡ e.count + 1 = q ∙ pick_true _ _ y in (λ _. r y, (omega arith, omega (arith, k.most))))
    (λ y. let z : end ≡ 1 = q ∙ pick_false _ _ y in (λ h. absurd (omega arith), (omega arith, omega arith)))

-- what a turn asks for, and what it gives
abbrev pub TurnAsks : Walk → Memory → Place → Type 0
TurnAsks x m at = Open x.bytes x.dir m.cur × (Rows at.used (back x m) × ((Placed at × (x.first + x.count ≤ at.row))
    × (x.keeping ≡ true → RoomAt (step_at (src x m) (back x m) at.p.0) at m.text m.rows)))

abbrev pub TurnGives : Walk → Memory → Place → Turn → Memory → Type 0
TurnGives x m at r m' = (r ≡ turn_of x.keeping x.bytes m.text at.len (step_at (src x m) (back x m) at.p.0))
    × (m' ≡ turn_put x.keeping x.bytes (step_at (src x m) (back x m) at.p.0) (type_at (src x m) at.p.0) at m)

-- what a walk answers and leaves
abbrev pub Done : Walk → Judged → Memory → Type 0
Done x r m = (r ≡ summary (name x)) × (m ≡ pick x.keeping (put_name x.used x.row x.start.text x.start.rows (draft_of (name x))) x.start)

module _ (x : Walk) (a : Asked x) where
  -- what a name that is kept so far comes to is what judging it comes to
  going_judges : (k : x.keeping ≡ true) (m : Memory) (p len : ℕ) → Keeping x m p len → judge_from (src x m) (back x m) (129 - p) p len (p - 1) ≡ summary (name x)
  going_judges k m p len g =
      let l : len ≡ length g.d.text = omega (arith, g.place) in
      let n : p - 1 ≡ g.d.count = omega (arith, g.counted) in
      ap (λ (y : ℕ). judge_from (src x m) (back x m) (129 - p) p y (p - 1)) l
      ∙ ap (λ (y : ℕ). judge_from (src x m) (back x m) (129 - p) p (length g.d.text) y) n
      ∙ sym (judge_from_law (src x m) (back x m) x.used (129 - p) p g.d)
      ∙ ap summary g.goes ∙ ap summary (sym (a.room k).whole)

  kept_walks : (k : x.keeping ≡ true) (m : Memory) (p len : ℕ) → Keeping x m p len → Walking x m p len
  kept_walks k m p len g =
      record {
        low = g.low;
        high = omega (arith, g.high);
        short = omega (arith, g.short, g.place);
        opened = g.opened;
        known = g.known;
        reaches = going_reaches _ _ _ _ _ _ _ _ _ (name x) (a.room k) _ _ _ _ _ g x.end a.reaches;
        below_text = g.below_text;
        below_rows = g.below_rows;
        length_text = g.length_text;
        judges = going_judges k m p len g;
        still = λ f. absurd (never (sym f ∙ k));
        going = λ _. g;
      }

  pub begins : Below 256 x.start.text → RowsBelow (2 ^ 32) x.start.rows → Walking x x.start 1 0
  begins bt br =
      record {
        low = omega arith;
        high = omega arith;
        short = omega arith;
        opened = a.opened;
        known = a.known;
        reaches = a.reaches;
        below_text = bt;
        below_rows = br;
        length_text = refl;
        judges = sym (judge_of (src x x.start) (back x x.start) x.used x.start.cur);
        still = λ _. refl;
        going = λ k.
            let z : x.used ≡ x.used + 0 = omega arith in
            subst (λ (at : ℕ). Going x.rules x.bytes x.dir x.start.text x.start.rows x.first x.count x.used x.row (draft_of (name x)) x.start.cur x.start.text x.start.rows 1 at) z
            (begun _ _ _ _ _ _ _ _ _ x.row (name x) refl (a.room k).whole a.opened a.known bt br);
      }

  module _ (m : Memory) (p len : ℕ) (w : Walking x m p len) where
    -- the memory stays, and judging goes on
    judged_walks : (x.keeping ≡ false) → (q l : ℕ) → 1 ≤ q → q ≤ 129 → l ≤ 254
        → judge_from (src x m) (back x m) (129 - q) q l (q - 1) ≡ summary (name x) → Walking x m q l
    judged_walks f q l low high short j =
        record {
          low = low;
          high = high;
          short = short;
          opened = w.opened;
          known = w.known;
          reaches = w.reaches;
          below_text = w.below_text;
          below_rows = w.below_rows;
          length_text = w.length_text;
          judges = j;
          still = w.still;
          going = λ k. absurd (never (sym f ∙ k));
        }

    still_done : (f : x.keeping ≡ false) {r : Judged} {m' : Memory} → r ≡ summary (name x) → m' ≡ m → Done x r m'
    still_done f r e = (r, left _ _ f (e ∙ w.still f))

    pub tables : length m.cur ≡ length x.start.cur
    tables = w.opened.table ∙ sym a.opened.table

    -- past the last position
    pub walks_over : 128 < p → Done x (Err reason.NotEnd) m
    walks_over h =
        by_test x.keeping
        (λ k. absurd (omega (arith, (w.going k).high)))
        (λ f. still_done f (over (src x m) (back x m) (129 - p) p len (p - 1) _ (omega (arith, w.high)) w.judges) refl)

    module _ (high : p ≤ 128) where
      -- A run

      pub run_asks : Open x.bytes x.dir m.cur × (Rows x.used (back x m) × (Reaches x.end (back x m)
          × (((1 ≤ p) × ((p ≤ 128) × (len ≤ 254))) × (((x.used < 2 ^ 31) × ((x.first + x.count ≤ x.row) × (x.row < 2 ^ 31)))
          × (x.keeping ≡ true → (q l : ℕ) → run_of (src x m) (back x m) x.end p len ≡ on_at q l
          → (x.used + l ≤ length m.text) × (x.row + (q - 1) ≤ row_room m.rows))))))
      run_asks = (
        w.opened,
        (
          w.known,
          (
            w.reaches,
            (
              (w.low, (high, w.short)),
              (
                (a.near, (a.behind, a.few)),
                λ k q l h. run_room _ _ _ _ _ _ _ _ _ (name x) (a.room k) a.bytes_below a.dir_below _ _ _ _ _ (w.going k) x.end w.reaches q l h,
              ),
            ),
          ),
        ),
      )

      module _ (r : Ran) (is : r ≡ run_of (src x m) (back x m) x.end p len) (q l : ℕ) (h : r ≡ on_at q l) where
        ran_on_law : (p ≤ q) × ((q ≤ 128) × ((l ≤ 254) × (judge_from (src x m) (back x m) (129 - q) q l (q - 1) ≡ summary (name x))))
        ran_on_law = run_judges (src x m) (back x m) x.used x.end p len _ w.known w.reaches w.low high w.short w.judges q l (sym is ∙ h)

        pub run_bounds : (p ≤ q) × (q ≤ 128)
        run_bounds = (ran_on_law.0, ran_on_law.1.0)

        run_puts : (b : Bool) → x.keeping ≡ b → (m' : Memory) → m' ≡ run_put x.keeping (back x m) x.used x.row p len r m
            → m' ≡ run_put b (back x m) x.used x.row p len (on_at q l) m
        run_puts b k m' e = rw (← k, ← h) e

        pub walks_run : (m' : Memory) → m' ≡ run_put x.keeping (back x m) x.used x.row p len r m
            → Below 256 m'.text → RowsBelow (2 ^ 32) m'.rows → Walking x m' q l
        walks_run m' e bt br =
            by_test x.keeping
            (λ k.
            kept_walks k m' q l
            (run_keeps _ _ _ _ _ _ _ _ _ (name x) (a.room k) a.bytes_below a.dir_below _ _ _ _ _ (w.going k) x.end w.reaches q l _ _ _ (sym is ∙ h) (run_puts true k m' e) bt br))
            (λ f.
            subst (λ (y : Memory). Walking x y q l)
            (sym (run_puts false f m' e ∙ run_leaves _ _ _ _ _ _ _))
            (judged_walks f q l (omega (arith, ran_on_law.0, w.low)) (omega (arith, ran_on_law.1.0)) ran_on_law.1.1.0 ran_on_law.1.1.1))

      pub walks_long : (r : Ran) → r ≡ run_of (src x m) (back x m) x.end p len → (n : Reason) → r ≡ Err n → (m' : Memory)
          → m' ≡ run_put x.keeping (back x m) x.used x.row p len r m → Done x (Err n) m'
      walks_long r is n h m' e =
          by_test x.keeping
          (λ k. absurd (never_long _ _ _ _ _ _ _ _ _ (name x) (a.room k) a.bytes_below a.dir_below _ _ _ _ _ (w.going k) x.end w.reaches (sym is ∙ h)))
          (λ f.
          still_done f
          (run_spoils (src x m) (back x m) x.used x.end p len _ w.known w.reaches w.low high w.short w.judges (sym is ∙ h))
          (e ∙ ap (λ (b : Bool). run_put b (back x m) x.used x.row p len r m) f ∙ run_leaves _ _ _ _ _ _ _))

      -- A turn

      -- where it stands
      abbrev here : Place
      here = place_of p len x.used x.row

      token_fits : (k : x.keeping ≡ true) (st : Step) → step_at (src x m) (back x m) p ≡ st → RoomAt st here m.text m.rows
      token_fits k (Ok (Some (t, c))) q = token_room _ _ _ _ _ _ _ _ _ (name x) (a.room k) a.bytes_below a.dir_below _ _ _ _ _ (w.going k) t c q
      token_fits k (Ok None) q = tt
      token_fits k (Err r) q = tt

      pub turn_asks : (at : Place) → at ≡ here → TurnAsks x m at
      turn_asks at e =
          subst (λ (z : Place). TurnAsks x m z) (sym e)
          (w.opened, (w.known, ((((w.low, high), (w.short, (a.near, a.few))), a.behind), λ k. token_fits k (step_at (src x m) (back x m) p) refl)))

      knows : Known (src x m) (back x m) x.used p
      knows =
          record { opened = w.opened; rows = w.known; first = w.low; last = high; bytes = a.bytes_below; texts = w.below_text; numbers = w.below_rows }

      more : 129 - p ≡ suc (129 - (p + 1))
      more = omega arith

      -- what a turn puts down at a step
      abbrev put : Step → Memory
      put st = turn_put x.keeping x.bytes st (type_at (src x m) p) here m

      module _ (t : Token) (c : Cursor) (s : step_at (src x m) (back x m) p ≡ Ok (Some (t, c))) where
        kept_put : (k : x.keeping ≡ true) (m' : Memory) → m' ≡ put (Ok (Some (t, c)))
            → m' ≡ put_token x.bytes m t (type_at (src x m) p) p c.0 (x.used + len) (x.row + (p - 1))
        unfolding turn_put
        kept_put k m' e = e ∙ pick_true _ _ k

        judged_put : (f : x.keeping ≡ false) (m' : Memory) → m' ≡ put (Ok (Some (t, c))) → m' ≡ m
        unfolding turn_put
        judged_put f m' e = e ∙ pick_false _ _ f

        kept_on : (k : x.keeping ≡ true) (v : ℕ) → v ≡ length_of t → (m' : Memory) → m' ≡ put (Ok (Some (t, c)))
            → Below 256 m'.text → RowsBelow (2 ^ 32) m'.rows → Walking x m' (p + 1) (len + v)
        kept_on k v l m' e bt br =
            let z : x.used + len + v ≡ x.used + (len + v) = omega arith in
            kept_walks k m' (p + 1) (len + v)
            (subst (λ (at : ℕ). Going x.rules x.bytes x.dir x.start.text x.start.rows x.first x.count x.used x.row (draft_of (name x)) m'.cur m'.text m'.rows (p + 1) at) z
            (turned _ _ _ _ _ _ _ _ _ (name x) (a.room k) a.bytes_below a.dir_below _ _ _ _ _ (w.going k) t c s _ m'.text m'.rows m'.cur refl (kept_put k m' e) v l bt br))

        judged_on : (f : x.keeping ≡ false) (v : ℕ) → v ≡ length_of t → printable (bytes_of x.bytes m.text t) len ≡ true → (m' : Memory) → m' ≡ put (Ok (Some (t, c)))
            → Walking x m' (p + 1) (len + v)
        judged_on f v l y m' e =
            let n : v ≡ length (bytes_of x.bytes m.text t) = l ∙ sym (length_bytes x.bytes m.text t (given (src x m) (back x m) x.used p knows s).inside) in
            let b = printable_short (bytes_of x.bytes m.text t) len y in
            subst (λ (z : Memory). Walking x z (p + 1) (len + v)) (sym (judged_put f m' e))
            (judged_walks f (p + 1) (len + v) (omega arith) (omega arith) (omega arith)
            (goes (src x m) (back x m) (129 - p) (129 - (p + 1)) p len (p - 1) _ more w.judges s y n (omega (arith, w.low))))

        taken_prints : (f : x.keeping ≡ false) (b : Bool) → taken x.keeping x.bytes m.text t len ≡ b → printable (bytes_of x.bytes m.text t) len ≡ b
        unfolding taken
        taken_prints f b q = sym (pick_false true _ f) ∙ q

        taken_kept : (k : x.keeping ≡ true) → taken x.keeping x.bytes m.text t len ≡ false → ⊥
        unfolding taken
        taken_kept k q = never (sym q ∙ pick_true true _ k)

        got_on : (v : ℕ) → Ok (Some v) ≡ turn_of x.keeping x.bytes m.text len (Ok (Some (t, c))) → (m' : Memory) → m' ≡ put (Ok (Some (t, c)))
            → Below 256 m'.text → RowsBelow (2 ^ 32) m'.rows → Walking x m' (p + 1) (len + v)
        unfolding turn_of
        got_on v q m' e bt br =
            by_test (taken x.keeping x.bytes m.text t len)
            (λ y.
            let g : ◌≡◌ {A = Turn} (Ok (Some v)) (Ok (Some (length_of t))) = q ∙ pick_true _ _ y in
            let l : v ≡ length_of t = cc in
            by_test x.keeping
            (λ k. kept_on k v l m' e bt br)
            (λ f. judged_on f v l (taken_prints f true y) m' e))
            (λ y. let g : ◌≡◌ {A = Turn} (Ok (Some v)) (Err reason.BadName) = q ∙ pick_false _ _ y in cc)

        got_refused : (r : Reason) → Err r ≡ turn_of x.keeping x.bytes m.text len (Ok (Some (t, c))) → (m' : Memory) → m' ≡ put (Ok (Some (t, c))) → Done x (Err r) m'
        unfolding turn_of
        got_refused r q m' e =
            by_test (taken x.keeping x.bytes m.text t len)
            (λ y. let g : ◌≡◌ {A = Turn} (Err r) (Ok (Some (length_of t))) = q ∙ pick_true _ _ y in cc)
            (λ y.
            let g : ◌≡◌ {A = Turn} (Err r) (Err reason.BadName) = q ∙ pick_false _ _ y in
            let n : r ≡ reason.BadName = cc in
            by_test x.keeping
            (λ k. absurd (taken_kept k y))
            (λ f.
            still_done f
            (rw n (spoils (src x m) (back x m) (129 - p) (129 - (p + 1)) p len (p - 1) _ more w.judges s (taken_prints f false y)))
            (judged_put f m' e)))

      on_from : (st : Step) → step_at (src x m) (back x m) p ≡ st → (v : ℕ) → Ok (Some v) ≡ turn_of x.keeping x.bytes m.text len st → (m' : Memory) → m' ≡ put st
          → Below 256 m'.text → RowsBelow (2 ^ 32) m'.rows → Walking x m' (p + 1) (len + v)
      unfolding turn_of
      on_from (Ok (Some (t, c))) s v q m' e bt br = got_on t c s v q m' e bt br
      on_from (Ok None) s v q m' e bt br = cc
      on_from (Err r) s v q m' e bt br = cc

      -- a token more
      pub walks_on : (at : Place) → at ≡ here → (r : Turn) (v : ℕ) → r ≡ Ok (Some v) → (m' : Memory) → TurnGives x m at r m'
          → Below 256 m'.text → RowsBelow (2 ^ 32) m'.rows → Walking x m' (p + 1) (len + v)
      walks_on at e r v q m' g =
          let f = subst (λ (z : Place). TurnGives x m z r m') e g in
          on_from (step_at (src x m) (back x m) p) refl v (sym q ∙ f.0) m' f.1

      refused_from : (st : Step) → step_at (src x m) (back x m) p ≡ st → (r : Reason) → Err r ≡ turn_of x.keeping x.bytes m.text len st → (m' : Memory) → m' ≡ put st
          → Done x (Err r) m'
      unfolding turn_of turn_put
      refused_from (Ok (Some (t, c))) s r q m' e = got_refused t c s r q m' e
      refused_from (Ok None) s r q m' e = cc
      refused_from (Err i) s r q m' e =
          let n : r ≡ i = cc in
          by_test x.keeping
          (λ k. absurd (never_refuses _ _ _ _ _ _ _ _ _ (name x) (a.room k) a.bytes_below a.dir_below _ _ _ _ _ (w.going k) s))
          (λ f. still_done f (rw n (refuses (src x m) (back x m) (129 - p) (129 - (p + 1)) p len (p - 1) _ more w.judges s)) e)

      -- a refusal
      pub walks_refused : (at : Place) → at ≡ here → (r : Turn) (n : Reason) → r ≡ Err n → (m' : Memory) → TurnGives x m at r m' → Done x (Err n) m'
      walks_refused at e r n q m' g =
          let f = subst (λ (z : Place). TurnGives x m z r m') e g in
          refused_from (step_at (src x m) (back x m) p) refl n (sym q ∙ f.0) m' f.1

      end_from_law : (st : Step) → step_at (src x m) (back x m) p ≡ st → Ok None ≡ turn_of x.keeping x.bytes m.text len st → (m' : Memory) → m' ≡ put st
          → Walking x m' p len × (step_at (src x m') (back x m') p ≡ Ok None)
      unfolding turn_of turn_put
      end_from_law (Ok (Some (t, c))) s q m' e =
          by_test (taken x.keeping x.bytes m.text t len)
          (λ y. let g : ◌≡◌ {A = Turn} (Ok None) (Ok (Some (length_of t))) = q ∙ pick_true _ _ y in cc)
          (λ y. let g : ◌≡◌ {A = Turn} (Ok None) (Err reason.BadName) = q ∙ pick_false _ _ y in cc)
      end_from_law (Ok None) s q m' e = (
        subst (λ (z : Memory). Walking x z p len) (sym e) w,
        subst (λ (z : Memory). step_at (src x z) (back x z) p ≡ Ok None) (sym e) s,
      )
      end_from_law (Err r) s q m' e = cc

      -- an END, which leaves the memory
      pub walks_end : (at : Place) → at ≡ here → (r : Turn) → r ≡ Ok None → (m' : Memory) → TurnGives x m at r m'
          → Walking x m' p len × (step_at (src x m') (back x m') p ≡ Ok None)
      walks_end at e r q m' g =
          let f = subst (λ (z : Place). TurnGives x m z r m') e g in
          end_from_law (step_at (src x m) (back x m) p) refl (sym q ∙ f.0) m' f.1

      -- END

      module _ (s : step_at (src x m) (back x m) p ≡ Ok None) where
        pub end_asks : (((1 ≤ p) × (p ≤ 128)) × ((len ≤ 254) × ((x.used < 2 ^ 31) × (length m.cur ≡ 1290))))
            × (x.keeping ≡ true → (x.used + len + 1 ≤ length m.text) × (cursor_of m.cur (span_of p 0) + 1 < 2 ^ 32))
        end_asks = (
          ((w.low, high), (w.short, (a.near, w.opened.table))),
          λ k.
              let e = turns.end_asks _ _ _ _ _ _ _ _ _ (name x) (a.room k) a.bytes_below a.dir_below _ _ _ _ _ (w.going k) s in
              (e.1, e.0.1.1),
        )

        some : (n : Named) → n ≡ named (draft_of n) → Err reason.BadName ≡ summary n → ⊥
        unfolding summary
        some n e q = let g = q ∙ ap summary e in cc

        kept_answer : (k : x.keeping ≡ true) → Ok (record { rows = p - 1; length = len }) ≡ summary (name x)
        kept_answer k =
            by_test (eqb len 0)
            (λ y. absurd (some (name x) (a.room k).whole (empty (src x m) (back x m) (129 - p) (129 - (p + 1)) p len (p - 1) _ more w.judges s y)))
            (λ y. ends (src x m) (back x m) (129 - p) (129 - (p + 1)) p len (p - 1) _ more w.judges s y)

        judged_answer_law : pick (eqb len 0) (Err reason.BadName) (Ok (record { rows = p - 1; length = len })) ≡ summary (name x)
        judged_answer_law =
            by_test (eqb len 0)
            (λ y. pick_true _ _ y ∙ empty (src x m) (back x m) (129 - p) (129 - (p + 1)) p len (p - 1) _ more w.judges s y)
            (λ y. pick_false _ _ y ∙ ends (src x m) (back x m) (129 - p) (129 - (p + 1)) p len (p - 1) _ more w.judges s y)

        pub walks_done : (r : Judged) (text' cur' : List ℕ) → r ≡ ended_of x.keeping (p - 1) len
            → text' ≡ pick x.keeping (written m.text (x.used + len) (10 ∷ [])) m.text
            → cur' ≡ pick x.keeping (past m.cur (span_of p 0) 1) m.cur → Done x r (memory text' m.rows cur')
        unfolding ended_of
        walks_done r text' cur' q t c =
            by_test x.keeping
            (λ k. (
              q ∙ pick_true _ _ k ∙ kept_answer k,
              took _ _ k
                  (turns.ends _ _ _ _ _ _ _ _ _ (name x) (a.room k) a.bytes_below a.dir_below _ _ _ _ _ (w.going k) s (c ∙ pick_true _ _ k) (t ∙ pick_true _ _ k)),
            ))
            (λ f.
            let te : text' ≡ m.text = t ∙ pick_false _ _ f in
            let ce : cur' ≡ m.cur = c ∙ pick_false _ _ f in
            still_done f (q ∙ pick_false _ _ f ∙ judged_answer_law) (ap (λ (y : List ℕ). memory y m.rows cur') te ∙ ap (λ (y : List ℕ). memory m.text m.rows y) ce))
