-- What a read leaves in order: the counts and cursors, every kept name with its rows, and so all that demand 3 says of them.
use Prim.Native.Nat.{ℕ, ◌+◌, ◌-◌, ◌≤◌, ◌<◌}
use mathlib.Core.Path.{◌≡◌, sym, ap, ◌∙◌, subst}
use mathlib.Core.Logic.{⊎_elim}
use mathlib.Core.List.{[], ◌∷◌, ◌++◌, List}
use native.Mathlib.Omega.{arith}
use native.Mathlib.Nat.{eq-or-lt_of_le}
use lib.ListN.{length}
use Rattle.base.proofs.Numbers.{lt_or_ge}
use Rattle.base.proofs.Holding.{Holds, holds_left, holds_right, holds_first, holds_part}
use Rattle.block.specs.declared.State.{State}
use Rattle.block.specs.Block.{state}
use Rattle.block.specs.Open.{Open}
use Rattle.block.proofs.Laws.{Accepted, accepted, accepted_open}
use Rattle.tables.specs.Tables.{Kept, entry_at, row_at, keeping, put_rows}
use Rattle.kept.specs.Inside.{Counted, Earlier}
use Rattle.kept.proofs.Laws.{fresh_counted, earlier}
use Rattle.tables.proofs.Rows.{within_put}
use Rattle.kept.proofs.Later.{Later, entry_later}
use Rattle.claims.specs.Claims.{name_text}
use Rattle.sources.specs.Source.{Source, source}
use Rattle.names.specs.Names.{Draft}
use Rattle.runs.specs.Runs.{text_length}
use Rattle.earlier.specs.Fits.{AllFit, AllSpelt}
use Rattle.outcomes.specs.Keeping.{kept}
use Rattle.earlier.specs.Back.{entry_back, rows_of}
use Rattle.outcomes.specs.Outcomes.{Outcome}
use Rattle.reads.specs.Reads.{read_of}
use Rattle.reads.proofs.Spelling.{row_in}
use Rattle.reads.proofs.Holding as reads
use Rattle.demands.specs.ByWords.{ByWords}
use Rattle.demands.specs.Right.{Home, Right}
use Rattle.demands.specs.Runs.{lent, Lent, read, left, Fresh, Call, reading, claiming, after}
use Rattle.demands.specs.Refusals.{Ready, ReadCase, refuses, ends, keeps}
use Rattle.demands.proofs.Lemmas.Printing.{row_prints_law, rows_text, rows_print_law}
use Rattle.demands.proofs.Lemmas.Making.{Made, dup, diff, Room, made, room_each}
use Rattle.demands.proofs.Lemmas.Later.{NameSure, later_adds, home_later, rows_later, name_later}
use Rattle.demands.proofs.Lemmas.Adding.{entry, text_kept, entry_kept, kept_adds, refers_made}
use Rattle.demands.proofs.Lemmas.Ways.{read_case, ready_holds}
use Rattle.numbering.specs.Types.{Rules}
use Rattle.words.specs.Words.{Telling}

pub record Sure (bytes dir : List ℕ) (l : Lent) : Type 0 where
  pub opened : Open bytes dir l.cur
  pub counts : Counted l.kept
  pub fits : AllFit l.kept
  pub spelt : AllSpelt l.kept
  pub homes : (j : ℕ) → j < l.kept.state.rows → Home l.kept j
  pub names : (i : ℕ) → i < l.kept.state.names → NameSure l.kept i

pub sure_right : (rules : Rules) (bytes dir : List ℕ) (b : Telling) (l : Lent) → Sure bytes dir l → ByWords rules bytes dir b l → Right rules bytes dir b l
unfolding rows_of
sure_right rules bytes dir b l s t =
    let m : Kept = l.kept in
    let inside : (i : ℕ) → i < m.state.names → Earlier m i = λ i h. earlier m i (s.fits i h) in
    record {
      opened = s.opened;
      counts = s.counts;
      rows = λ j h.
          let k : Home m j = s.homes j h in
          record {
            fits = (inside k.name k.kept).each j k.from k.to;
            prints = row_prints_law m.text (row_at m.rows j) ((s.spelt k.name k.kept).each j k.from k.to);
          };
      homes = s.homes;
      names = λ i h.
          record {
            text = (inside i h).text;
            rows = (inside i h).rows;
            closed = (s.names i h).closed;
            ended = (s.names i h).ended;
            prints = rows_print_law _ _ _ _ (s.spelt i h) (inside i h).rows.some ∙ sym (s.names i h).spells;
            refers = (s.names i h).refers;
          };
      told = t;
    }

-- a name more
module _ (s : Source) (m : Kept) (r : Ready s m) where
  row_kept : (x : Draft) (first rows d j : ℕ) → length x.rows ≡ x.count → m.state.rows ≤ j → j < m.state.rows + x.count
      → row_at (kept m x first rows d).kept.rows j ≡ row_in x.rows (j - m.state.rows)
  unfolding kept
  row_kept x first rows d j f a l =
      let e : j ≡ m.state.rows + (j - m.state.rows) = omega arith in
      ap (row_at (put_rows m.rows m.state.rows x.rows)) e ∙ within_put m.rows m.state.rows x.rows r.counts.rows_used (j - m.state.rows) _ (omega arith)

  -- its rows are its own and lie in its text, or it adds none
  own_home : (x : Draft) (first rows d : ℕ) → Made s m x first rows d
      → entry_at (kept m x first rows d).kept.names m.state.names ≡ entry m.state.text (length x.text) first rows d
      → ((i : ℕ) → i < m.state.names → (entry_at (kept m x first rows d).kept.names i).first + (entry_at (kept m x first rows d).kept.names i).rows ≤ m.state.rows)
      → (j : ℕ) → m.state.rows ≤ j → j < m.state.rows + x.count → Home (kept m x first rows d).kept j
  unfolding kept
  own_home x first rows d (dup b n e v) q old j a l = absurd (omega arith)
  own_home x first rows d (diff y b n p v) q old j a l =
      let i : ℕ = j - m.state.rows in
      let k = row_kept x first rows d j p.whole a l in
      record {
        name = m.state.names;
        kept = omega arith;
        from = rw q a;
        to = rw q l;
        adds = λ i h. omega (arith, old i h, a);
        starts = rw (q, k) (p.from i (omega arith)).0;
        ends = rw (q, k) (p.each i (omega arith)).ends;
      }

  -- its text is that of its rows
  own_spells : (x : Draft) (first rows d : ℕ) → Made s m x first rows d → Later m (kept m x first rows d).kept → ((i : ℕ) → i < m.state.names → NameSure m i)
      → Holds (kept m x first rows d).kept.text m.state.text x.text → 1 ≤ rows
      → x.text ≡ rows_text (kept m x first rows d).kept.text (kept m x first rows d).kept.rows first rows
  unfolding entry_back name_text text_length
  own_spells x first rows d (dup b n e v) h names t some =
      (names (m.state.names - d) (omega arith)).spells ∙ sym (rows_later m (kept m x first rows d).kept h (entry_back m d) e)
  own_spells x first rows d (diff y b n p v) h names t some =
      let z : ℕ = m.state.rows + x.count - 1 in
      let i : m.state.rows - m.state.rows ≡ 0 = omega arith in
      let j : z - m.state.rows + 1 ≡ x.count = omega arith in
      let e : m.state.text + (m.state.text + length x.text - m.state.text) ≡ m.state.text + length x.text = omega arith in
      rw (
        row_kept x first rows d m.state.rows p.whole (omega arith) (omega arith),
        row_kept x first rows d z p.whole (omega arith) (omega arith),
        p.last (z - m.state.rows) j,
        (p.from (m.state.rows - m.state.rows) (omega arith)).1 i,
        e,
      ) (sym (holds_part _ _ x.text t))

  module _ (x : Draft) (first rows d : ℕ) (o : Made s m x first rows d) (f : Room m x) (h : reads.Holds s.bytes s.dir m (kept m x first rows d))
      (was : Sure s.bytes s.dir (lent s.cur m)) where
    abbrev now : Kept
    now = (kept m x first rows d).kept

    later : Later m now
    unfolding kept
    later = later_adds s m m.state.names (kept m x first rows d) (kept_adds s m x first rows d r o f h.opened)

    text_holds : Holds now.text m.state.text (x.text ++ (10 ∷ []))
    text_holds = text_kept m x first rows d r.counts

    name_holds : Holds now.text m.state.text x.text
    name_holds = holds_left now.text m.state.text x.text (10 ∷ []) text_holds

    entered : entry_at now.names m.state.names ≡ entry m.state.text (length x.text) first rows d
    entered = entry_kept m x first rows d r.counts

    all_fit : AllFit now
    all_fit = h.fits was.fits

    name_sure : NameSure now m.state.names
    unfolding kept name_text
    name_sure =
        let some : 1 ≤ rows = rw entered at (earlier now m.state.names (all_fit m.state.names (omega arith))).rows.some in
        record {
          closed = rw entered (omega arith);
          ended = rw entered (holds_first _ _ 10 [] (holds_right _ _ x.text (10 ∷ []) text_holds));
          spells = rw entered (holds_part _ _ x.text name_holds ∙ own_spells x first rows d o later was.names name_holds some);
          refers = rw entered (refers_made s m x first rows d o);
        }

    -- the rows of the names before lie below its own
    older : (i : ℕ) → i < m.state.names → (entry_at now.names i).first + (entry_at now.names i).rows ≤ m.state.rows
    older i l = rw (entry_later m now later i l) (earlier m i (was.fits i l)).rows.ends

    pub keeps_sure : Sure s.bytes s.dir (lent x.cur now)
    unfolding kept
    keeps_sure = record {
      opened = h.opened;
      counts = h.counted;
      fits = all_fit;
      spelt = h.spelt was.fits was.spelt;
      homes = λ j l. ⊎_elim (λ a. home_later m now later j a (was.homes j a)) (λ a. own_home x first rows d o entered older j a l) (lt_or_ge j m.state.rows);
      names = λ i l.
          ⊎_elim (λ a. subst (NameSure now) (sym a) name_sure)
          (λ a. name_later m now later i a (earlier m i (was.fits i a)) (was.names i a))
          (eq-or-lt_of_le {n = i} {m = m.state.names} (omega arith));
    }

-- nothing is kept yet
pub fresh_sure : (bytes dir : List ℕ) (count : ℕ) (l : Lent) → Fresh bytes dir count l → Sure bytes dir l
fresh_sure bytes dir count l f =
    let o : Accepted (length bytes) dir count f.old f.state l.cur = accepted _ _ _ _ f.opens in
    let e : l.kept.state ≡ state count 0 0 0 = f.begins ∙ o.state in
    let none : (i : ℕ) → i < l.kept.state.names → ⊥ = λ i h. omega (arith, ap (λ (z : State). z.names) e) in
    record {
      opened = accepted_open bytes dir count f.old f.opens;
      counts = subst (λ (z : State). Counted (keeping z l.kept.text l.kept.names l.kept.rows)) (sym e) (fresh_counted count _ _ _ o.few);
      fits = λ i h. absurd (none i h);
      spelt = λ i h. absurd (none i h);
      homes = λ j h. absurd (omega (arith, ap (λ (z : State). z.rows) e));
      names = λ i h. absurd (none i h);
    }

-- a read
read_way : (rules : Rules) (bytes dir : List ℕ) (l : Lent) → Sure bytes dir l → (o : Outcome) → ReadCase (source rules bytes dir l.cur) l.kept o → reads.Holds bytes dir l.kept o
    → Sure bytes dir (left o)
unfolding left kept
read_way rules bytes dir l r o (refuses q y) h = r
read_way rules bytes dir l r o (ends a b c) h = r
read_way rules bytes dir l r o (keeps x first rows d a b g f) h =
    keeps_sure (source rules bytes dir l.cur) l.kept a x first rows d (made (source rules bytes dir l.cur) l.kept a x first rows d g) (room_each l.kept x f) h r

pub after_sure : (rules : Rules) (bytes dir : List ℕ) (l : Lent) (c : Call) → Sure bytes dir l → Sure bytes dir (after rules bytes dir l c)
unfolding after read
after_sure rules bytes dir l reading r =
    read_way rules bytes dir l r (read_of (source rules bytes dir l.cur) l.kept) (read_case _ _) (ready_holds _ _ (record { opened = r.opened; counts = r.counts }))
after_sure rules bytes dir l (claiming n b) r = r
