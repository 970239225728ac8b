-- One read over two memories in which the same is used, of which one has at least as much room.
use Prim.Native.Nat.{ℕ, ◌+◌, ◌-◌, ◌*◌, ◌≤◌, ◌<◌}
use Rattle.refusals.specs.declared.Reason.{Reason}
use Rattle.distances.specs.Distances.{Head}
use Rattle.std.specs.Prelude.{Ok, Err}
use Rattle.distances.specs.declared.Reference.TheVariants as reference
use mathlib.Core.Path.{◌≡◌, refl, sym, ap, subst}
use mathlib.Core.List.{List, []}
use native.Mathlib.Omega.{arith}
use borrow.Author.Tests.{eqb-false}
use lib.Dec.{eqb}
use lib.ListN.{length}
use Rattle.base.specs.Memory.{part}
use Rattle.base.proofs.Choice.{pick_two, pick_true}
use Rattle.base.proofs.Below.{same_at, same_part}
use Rattle.block.specs.declared.State.{State}
use Rattle.block.specs.Block.{all_at_end}
use Rattle.block.specs.Open.{Open}
use Rattle.block.specs.Streams.{dup_stream, diff_stream}
use Rattle.tables.specs.declared.Entry.{Entry}
use Rattle.tables.specs.Tables.{Kept, keeping, Table, entry_size, entry_at}
use Rattle.kept.specs.Inside.{Counted, EntryInside}
use Rattle.kept.proofs.Laws as judged
use Rattle.kept.proofs.Frame.{entry_alike}
use Rattle.numbering.specs.Types.{Rules}
use Rattle.sources.specs.Source.{Source, source, Earlier, earlier}
use Rattle.repeats.specs.Sound.{Rows}
use Rattle.repeats.proofs.Laws.{rows_none, rows_judged}
use Rattle.names.specs.Names.{Draft, draft, Named, named, refused, name_of}
use Rattle.names.specs.Judge.{draft_of}
use Rattle.outcomes.specs.Outcomes.{Outcome, plain, at_name}
use Rattle.outcomes.specs.Keeping.{keep_of}
use Rattle.heads.specs.Heads.{head_of, head_past}
use Rattle.heads.proofs.Heads.{dup_told, diff_told}
use Rattle.earlier.specs.Back.{rows_of, none, entry_back}
use Rattle.earlier.specs.Fits.{AllFit}
use Rattle.copying.specs.Copies.{dup_of}
use Rattle.naming.specs.Naming.{named_of, diff_of}
use Rattle.inner.specs.Next.{headed_of, next_of}
use Rattle.reads.specs.Reads.{read_of}
use Rattle.reads.proofs.Holding.{read_next}
use Rattle.reads.proofs.Fitting.{name_rowed}
use Rattle.demands.specs.Runs.{Lent, read}
use Rattle.demands.proofs.Lemmas.Frames.{name_alike}
use Rattle.demands.proofs.Lemmas.Keeping.{Sure}
use Rattle.moreroom.specs.Fates.{fate_of, count_of, NamesSo, copy_of, CopiesSo}
use Rattle.moreroom.specs.Runs.{Larger, SameUsed}
use Rattle.moreroom.proofs.Fates.{Fares, alike, fits_so, fate_fares}

-- Rules 3 and 4 end in the fate of a name

names_so : NamesSo
unfolding named_of fate_of keep_of count_of
names_so s m d (named x) = rw (fits_so m x) refl
names_so s m d (refused r) = refl

copies_so : CopiesSo
unfolding dup_of fate_of keep_of
copies_so s m d e = rw (fits_so m (draft (part m.text e.start (e.start + e.length)) [] 0 (head_past s.cur dup_stream))) refl

module _ (rules : Rules) (bytes dir cur : List ℕ) (st : State) (text names text' names' : List ℕ) (rows rows' : Table) where
  abbrev s : Source
  s = source rules bytes dir cur

  abbrev less : Kept
  less = keeping st text names rows

  abbrev more : Kept
  more = keeping st text' names' rows'

  module _ (o : Open bytes dir cur) (c : Counted less) (c' : Counted more) (f : AllFit less) (f' : AllFit more) (u : SameUsed less more) (g : Larger less more) where
    entry_same : (i : ℕ) → i < st.names → entry_at names' i ≡ entry_at names i
    entry_same = entry_alike names' names st.names (same_at names' names (entry_size * st.names) (sym u.parts.names))

    -- rule 4
    named_fares : (d : ℕ) (n : Named) → ((x : Draft) → n ≡ named x → length x.rows ≡ x.count) → Fares (named_of s less d n) (named_of s more d n)
    named_fares d n whole = rw (names_so s less d n, names_so s more d n) (fate_fares s st text names text' names' rows rows' c c' u g n st.rows (count_of n) d whole)

    diff_fares : (d first count : ℕ) → Rows st.text (earlier text rows first count) → first + count ≤ st.rows
        → Fares (diff_of s less d (earlier text rows first count)) (diff_of s more d (earlier text' rows' first count))
    unfolding diff_of
    diff_fares d first count known h =
        let e : Earlier = earlier text rows first count in
        rw (name_alike s text text' rows rows' first count st.text known u.parts.text (λ j l. u.parts.rows j (omega (arith, l, h))) st.text (head_past cur diff_stream))
        (named_fares d (name_of s e st.text (head_past cur diff_stream)) (λ x q. (name_rowed s e st.text o known (head_past cur diff_stream) x q).whole))

    -- rule 3
    copy_fares : (d : ℕ) (e : Entry) → EntryInside st rows e → Fares (dup_of s less d e) (dup_of s more d e)
    unfolding draft_of
    copy_fares d e i =
        rw (copies_so s less d e, copies_so s more d e, ← same_part text text' st.text u.parts.text e.start (e.start + e.length) (omega arith) i.text.ends)
        (fate_fares s st text names text' names' rows rows' c c' u g (copy_of s text e) e.first e.rows d (λ x q. subst (λ (y : Draft). length y.rows ≡ y.count) (ap draft_of q) refl))

    at_fares : (r : Reason) → Fares (at_name s less r) (at_name s more r)
    unfolding at_name
    at_fares r = alike refl refl u g

    dups_fare : (d : ℕ) → 1 ≤ d → d ≤ st.names → Fares (headed_of s less (Ok (reference.Dup (record { 0 = d })))) (headed_of s more (Ok (reference.Dup (record { 0 = d }))))
    unfolding headed_of entry_back
    dups_fare d h l =
        let i : ℕ = st.names - d in
        let b : i < st.names = omega arith in
        rw (pick_true _ _ (f i b), pick_true _ _ (f' i b), entry_same i b) (copy_fares d (entry_at names i) (judged.earlier less i (f i b)))

    diffs_fare : (d : ℕ) → d ≤ st.names → Fares (headed_of s less (Ok (reference.Diff (record { 0 = d })))) (headed_of s more (Ok (reference.Diff (record { 0 = d }))))
    unfolding headed_of entry_back none rows_of
    diffs_fare d l =
        pick_two Fares (eqb d 0) _ _ _ _ (λ z. diff_fares 0 0 0 (rows_none st.text text rows c.used) (omega arith))
        (λ z.
        let some = eqb-false d 0 z in
        let i : ℕ = st.names - d in
        let b : i < st.names = omega arith in
        let e = judged.earlier less i (f i b) in
        rw (pick_true _ _ (f i b), pick_true _ _ (f' i b), entry_same i b) (diff_fares d _ _ (rows_judged st text rows (entry_at names i) c.rows_used c.used e) e.rows.ends))

    headed_fares : (h : Head) → head_of s st.names ≡ h → Fares (headed_of s less h) (headed_of s more h)
    unfolding headed_of
    headed_fares (Ok (reference.Dup d)) q = let t = dup_told s st.names d q in dups_fare d.0 t.0 t.1.near
    headed_fares (Ok (reference.Diff d)) q = diffs_fare d.0 (diff_told s st.names d q).near
    headed_fares (Err r) q = at_fares r

    next_fares : Fares (next_of s less) (next_of s more)
    unfolding next_of plain
    next_fares =
        pick_two Fares (eqb st.names st.count) _ _ _ _
        (λ a. pick_two Fares (all_at_end dir cur) _ _ _ _ (λ b. alike refl refl u g) (λ b. alike refl refl u g))
        (λ a. headed_fares (head_of s st.names) refl)

    same_fares : Fares (read_of s less) (read_of s more)
    same_fares = rw (read_next rules bytes dir cur text names rows st o c, read_next rules bytes dir cur text' names' rows' st o c') next_fares

-- a read of each, from cursors that are equal
pub read_fares : (rules : Rules) (bytes dir : List ℕ) (l w : Lent) → Sure bytes dir l → Sure bytes dir w → l.cur ≡ w.cur → SameUsed l.kept w.kept → Larger l.kept w.kept
    → Fares (read rules bytes dir l) (read rules bytes dir w)
unfolding read
read_fares rules bytes dir l w a b e u g =
    let m : Kept = l.kept in
    let k : State → Kept = λ (st : State). keeping st w.kept.text w.kept.names w.kept.rows in
    let o : Outcome = read_of (source rules bytes dir l.cur) m in
    subst (λ (cur : List ℕ). Fares o (read_of (source rules bytes dir cur) w.kept)) e
    (subst (λ (st : State). Counted (k st) → AllFit (k st) → SameUsed m (k st) → Larger m (k st) → Fares o (read_of (source rules bytes dir l.cur) (k st))) u.state
    (λ c f v h.
    same_fares rules bytes dir l.cur m.state m.text m.names w.kept.text w.kept.names m.rows w.kept.rows a.opened a.counts c a.fits f v h)
    b.counts b.fits u g)
