-- What room decides of one name, over two memories in which the same is used and of which one has at least as much room.
use Prim.Native.Nat.{ℕ, ◌+◌, ◌-◌, ◌*◌, ◌≤◌}
use Rattle.std.specs.Prelude.{Some, Ok, Err}
use Rattle.refusals.specs.declared.Reason.TheVariants as reason
use mathlib.Core.Path.{◌≡◌, refl, sym, ap, ◌∙◌, subst}
use mathlib.Core.Bool.{Bool, true, false}
use mathlib.Core.List.{List, [], ◌∷◌, ◌++◌}
use native.Mathlib.Omega.{arith}
use borrow.Author.Tests.{leb-true, le-leb}
use lib.ListN.{length, take, drop, length-append}
use lib.Seq.{take_at, length-take-le}
use Rattle.base.specs.Choice.{pick}
use Rattle.base.specs.Memory.{written}
use Rattle.base.proofs.Choice.{both_true, both_of, pick_holds, never}
use Rattle.base.proofs.Memory.{length_written}
use Rattle.base.proofs.Numbers.{by_order}
use Rattle.block.specs.declared.State.{State}
use Rattle.refusals.specs.declared.Refusal.TheVariants as refusal
use Rattle.tables.specs.declared.Row.{Row}
use Rattle.tables.specs.Tables.{Kept, keeping, Table, entry_size, room, row_room, row_at, put_rows}
use Rattle.tables.proofs.Rows.{SameRows, below_put, within_put, room_put}
use Rattle.kept.specs.Inside.{Counted}
use Rattle.sources.specs.Source.{Source}
use Rattle.names.specs.Names.{Draft, Named, named, refused}
use Rattle.entries.specs.Entries.{room_of, entry_of}
use Rattle.outcomes.specs.Outcomes.{Outcome, at_name}
use Rattle.outcomes.specs.Keeping.{room_for, kept}
use Rattle.demands.proofs.Lemmas.Making.{Room, room_each}
use Rattle.moreroom.specs.Runs as statement
use Rattle.moreroom.specs.Runs.{Larger, SameUsed, Further}
use Rattle.moreroom.specs.Fates.{fits, fate_of, FateFurther}

-- two reads that can be followed by the next: as `Further`, and the larger buffers stay larger
pub data Fares (o p : Outcome) : Type 0 where
  alike : o.answer ≡ p.answer → o.cur ≡ p.cur → SameUsed o.kept p.kept → Larger o.kept p.kept → Fares o p
  on : (k : ℕ) → o.answer ≡ Err (refusal.At reason.NoRoom k) → p.answer ≡ Ok (Some k) → Fares o p

pub further : (o p : Outcome) → Fares o p → Further o p
further o p (alike e c u g) = statement.same (record { answer = e; cursors = c; used = u })
further o p (on k e q) = statement.on k (cc) (cc)

-- up to its end, a write leaves what stood before it and what was written
front_written : (d : List ℕ) (at n : ℕ) (s : List ℕ) → at ≤ length d → n ≡ at + length s → take n (written d at s) ≡ take at d ++ s
unfolding written
front_written d at n s h e =
    take_at (take at d ++ s) (drop (at + length s) d) n
    (length-append (take at d) s ∙ ap (λ (i : ℕ). i + length s) (length-take-le at d h) ∙ sym e)

same_written : (a b : List ℕ) (at n : ℕ) (s : List ℕ) → at ≤ length a → at ≤ length b → n ≡ at + length s → take at a ≡ take at b → take n (written a at s) ≡ take n (written b at s)
same_written a b at n s h k e q = front_written a at n s h e ∙ ap (λ (l : List ℕ). l ++ s) q ∙ sym (front_written b at n s k e)

same_put : (a b : Table) (n : ℕ) (rs : List Row) (k : ℕ) → k ≡ length rs → n ≤ row_room a → n ≤ row_room b → SameRows a b n → SameRows (put_rows a n rs) (put_rows b n rs) (n + k)
same_put a b n rs k q h l e j i =
    by_order j n
    (λ below. below_put a n rs n (omega arith) h j below ∙ e j below ∙ sym (below_put b n rs n (omega arith) l j below))
    (λ above.
    let is : j ≡ n + (j - n) = omega (arith, above) in
    let at : (t : Table) → n ≤ row_room t → (other : Row) → row_at (put_rows t n rs) j ≡ _ = λ t r other. ap (row_at (put_rows t n rs)) is ∙ within_put t n rs r (j - n) other (omega (arith, i, above, q)) in
    at a h (row_at a 0) ∙ sym (at b l (row_at a 0)))

-- two choices, by a test each
pick_each : {A B : Type 0} (P : A → B → Type 0) (a b : Bool) (x y : A) (z w : B)
    → (a ≡ true → b ≡ true → P x z) → (a ≡ true → b ≡ false → P x w) → (a ≡ false → b ≡ true → P y z) → (a ≡ false → b ≡ false → P y w) → P (pick a x y) (pick b z w)
pick_each P a b x y z w tt tf ft ff =
    pick_holds (λ u. P u (pick b z w)) a x y
    (λ e. pick_holds (P x) b z w (tt e) (tf e))
    (λ e. pick_holds (P y) b z w (ft e) (ff e))

module _ (st : State) (text names text' names' : List ℕ) (rows rows' : Table) (g : Larger (keeping st text names rows) (keeping st text' names' rows')) where
  -- there still is room where no more is asked and no less is there
  room_more : (bytes added bytes' added' : ℕ) → room_of (keeping st text names rows) bytes added ≡ true → bytes' ≤ bytes → added' ≤ added → room_of (keeping st text' names' rows') bytes' added' ≡ true
  room_more bytes added bytes' added' e h k =
      let a = both_true _ _ e in
      let b = both_true _ _ a.1 in
      let t : st.text + bytes + 1 ≤ length text = leb-true _ _ a.0 in
      let n : st.names + 1 ≤ room entry_size names = leb-true _ _ b.0 in
      let r : st.rows + added ≤ row_room rows = leb-true _ _ b.1 in
      both_of (le-leb (st.text + bytes' + 1) (length text') (omega (arith, t, h, g.text)))
      (both_of (le-leb (st.names + 1) (room entry_size names') (omega (arith, n, g.names)))
      (le-leb (st.rows + added') (row_room rows') (omega (arith, r, k, g.rows))))

  -- what fits the smaller fits the larger
  fits_more : (x : Draft) → fits (keeping st text names rows) x ≡ true → fits (keeping st text' names' rows') x ≡ true
  unfolding fits
  fits_more x e = room_more _ _ _ _ e (omega arith) (omega arith)

-- `fits` is the library's judgement of room
pub fits_so : (m : Kept) (x : Draft) → fits m x ≡ room_for m x
unfolding fits room_for
fits_so m x = refl

-- a name's text with its byte 10
length_ended : (t : List ℕ) → length (t ++ (10 ∷ [])) ≡ length t + 1
length_ended t = length-append t (10 ∷ [])

module _ (s : Source) (st : State) (text names text' names' : List ℕ) (rows rows' : Table) where
  abbrev less : Kept
  less = keeping st text names rows

  abbrev more : Kept
  more = keeping st text' names' rows'

  module _ (c : Counted less) (c' : Counted more) (u : SameUsed less more) (g : Larger less more) where
    -- a name kept in both
    module _ (x : Draft) (first many d : ℕ) (whole : length x.rows ≡ x.count) where
      abbrev put : List ℕ
      put = x.text ++ (10 ∷ [])

      abbrev numbers : List ℕ
      numbers = entry_of st (length x.text) first many d

      kept_used : SameUsed (kept less x first many d).kept (kept more x first many d).kept
      unfolding kept
      kept_used =
          let bytes : st.text + length x.text + 1 ≡ st.text + length put = omega (arith, length_ended x.text) in
          let entry : entry_size * (st.names + 1) ≡ entry_size * st.names + length numbers = omega arith in
          record {
            state = refl;
            parts = record {
              text = same_written text text' st.text _ put c.used c'.used bytes u.parts.text;
              names = same_written names names' (entry_size * st.names) _ numbers c.entries c'.entries entry u.parts.names;
              rows = same_put rows rows' st.rows x.rows x.count (sym whole) c.rows_used c'.rows_used u.parts.rows;
            };
          }

      kept_larger : Room less x → Room more x → Larger (kept less x first many d).kept (kept more x first many d).kept
      unfolding kept room
      kept_larger h h' =
          let ended = length_ended x.text in
          let a : length (written text st.text put) ≡ length text = length_written text st.text put (omega (arith, ended, h.text)) in
          let a' : length (written text' st.text put) ≡ length text' = length_written text' st.text put (omega (arith, ended, h'.text)) in
          let b : length (written names (entry_size * st.names) numbers) ≡ length names = length_written names (entry_size * st.names) numbers h.names in
          let b' : length (written names' (entry_size * st.names) numbers) ≡ length names' = length_written names' (entry_size * st.names) numbers h'.names in
          let r : row_room (put_rows rows st.rows x.rows) ≡ row_room rows = room_put rows st.rows x.rows (omega (arith, whole, h.rows)) in
          let r' : row_room (put_rows rows' st.rows x.rows) ≡ row_room rows' = room_put rows' st.rows x.rows (omega (arith, whole, h'.rows)) in
          record { text = rw (a, a') g.text; names = rw (b, b') g.names; rows = rw (r, r') g.rows }

    -- 9 comes last, and asks for nothing but room: so with more room the same, or that name is kept
    pub fate_fares : (n : Named) (first many d : ℕ) → ((x : Draft) → n ≡ named x → length x.rows ≡ x.count) → Fares (fate_of s less n first many d) (fate_of s more n first many d)
    unfolding fate_of at_name kept
    fate_fares (refused r) first many d whole = alike (cc) (cc) u g
    fate_fares (named x) first many d whole =
        pick_each Fares (fits less x) (fits more x) _ _ _ _
        (λ e f.
        alike (cc) (cc) (kept_used x first many d (whole x refl))
        (kept_larger x first many d (whole x refl) (room_each less x (sym (fits_so less x) ∙ e)) (room_each more x (sym (fits_so more x) ∙ f))))
        (λ e f. absurd (never (sym f ∙ fits_more st text names text' names' rows rows' g x e)))
        (λ e f. on st.names (cc) (cc))
        (λ e f. alike (cc) (cc) u g)

pub fate_further : FateFurther
fate_further s m w n first many d c c' whole u g =
    let k : State → Kept = λ (st : State). keeping st w.text w.names w.rows in
    subst (λ (st : State). Counted (k st) → SameUsed m (k st) → Larger m (k st) → Further (fate_of s m n first many d) (fate_of s (k st) n first many d)) u.state
    (λ e v h. further _ _ (fate_fares s m.state m.text m.names w.text w.names m.rows w.rows c e v h n first many d whole))
    c' u g
