-- Small blocks from their streams open, and each read over them goes on to its name.
use Prim.Native.Nat.{ℕ, zero, suc, ◌+◌, ◌*◌, ◌≤◌, ◌<◌}
use Rattle.std.specs.Prelude.{None, Ok}
use mathlib.Core.Path.{◌≡◌, refl, sym, ap, ◌∙◌}
use mathlib.Core.Bool.{true}
use mathlib.Core.List.{List, [], ◌∷◌, ◌++◌}
use native.Mathlib.Omega.{arith}
use borrow.Author.Tests.{leb-true, eqb-true, eqb-false, eq-eqb}
use lib.Dec.{leb, eqb}
use lib.ListN.{length, set, replicate, length-append, length-set, length-replicate, get_or-replicate}
use lib.Seq.{get_or-set_same, get_or-set_other, ext_get_or}
use Rattle.base.specs.Choice.{both}
use Rattle.base.proofs.Choice.{both_true, by_test, pick_true}
use Rattle.block.specs.Block.{span_of, start_of, end_of, cursor_of, all_at_end, starts, state, Opening, opening, open_of}
use Rattle.block.proofs.Laws.{span_below, cursor_set_same, cursor_set_other, starts_length, starts_cursor, each_at_end, sound_of, opens_fresh}
use Rattle.tables.specs.Tables.{Kept}
use Rattle.sources.specs.Source.{source}
use Rattle.outcomes.specs.Outcomes.{Outcome, outcome}
use Rattle.inner.specs.Next.{next_of}
use Rattle.demands.specs.Runs.{Lent, lent, read, left, reading, after, run}
use Rattle.demands.specs.Cases.{draft_rules, Stream, bytes_in, dir_from, in_directory, Buffers, empty, Told, told, read_from, open_in, read_in}
use Rattle.demands.proofs.Lemmas.Ways.{ready_reads}
use Rattle.demands.proofs.Lemmas.Keeping.{Sure, fresh_sure, after_sure}

-- each cursor at its start, put together as the directory is
unfoldable pub cur_from : ℕ → List Stream → List ℕ
cur_from at [] = replicate 1290 0
cur_from at (x ∷ xs) = set (cur_from (at + length x.bytes) xs) (span_of x.position x.stream) at

-- and each at its end
unfoldable pub end_from : ℕ → List Stream → List ℕ
end_from at [] = replicate 1290 0
end_from at (x ∷ xs) = set (end_from (at + length x.bytes) xs) (span_of x.position x.stream) (at + length x.bytes)

-- a directory with one span more
module _ (dir : List ℕ) (i a b : ℕ) (h : i < 1290) (l : length dir ≡ 2580) where
  abbrev more : List ℕ
  more = set (set dir (2 * i) a) (2 * i + 1) b

  start_here : start_of more i ≡ a
  unfolding start_of
  start_here = get_or-set_other (set dir (2 * i) a) (2 * i + 1) (2 * i) b 0 (λ e. omega arith) ∙ get_or-set_same dir (2 * i) a 0 (omega arith)

  end_here : end_of more i ≡ b
  unfolding end_of
  end_here = get_or-set_same (set dir (2 * i) a) (2 * i + 1) b 0 (omega (arith, length-set dir (2 * i) a))

  start_there : (j : ℕ) → (j ≡ i → ⊥) → start_of more j ≡ start_of dir j
  unfolding start_of
  start_there j n = get_or-set_other (set dir (2 * i) a) (2 * i + 1) (2 * j) b 0 (λ e. omega arith) ∙ get_or-set_other dir (2 * i) (2 * j) a 0 (λ e. n (omega arith))

  end_there : (j : ℕ) → (j ≡ i → ⊥) → end_of more j ≡ end_of dir j
  unfolding end_of
  end_there j n = get_or-set_other (set dir (2 * i) a) (2 * i + 1) (2 * j + 1) b 0 (λ e. n (omega arith)) ∙ get_or-set_other dir (2 * i) (2 * j + 1) a 0 (λ e. omega arith)

-- spans laid from a place on
record Laid (at : ℕ) (xs : List Stream) : Type 0 where
  directory : length (dir_from at xs) ≡ 2580
  cursors : length (cur_from at xs) ≡ 1290
  ordered : (j : ℕ) → j < 1290 → start_of (dir_from at xs) j ≤ end_of (dir_from at xs) j
  within : (j : ℕ) → j < 1290 → end_of (dir_from at xs) j ≤ at + length (bytes_in xs)
  start : (j : ℕ) → j < 1290 → cursor_of (cur_from at xs) j ≡ start_of (dir_from at xs) j
  all : length (end_from at xs) ≡ 1290
  ended : (j : ℕ) → j < 1290 → cursor_of (end_from at xs) j ≡ end_of (dir_from at xs) j

no_start : (at j : ℕ) → j < 1290 → start_of (dir_from at []) j ≡ 0
unfolding start_of dir_from
no_start at j h = get_or-replicate {A = ℕ} 2580 (2 * j) 0 0 (omega arith)

no_end : (at j : ℕ) → j < 1290 → end_of (dir_from at []) j ≡ 0
unfolding end_of dir_from
no_end at j h = get_or-replicate {A = ℕ} 2580 (2 * j + 1) 0 0 (omega arith)

no_cursor : (at j : ℕ) → j < 1290 → cursor_of (cur_from at []) j ≡ 0
unfolding cursor_of cur_from
no_cursor at j h = get_or-replicate {A = ℕ} 1290 j 0 0 h

no_more : (at j : ℕ) → j < 1290 → cursor_of (end_from at []) j ≡ 0
unfolding cursor_of end_from
no_more at j h = get_or-replicate {A = ℕ} 1290 j 0 0 h

no_ends : (at : ℕ) → length (end_from at []) ≡ 1290
unfolding end_from
no_ends at = length-replicate {A = ℕ} 1290 0

no_directory : (at : ℕ) → length (dir_from at []) ≡ 2580
unfolding dir_from
no_directory at = length-replicate {A = ℕ} 2580 0

no_cursors : (at : ℕ) → length (cur_from at []) ≡ 1290
unfolding cur_from
no_cursors at = length-replicate {A = ℕ} 1290 0

laid_more : (x : Stream) (xs : List Stream) (at : ℕ) → x.position ≤ 128 → x.stream ≤ 9 → Laid (at + length x.bytes) xs → Laid at (x ∷ xs)
unfolding dir_from cur_from end_from bytes_in
laid_more x xs at a b l =
    let i : ℕ = span_of x.position x.stream in
    let h : i < 1290 = span_below x.position x.stream a b in
    let e : ℕ = at + length x.bytes in
    let d : List ℕ = dir_from e xs in
    let n : length (x.bytes ++ bytes_in xs) ≡ length x.bytes + length (bytes_in xs) = length-append x.bytes (bytes_in xs) in
    let sh : start_of (set (set d (2 * i) at) (2 * i + 1) e) i ≡ at = start_here d i at e h l.directory in
    let eh : end_of (set (set d (2 * i) at) (2 * i + 1) e) i ≡ e = end_here d i at e h l.directory in
    record {
      directory = length-set (set d (2 * i) at) (2 * i + 1) e ∙ length-set d (2 * i) at ∙ l.directory;
      cursors = length-set (cur_from e xs) i at ∙ l.cursors;
      ordered = λ j q. by_test (eqb j i) (λ t. rw (eqb-true j i t) (omega arith))
          (λ t. let m = eqb-false j i t in omega (arith, start_there d i at e h l.directory j m, end_there d i at e h l.directory j m, l.ordered j q));
      within = λ j q. by_test (eqb j i) (λ t. rw (eqb-true j i t) (omega arith))
          (λ t. let m = eqb-false j i t in omega (arith, end_there d i at e h l.directory j m, l.within j q));
      start = λ j q. by_test (eqb j i) (λ t. rw (eqb-true j i t) (cursor_set_same (cur_from e xs) i at (omega (arith, l.cursors)) ∙ sym sh))
          (λ t. let m = eqb-false j i t in cursor_set_other (cur_from e xs) i at j m ∙ l.start j q ∙ sym (start_there d i at e h l.directory j m));
      all = length-set (end_from e xs) i e ∙ l.all;
      ended = λ j q. by_test (eqb j i) (λ t. rw (eqb-true j i t) (cursor_set_same (end_from e xs) i e (omega (arith, l.all)) ∙ sym eh))
          (λ t. let m = eqb-false j i t in cursor_set_other (end_from e xs) i e j m ∙ l.ended j q ∙ sym (end_there d i at e h l.directory j m));
    }

laid : (xs : List Stream) (at : ℕ) → in_directory xs ≡ true → Laid at xs
unfolding in_directory
laid [] at e = record {
  directory = no_directory at;
  cursors = no_cursors at;
  ordered = λ j h. omega (arith, no_start at j h);
  within = λ j h. omega (arith, no_end at j h);
  start = λ j h. no_cursor at j h ∙ sym (no_start at j h);
  all = no_ends at;
  ended = λ j h. no_more at j h ∙ sym (no_end at j h);
}
laid (x ∷ xs) at e =
    let h = both_true (both (leb x.position 128) (leb x.stream 9)) (in_directory xs) e in
    let k = both_true (leb x.position 128) (leb x.stream 9) h.0 in
    laid_more x xs at (leb-true _ _ k.0) (leb-true _ _ k.1) (laid xs (at + length x.bytes) h.1)

module _ (xs : List Stream) (ok : in_directory xs ≡ true) where
  starts_laid : starts (dir_from 0 xs) ≡ cur_from 0 xs
  unfolding cursor_of
  starts_laid =
      let l : Laid 0 xs = laid xs 0 ok in
      ext_get_or 0 (starts (dir_from 0 xs)) (cur_from 0 xs) (starts_length (dir_from 0 xs) ∙ sym l.cursors)
      (λ j h. let k : j < 1290 = omega (arith, starts_length (dir_from 0 xs)) in starts_cursor (dir_from 0 xs) j k ∙ sym (l.start j k))

  all_ended : all_at_end (dir_from 0 xs) (end_from 0 xs) ≡ true
  all_ended = each_at_end (dir_from 0 xs) (end_from 0 xs) (laid xs 0 ok).ended

  -- such a block opens, whatever the cursors held
  pub opens_over : (old : List ℕ) (count : ℕ) → length old ≡ 1290 → count ≤ 65536
      → open_of (length (bytes_in xs)) (dir_from 0 xs) count old ≡ opening (Ok (state count 0 0 0)) (starts (dir_from 0 xs))
  opens_over old count e h =
      let l : Laid 0 xs = laid xs 0 ok in
      sym (opens_fresh (length (bytes_in xs)) (dir_from 0 xs) count old
      (sound_of (length (bytes_in xs)) (dir_from 0 xs) old l.directory e l.ordered (λ j k. omega (arith, l.within j k))) h)

-- over tables that are in order a read goes on to the name, and so do reads in a row
unfoldable pub nexts : List ℕ → List ℕ → ℕ → Lent → Lent
nexts bytes dir zero l = l
nexts bytes dir (suc n) l = nexts bytes dir n (left (next_of (source draft_rules bytes dir l.cur) l.kept))

module _ (bytes dir : List ℕ) where
  read_next : (l : Lent) → Sure bytes dir l → read draft_rules bytes dir l ≡ next_of (source draft_rules bytes dir l.cur) l.kept
  unfolding read
  read_next l r = ready_reads (source draft_rules bytes dir l.cur) l.kept (record { opened = r.opened; counts = r.counts })

  run_next : (n : ℕ) (l : Lent) → Sure bytes dir l → (run draft_rules bytes dir l (replicate n reading) ≡ nexts bytes dir n l) × Sure bytes dir (run draft_rules bytes dir l (replicate n reading))
  unfolding run after nexts
  run_next zero l r = (refl, r)
  run_next (suc n) l r =
      let h = run_next n (left (read draft_rules bytes dir l)) (after_sure draft_rules bytes dir l reading r) in
      (h.0 ∙ ap (λ (o : Outcome). nexts bytes dir n (left o)) (read_next l r), h.1)

-- the same of a block of so many names, with each cursor put at its start at once
unfoldable pub quick : Buffers → ℕ → ℕ → List Stream → Told
quick b count n xs =
    let l = nexts (bytes_in xs) (dir_from 0 xs) n (lent (cur_from 0 xs) (empty b (state count 0 0 0))) in
    told (next_of (source draft_rules (bytes_in xs) (dir_from 0 xs) l.cur) l.kept)

-- n reads and the one after them, which with n names is the one past the last
pub over_count : (room : Buffers) (count n : ℕ) (xs : List Stream) → count ≤ 65536 → in_directory xs ≡ true
    → read_from room n xs (open_in count xs).cursors (open_in count xs).answer ≡ quick room count n xs
unfolding open_in read_from quick
over_count room count n xs h ok =
    let b : List ℕ = bytes_in xs in
    let d : List ℕ = dir_from 0 xs in
    let m : Kept = empty room (state count 0 0 0) in
    let l : Lent = lent (starts d) m in
    let o = opens_over xs ok (replicate 1290 0) count (length-replicate {A = ℕ} 1290 0) h in
    let r = run_next b d n l (fresh_sure b d count l (record { old = replicate 1290 0; state = state count 0 0 0; opens = o; begins = refl })) in
    ap (λ (z : Opening). read_from room n xs z.cursors z.answer) o
    ∙ ap told (read_next b d (run draft_rules b d l (replicate n reading)) r.1
    ∙ ap (λ (z : Lent). next_of (source draft_rules b d z.cur) z.kept) (r.0 ∙ ap (λ (c : List ℕ). nexts b d n (lent c m)) (starts_laid xs ok)))

pub over : (room : Buffers) (n : ℕ) (xs : List Stream) → n < 65536 → in_directory xs ≡ true → read_in room n xs ≡ quick room (n + 1) n xs
unfolding read_in
over room n xs h ok = over_count room (n + 1) n xs (omega arith) ok

-- the read past the last name, with each cursor moved to its end
pub over_done : (room : Buffers) (count : ℕ) (xs : List Stream) → count ≤ 65536 → in_directory xs ≡ true
    → (l : Lent) → nexts (bytes_in xs) (dir_from 0 xs) count (lent (cur_from 0 xs) (empty room (state count 0 0 0))) ≡ l → l.kept.state.names ≡ l.kept.state.count → l.cur ≡ end_from 0 xs
    → read_from room count xs (open_in count xs).cursors (open_in count xs).answer ≡ told (outcome (Ok None) l.cur l.kept)
unfolding quick next_of
over_done room count xs h ok l e k c =
    over_count room count count xs h ok
    ∙ ap (λ (z : Lent). told (next_of (source draft_rules (bytes_in xs) (dir_from 0 xs) z.cur) z.kept)) e
    ∙ ap told (pick_true _ _ (eq-eqb _ _ k) ∙ pick_true _ _ (ap (all_at_end (dir_from 0 xs)) c ∙ all_ended xs ok))
