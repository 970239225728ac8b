-- Laws of a block's directory and cursors: what the judgements tell of each span, and what opening leaves.
use Prim.Native.Nat.{ℕ, zero, suc, ◌+◌, ◌*◌, ◌^◌, ◌≤◌, ◌<◌}
use Rattle.refusals.specs.declared.Reason.{Reason}
use Rattle.std.specs.Prelude.{Ok, Err, Result, ⊤}
use Rattle.refusals.specs.declared.Reason.TheVariants as reason
use mathlib.Core.Path.{◌≡◌, refl, sym, ap, ◌∙◌}
use mathlib.Core.Bool.{Bool, true, false, not}
use mathlib.Core.List.{List, ◌++◌, append-nil}
use mathlib.Core.Logic.{⊎_elim}
use native.Mathlib.Omega.{arith}
use native.Mathlib.Nat.{add-zero, zero-add}
use native.Mathlib.Numerals.{add-one}
use borrow.Author.Tests.{leb-true, eqb-true, eqb-false, le-leb, eq-eqb, ne_eqb, lt-ltb, le-ltb}
use lib.Dec.{leb, eqb}
use lib.ListN.{length, drop, get_or, set, length-set}
use lib.Seq.{get_or-set_same, get_or-set_other, paste, paste-suc, take_all, drop-length}
use Rattle.base.specs.Choice.{pick, both}
use Rattle.base.specs.Every.{each}
use Rattle.base.proofs.Choice.{both_true, both_of, both_left, both_right, took, left, pick_true, by_test}
use Rattle.base.proofs.Numbers.{lt_or_ge}
use Rattle.block.specs.Block.{span_of, start_of, end_of, cursor_of, span_sound, sound_from, sound, inside, all_inside, verdict, verdict_of, at_end, all_at_end, starts_from, starts, Opening, opening, open_of}
use Rattle.block.specs.declared.State.{State}
use Rattle.refusals.specs.declared.Refusal.TheVariants.{Plain}
use Rattle.block.specs.Open.{Open}
use Rattle.base.proofs.Every.{every_each, each_every, every_same}
use Rattle.block.specs.Streams.{stream_number}
use Rattle.block.specs.declared.Stream.{Stream}
use Rattle.block.specs.declared.Stream.TheVariants as stream

-- a position and a stream have a span of their own
pub span_below : (p s : ℕ) → p ≤ 128 → s ≤ 9 → span_of p s < 1290
unfolding span_of
span_below p s h k = omega arith

pub stream_below : (s : Stream) → stream_number s ≤ 9
stream_below stream.Type = omega arith
stream_below stream.String = omega arith
stream_below stream.Char = omega arith
stream_below stream.Digits0 = omega arith
stream_below stream.Dzlen = omega arith
stream_below stream.Dup = omega arith
stream_below stream.Diff = omega arith
stream_below stream.Digits = omega arith
stream_below stream.Ddelta = omega arith
stream_below stream.Ddelta0 = omega arith

-- so a stream of a position is one of all spans
pub span_inside : (p : ℕ) (s : Stream) → p ≤ 128 → span_of p (stream_number s) < 1290
span_inside p s h = span_below p (stream_number s) h (stream_below s)

pub span_stream : (p s q t : ℕ) → s ≤ 9 → t ≤ 9 → span_of p s ≡ span_of q t → s ≡ t
unfolding span_of
span_stream p s q t h k e = omega arith

two_le : (a b c d : ℕ) → both (leb a b) (leb c d) ≡ true → (a ≤ b) × (c ≤ d)
two_le a b c d t = let e = both_true (leb a b) (leb c d) t in (leb-true a b e.0, leb-true c d e.1)

span_sound_law : (len : ℕ) (dir : List ℕ) (i : ℕ) → span_sound len dir i ≡ true → (start_of dir i ≤ end_of dir i) × (end_of dir i ≤ len)
unfolding span_sound
span_sound_law len dir i t = let e = two_le (start_of dir i) (end_of dir i) (end_of dir i) _ t in (e.0, omega (arith, e.1))

-- bounds that tell ends of 32 bits alike
pub sound_reach : (m n : ℕ) (dir : List ℕ) → ((k : ℕ) → get_or dir k 0 < 2 ^ 32) → ((end : ℕ) → end < 2 ^ 32 → leb end m ≡ leb end n)
    → sound_from m dir 0 1290 ≡ sound_from n dir 0 1290
unfolding span_sound end_of
sound_reach m n dir w h = every_same (span_sound m dir) (span_sound n dir) 1290 0 (λ j a b. rw (h (get_or dir (2 * j + 1) 0) (w (2 * j + 1))))

cursor_inside : (dir cur : List ℕ) (i : ℕ) → inside dir cur i ≡ true → (start_of dir i ≤ cursor_of cur i) × (cursor_of cur i ≤ end_of dir i)
unfolding inside
cursor_inside dir cur i = two_le (start_of dir i) (cursor_of cur i) (cursor_of cur i) (end_of dir i)

module _ (len : ℕ) (dir cur : List ℕ) where
  -- a sound directory, test by test
  pub not_directory : (length dir ≡ 2580 → ⊥) → sound len dir cur ≡ false
  unfolding sound
  not_directory d = both_left _ (ne_eqb _ _ d)

  pub not_table : length dir ≡ 2580 → (length cur ≡ 1290 → ⊥) → sound len dir cur ≡ false
  unfolding sound
  not_table d c = both_right (eq-eqb _ _ d) (both_left _ (ne_eqb _ _ c))

  pub sound_is : length dir ≡ 2580 → length cur ≡ 1290 → sound_from len dir 0 1290 ≡ sound len dir cur
  unfolding sound
  sound_is d c = took _ _ (eq-eqb _ _ d) (took _ _ (eq-eqb _ _ c) refl)

  pub sound_directory : sound len dir cur ≡ true → length dir ≡ 2580
  unfolding sound
  sound_directory t = eqb-true _ _ (both_true (eqb (length dir) 2580) (both (eqb (length cur) 1290) (sound_from len dir 0 1290)) t).0

  pub sound_table : sound len dir cur ≡ true → length cur ≡ 1290
  unfolding sound
  sound_table t =
      eqb-true _ _
      (both_true (eqb (length cur) 1290) (sound_from len dir 0 1290)
      (both_true (eqb (length dir) 2580) (both (eqb (length cur) 1290) (sound_from len dir 0 1290)) t).1).0

  sound_spans : sound len dir cur ≡ true → sound_from len dir 0 1290 ≡ true
  unfolding sound
  sound_spans t =
      (both_true (eqb (length cur) 1290) (sound_from len dir 0 1290)
      (both_true (eqb (length dir) 2580) (both (eqb (length cur) 1290) (sound_from len dir 0 1290)) t).1).1

  pub sound_start : sound len dir cur ≡ true → (i : ℕ) → i < 1290 → start_of dir i ≤ end_of dir i
  sound_start t i h = (span_sound_law len dir i (every_each (span_sound len dir) 1290 0 i (sound_spans t) (omega arith) (omega arith))).0

  pub sound_end : sound len dir cur ≡ true → (i : ℕ) → i < 1290 → end_of dir i ≤ len
  sound_end t i h = (span_sound_law len dir i (every_each (span_sound len dir) 1290 0 i (sound_spans t) (omega arith) (omega arith))).1

  pub sound_of : length dir ≡ 2580 → length cur ≡ 1290 → ((i : ℕ) → i < 1290 → start_of dir i ≤ end_of dir i) → ((i : ℕ) → i < 1290 → end_of dir i ≤ len) → sound len dir cur ≡ true
  unfolding sound span_sound
  sound_of d c s e =
      both_of (eq-eqb _ _ d)
      (both_of (eq-eqb _ _ c)
      (each_every (span_sound len dir) 1290 0 (λ j h k. both_of (le-leb _ _ (s j (omega arith))) (le-leb _ _ (e j (omega arith))))))

module _ (dir cur : List ℕ) where
  pub inside_low : all_inside dir cur ≡ true → (i : ℕ) → i < 1290 → start_of dir i ≤ cursor_of cur i
  unfolding all_inside
  inside_low t i h = (cursor_inside dir cur i (every_each (inside dir cur) 1290 0 i t (omega arith) (omega arith))).0

  pub inside_high : all_inside dir cur ≡ true → (i : ℕ) → i < 1290 → cursor_of cur i ≤ end_of dir i
  unfolding all_inside
  inside_high t i h = (cursor_inside dir cur i (every_each (inside dir cur) 1290 0 i t (omega arith) (omega arith))).1

  pub inside_of : ((i : ℕ) → i < 1290 → start_of dir i ≤ cursor_of cur i) → ((i : ℕ) → i < 1290 → cursor_of cur i ≤ end_of dir i) → all_inside dir cur ≡ true
  unfolding all_inside inside
  inside_of s e = each_every (inside dir cur) 1290 0 (λ j h k. both_of (le-leb _ _ (s j (omega arith))) (le-leb _ _ (e j (omega arith))))

  -- "done": every cursor equals its end
  pub at_end_each : all_at_end dir cur ≡ true → (i : ℕ) → i < 1290 → cursor_of cur i ≡ end_of dir i
  unfolding all_at_end at_end
  at_end_each t i h = eqb-true _ _ (every_each (at_end dir cur) 1290 0 i t (omega arith) (omega arith))

  pub each_at_end : ((i : ℕ) → i < 1290 → cursor_of cur i ≡ end_of dir i) → all_at_end dir cur ≡ true
  unfolding all_at_end at_end
  each_at_end e = each_every (at_end dir cur) 1290 0 (λ j h k. eq-eqb _ _ (e j (omega arith)))

-- what one pass over both tables judges of a span
unfoldable pub fine : ℕ → List ℕ → List ℕ → ℕ → Bool
fine len dir cur i = both (inside dir cur i) (leb (end_of dir i) len)

abbrev pub all_fine : ℕ → List ℕ → List ℕ → Bool
all_fine len dir cur = each (fine len dir cur) 0 1290

module _ (len : ℕ) (dir cur : List ℕ) where
  fine_at : all_fine len dir cur ≡ true → (i : ℕ) → i < 1290 → (inside dir cur i ≡ true) × (leb (end_of dir i) len ≡ true)
  unfolding fine
  fine_at t i h = both_true (inside dir cur i) (leb (end_of dir i) len) (every_each (fine len dir cur) 1290 0 i t (omega arith) (omega arith))

  -- a cursor inside shows that the start isn't above the end
  pub fine_sound : all_fine len dir cur ≡ true → sound_from len dir 0 1290 ≡ true
  unfolding span_sound
  fine_sound t =
      each_every (span_sound len dir) 1290 0
      (λ j h k.
      let e = fine_at t j (omega arith) in
      let c = cursor_inside dir cur j e.0 in
      both_of (le-leb (start_of dir j) (end_of dir j) (omega arith)) e.1)

  pub fine_inside : all_fine len dir cur ≡ true → all_inside dir cur ≡ true
  unfolding all_inside
  fine_inside t = each_every (inside dir cur) 1290 0 (λ j h k. (fine_at t j (omega arith)).0)

  pub both_fine : sound_from len dir 0 1290 ≡ true → all_inside dir cur ≡ true → all_fine len dir cur ≡ true
  unfolding fine all_inside span_sound
  both_fine s t =
      each_every (fine len dir cur) 1290 0
      (λ j h k.
      both_of (every_each (inside dir cur) 1290 0 j t h k) (both_true (leb (start_of dir j) (end_of dir j)) (leb (end_of dir j) len) (every_each (span_sound len dir) 1290 0 j s h k)).1)

-- what a verdict says of each judgement
says_unsound : (a b : Bool) → verdict a b ≡ Err reason.Unsound → a ≡ false
unfolding pick
says_unsound true true e = cc
says_unsound true false e = cc
says_unsound false b e = refl

says_outside : (a b : Bool) → verdict a b ≡ Err reason.Outside → (a ≡ true) × (b ≡ false)
unfolding pick
says_outside true true e = (refl, cc)
says_outside true false e = (refl, refl)
says_outside false b e = (cc, cc)

says_inside : (a b : Bool) → verdict a b ≡ Ok tt → (a ≡ true) × (b ≡ true)
unfolding pick
says_inside true true e = (refl, refl)
says_inside true false e = (refl, cc)
says_inside false b e = (cc, cc)

module _ (len : ℕ) (dir cur : List ℕ) where
  pub verdict_unsound : verdict_of len dir cur ≡ Err reason.Unsound → sound len dir cur ≡ false
  unfolding verdict_of
  verdict_unsound e = says_unsound (sound len dir cur) (all_inside dir cur) e

  pub verdict_outside : verdict_of len dir cur ≡ Err reason.Outside → (sound len dir cur ≡ true) × (all_inside dir cur ≡ false)
  unfolding verdict_of
  verdict_outside e = says_outside (sound len dir cur) (all_inside dir cur) e

  pub verdict_inside : verdict_of len dir cur ≡ Ok tt → (sound len dir cur ≡ true) × (all_inside dir cur ≡ true)
  unfolding verdict_of
  verdict_inside e = says_inside (sound len dir cur) (all_inside dir cur) e

module _ (bytes dir cur : List ℕ) where
  pub judged_open : sound (length bytes) dir cur ≡ true → all_inside dir cur ≡ true → Open bytes dir cur
  judged_open s t =
      record {
        directory = sound_directory (length bytes) dir cur s;
        table = sound_table (length bytes) dir cur s;
        ordered = sound_start (length bytes) dir cur s;
        within = sound_end (length bytes) dir cur s;
        started = inside_low dir cur t;
        unpassed = inside_high dir cur t;
      }

  pub open_sound : Open bytes dir cur → sound (length bytes) dir cur ≡ true
  open_sound o = sound_of (length bytes) dir cur o.directory o.table o.ordered o.within

  pub open_inside : Open bytes dir cur → all_inside dir cur ≡ true
  open_inside o = inside_of dir cur o.started o.unpassed

module _ (cur : List ℕ) (i v : ℕ) where
  pub cursor_set_same : i < length cur → cursor_of (set cur i v) i ≡ v
  unfolding cursor_of
  cursor_set_same h = get_or-set_same cur i v 0 h

  pub cursor_set_other : (j : ℕ) → (j ≡ i → ⊥) → cursor_of (set cur i v) j ≡ cursor_of cur j
  unfolding cursor_of
  cursor_set_other j e = get_or-set_other cur i j v 0 e

-- a cursor that moves on inside its span keeps a block open
module _ (bytes dir cur : List ℕ) (i v : ℕ) (o : Open bytes dir cur) (h : i < 1290) (low : cursor_of cur i ≤ v) (high : v ≤ end_of dir i) where
  between : (j : ℕ) → j < 1290 → (start_of dir j ≤ cursor_of (set cur i v) j) × (cursor_of (set cur i v) j ≤ end_of dir j)
  between j k =
      by_test (eqb j i)
      (λ t.
      let s = cursor_set_same cur i v (omega (arith, o.table)) in
      rw (eqb-true j i t) (omega (arith, o.started i h), omega arith))
      (λ t.
      let s = cursor_set_other cur i v j (eqb-false j i t) in
      (omega (arith, o.started j k), omega (arith, o.unpassed j k)))

  pub open_set : Open bytes dir (set cur i v)
  open_set =
      record {
        directory = o.directory;
        table = length-set cur i v ∙ o.table;
        ordered = o.ordered;
        within = o.within;
        started = λ j k. (between j k).0;
        unpassed = λ j k. (between j k).1;
      }

starts_from_length : (dir : List ℕ) (n i : ℕ) → length (starts_from dir i n) ≡ n
unfolding starts_from
starts_from_length dir zero i = refl
starts_from_length dir (suc n) i = ap suc (starts_from_length dir n (i + 1))

starts_from_at : (dir : List ℕ) (n i j : ℕ) → j < n → get_or (starts_from dir i n) j 0 ≡ start_of dir (i + j)
unfolding starts_from
starts_from_at dir zero i j h = absurd (omega arith)
starts_from_at dir (suc n) i zero h = rw add-zero
starts_from_at dir (suc n) i (suc j) h = starts_from_at dir n (i + 1) j (omega arith) ∙ ap (start_of dir) (omega arith)

pub starts_length : (dir : List ℕ) → length (starts dir) ≡ 1290
unfolding starts
starts_length dir = starts_from_length dir 1290 0

pub starts_at : (dir : List ℕ) (i : ℕ) → i < 1290 → get_or (starts dir) i 0 ≡ start_of dir i
unfolding starts
starts_at dir i h = starts_from_at dir 1290 0 i h ∙ ap (start_of dir) (omega arith)

pub starts_cursor : (dir : List ℕ) (i : ℕ) → i < 1290 → cursor_of (starts dir) i ≡ start_of dir i
unfolding cursor_of
starts_cursor dir i h = starts_at dir i h

-- a turn of the loop that sets the cursors, and its end
pub starts_turn : (dir cur : List ℕ) (i : ℕ) → length cur ≡ 1290 → i < 1290 → set (paste cur 0 (starts dir) i) i (start_of dir i) ≡ paste cur 0 (starts dir) (i + 1)
starts_turn dir cur i h k =
    ap (λ (v : ℕ). set (paste cur 0 (starts dir) i) i v) (sym (starts_at dir i k))
    ∙ ap (λ (j : ℕ). set (paste cur 0 (starts dir) i) j (get_or (starts dir) i 0)) (sym (zero-add i))
    ∙ paste-suc cur 0 (starts dir) i 0 (omega arith) (omega (arith, starts_length dir))
    ∙ ap (λ (n : ℕ). paste cur 0 (starts dir) n) (sym (add-one i))

pub starts_done : (dir cur : List ℕ) (i : ℕ) → length cur ≡ 1290 → i ≡ 1290 → paste cur 0 (starts dir) i ≡ starts dir
starts_done dir cur i h e =
    let l : 0 + i ≡ length cur = omega arith in
    ap (λ (s : List ℕ). s ++ drop (0 + i) cur) (take_all i (starts dir) (omega (arith, starts_length dir)))
    ∙ ap (λ (n : ℕ). starts dir ++ drop n cur) l
    ∙ ap (λ (s : List ℕ). starts dir ++ s) (drop-length cur)
    ∙ append-nil (starts dir)

-- cursors at the starts of sound spans are inside them
pub sound_open : (bytes dir cur : List ℕ) → sound (length bytes) dir cur ≡ true → Open bytes dir (starts dir)
sound_open bytes dir cur t =
    record {
      directory = sound_directory (length bytes) dir cur t;
      table = starts_length dir;
      ordered = sound_start (length bytes) dir cur t;
      within = sound_end (length bytes) dir cur t;
      started = λ i h. omega (arith, starts_cursor dir i h);
      unpassed = λ i h. omega (arith, starts_cursor dir i h, sound_start (length bytes) dir cur t i h);
    }

-- what opening does, case by case
module _ (len : ℕ) (dir : List ℕ) (count : ℕ) (cur : List ℕ) where
  pub opens_unsound : sound len dir cur ≡ false → opening (Err (Plain reason.Unsound)) cur ≡ open_of len dir count cur
  unfolding open_of
  opens_unsound t = took _ _ (ap not t) refl

  pub opens_many : sound len dir cur ≡ true → 65536 < count → opening (Err (Plain reason.BadCount)) cur ≡ open_of len dir count cur
  unfolding open_of
  opens_many t h = left _ _ (ap not t) (took _ _ (lt-ltb _ _ h) refl)

  pub opens_fresh : sound len dir cur ≡ true → count ≤ 65536
      → opening (Ok (record { count = count; names = 0; text = 0; rows = 0 })) (starts dir) ≡ open_of len dir count cur
  unfolding open_of
  opens_fresh t h = left _ _ (ap not t) (left _ _ (le-ltb _ _ h) refl)

-- what an accepted opening tells
pub record Accepted (len : ℕ) (dir : List ℕ) (count : ℕ) (cur : List ℕ) (s : State) (now : List ℕ) : Type 0 where
  pub judged : sound len dir cur ≡ true
  pub few : count ≤ 65536
  pub state : s ≡ record { count = count; names = 0; text = 0; rows = 0 }
  pub cursors : now ≡ starts dir

pub accepted : (len : ℕ) (dir : List ℕ) (count : ℕ) (cur : List ℕ) {s : State} {now : List ℕ} → open_of len dir count cur ≡ opening (Ok s) now → Accepted len dir count cur s now
accepted len dir count cur {s} {now} e =
    by_test (sound len dir cur)
    (λ t.
    ⊎_elim
    (λ (h : 65536 < count).
    let q : Err (Plain reason.BadCount) ≡ Ok s = ap (λ (o : Opening). o.answer) (opens_many len dir count cur t h ∙ e) in
    let z : ◌≡◌ {A = ℕ} 0 1 = cc in absurd (omega arith))
    (λ (h : count ≤ 65536).
    let r = opens_fresh len dir count cur t h ∙ e in
    let q = ap (λ (o : Opening). o.answer) r in
    record { judged = t; few = h; state = cc; cursors = sym (ap (λ (o : Opening). o.cursors) r) })
    (lt_or_ge 65536 count))
    (λ t.
    let q : Err (Plain reason.Unsound) ≡ Ok s = ap (λ (o : Opening). o.answer) (opens_unsound len dir count cur t ∙ e) in
    let z : ◌≡◌ {A = ℕ} 0 1 = cc in absurd (omega arith))

pub accepted_open : (bytes dir : List ℕ) (count : ℕ) (cur : List ℕ) {s : State} {now : List ℕ} → open_of (length bytes) dir count cur ≡ opening (Ok s) now → Open bytes dir now
accepted_open bytes dir count cur e =
    let a = accepted (length bytes) dir count cur e in
    rw a.cursors (sound_open bytes dir cur a.judged)
