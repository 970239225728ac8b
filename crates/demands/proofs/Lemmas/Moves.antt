-- Cursors that move: by how much.
use Prim.Native.Nat.{ℕ, suc, ◌+◌, ◌*◌, ◌≤◌, ◌<◌}
use mathlib.Core.Path.{◌≡◌, refl, sym, ap, ◌∙◌, subst}
use mathlib.Core.List.{List, []}
use native.Mathlib.Omega.{arith}
use native.Mathlib.Nat.{add-zero, add_assoc}
use borrow.Author.Tests.{eqb-true, eqb-false, eq-eqb, ne_eqb}
use lib.Dec.{eqb}
use lib.ListN.{length, set, length-set}
use Rattle.base.proofs.Choice.{by_test, pick_true, pick_false}
use Rattle.spans.specs.declared.Cursor.{Cursor}
use Rattle.spans.proofs.Laws.{end_found}
use Rattle.block.specs.Block.{span_of, cursor_of}
use Rattle.block.proofs.Laws.{span_below, cursor_set_same, cursor_set_other}
use Rattle.block.specs.Streams.{dzlen_stream, diff_stream}
use Rattle.numbering.specs.declared.TokenType.{TokenType}
use Rattle.numbering.specs.declared.TokenType.TheVariants as type
use Rattle.tokens.specs.declared.Token.{Token}
use Rattle.sources.specs.Source.{Source, Earlier}
use Rattle.names.specs.Names.{Draft, draft, grown, ended, type_at}
use Rattle.moving.specs.Moves.{past, value_past}
use Rattle.moving.proofs.Moves.{past_later, value_later}
use Rattle.names.proofs.Frames.{SameFrom}
use Rattle.heads.specs.Heads.{head_past}
use Rattle.heads.proofs.Heads.{head_same}
use Rattle.demands.specs.Takes.{from, text_takes, value_takes, position_takes, takes_from, head_takes}
use Rattle.demands.proofs.Lemmas.Traces.{text_stop, Value, string, char, digits, digits0, delta, delta0, match, Trace, last, then}

from_here : (i n j : ℕ) → j ≡ i → from i n j ≡ n
unfolding from
from_here i n j e = pick_true n 0 (eq-eqb j i e)

from_other : (i n j : ℕ) → (j ≡ i → ⊥) → from i n j ≡ 0
unfolding from
from_other i n j e = pick_false n 0 (ne_eqb j i e)

-- from some cursors to others: each moves by so many bytes
pub record Moves (cur next : List ℕ) (amount : ℕ → ℕ) : Type 0 where
  pub lengths : length next ≡ length cur
  pub by : (j : ℕ) → cursor_of next j ≡ cursor_of cur j + amount j

moves_none : (cur : List ℕ) → Moves cur cur (λ j. 0)
moves_none cur = record { lengths = refl; by = λ j. sym (add-zero _) }

pub moves_then : {a b c : List ℕ} {f g : ℕ → ℕ} → Moves a b f → Moves b c g → Moves a c (λ j. f j + g j)
moves_then {a} {b} {c} {f} {g} m k = record {
  lengths = k.lengths ∙ m.lengths;
  by = λ j. k.by j ∙ ap (λ n. n + g j) (m.by j) ∙ add_assoc (cursor_of a j) (f j) (g j);
}

-- one cursor set past n bytes more
moves_set : (cur : List ℕ) (i n c : ℕ) → i < length cur → c ≡ cursor_of cur i + n → Moves cur (set cur i c) (from i n)
moves_set cur i n c l e = record {
  lengths = length-set cur i c;
  by = λ j. by_test (eqb j i)
      (λ t. rw (eqb-true j i t) (cursor_set_same cur i c l ∙ e ∙ ap (λ k. cursor_of cur i + k) (sym (from_here i n i refl))))
      (λ t. cursor_set_other cur i c j (eqb-false j i t) ∙ sym (add-zero _) ∙ ap (λ k. cursor_of cur j + k) (sym (from_other i n j (eqb-false j i t))));
}

moves_past : (cur : List ℕ) (i n : ℕ) → i < length cur → Moves cur (past cur i n) (from i n)
unfolding past
moves_past cur i n l = moves_set cur i n (cursor_of cur i + n) l refl

spans_apart : (p i j : ℕ) → i < j → span_of p j ≡ span_of p i → ⊥
unfolding span_of
spans_apart p i j h e = omega arith

-- the value at position p, from cursors that are at position p as they came in
module _ (s : Source) (p : ℕ) (l : p ≤ 128) (cur : List ℕ) (k : length cur ≡ 1290)
    (same : (i : ℕ) → 1 ≤ i → i < 10 → cursor_of cur (span_of p i) ≡ cursor_of s.cur (span_of p i)) where
  one : (i n c : ℕ) → 1 ≤ i → i < 10 → c ≡ cursor_of s.cur (span_of p i) + n → Moves cur (set cur (span_of p i) c) (from (span_of p i) n)
  one i n c a b q = moves_set cur (span_of p i) n c (omega (arith, span_below p i l (omega arith))) (q ∙ ap (λ m. m + n) (sym (same i a b)))

  value_moves : (y : TokenType) (t : Token) (c : Cursor) → Value s p y t c → Moves cur (value_past y p c.0 cur) (value_takes s p y)
  unfolding value_past value_takes text_takes
  value_moves y t c (string h) = one 1 (text_takes s p) (text_stop s p + 1) (omega arith) (omega arith) (omega (arith, (end_found s.bytes _ _ refl h).low))
  value_moves y t c (char b) = one 2 1 _ (omega arith) (omega arith) refl
  value_moves y t c (digits n) = one 7 4 _ (omega arith) (omega arith) refl
  value_moves y t c (digits0 x) =
      let m = one 3 4 _ (omega arith) (omega arith) refl in
      moves_then m (moves_past _ (span_of p dzlen_stream) 1 (omega (arith, m.lengths, span_below p dzlen_stream l (omega arith))))
  value_moves y t c (delta n) = one 8 1 _ (omega arith) (omega arith) refl
  value_moves y t c (delta0 x) = one 9 1 _ (omega arith) (omega arith) refl
  value_moves y t c (match a b) = moves_none cur

span_ahead : (p i : ℕ) → 10 * p ≤ span_of p i
unfolding span_of
span_ahead p i = omega arith

-- one position with a token, one with END
module _ (s : Source) (p : ℕ) (l : p ≤ 128) (cur : List ℕ) (k : length cur ≡ 1290) where
  type_moves : Moves cur (past cur (span_of p 0) 1) (from (span_of p 0) 1)
  type_moves = moves_past cur (span_of p 0) 1 (omega (arith, span_below p 0 l (omega arith)))

  token_moves : SameFrom p cur s.cur → (y : TokenType) (t : Token) (c : Cursor) → type_at s p ≡ y → Value s p y t c
      → Moves cur (value_past (type_at s p) p c.0 (past cur (span_of p 0) 1)) (position_takes s p)
  unfolding position_takes past
  token_moves ahead y t c q v =
      subst (λ (z : TokenType). Moves cur (value_past z p c.0 (past cur (span_of p 0) 1)) (λ j. from (span_of p 0) 1 j + value_takes s p z j)) (sym q)
      (moves_then type_moves (value_moves s p l (past cur (span_of p 0) 1) (type_moves.lengths ∙ k)
      (λ i a b. cursor_set_other cur (span_of p 0) _ (span_of p i) (spans_apart p 0 i a) ∙ ahead (span_of p i) (span_ahead p i)) y t c v))

  end_moves : type_at s p ≡ type.End → Moves cur (past cur (span_of p 0) 1) (position_takes s p)
  unfolding position_takes value_takes
  end_moves q =
      subst (λ (z : TokenType). Moves cur (past cur (span_of p 0) 1) (λ j. from (span_of p 0) 1 j + value_takes s p z j)) (sym q)
      (moves_then type_moves (moves_none (past cur (span_of p 0) 1)))

-- a whole name from position p on: its tokens and its END
record Walked (s : Source) (p : ℕ) (d x : Draft) : Type 0 where
  pub positions : ℕ
  pub count : x.count + 1 ≡ d.count + positions
  pub moves : Moves d.cur x.cur (takes_from s p positions)

module _ (s : Source) (e : Earlier) (used : ℕ) where
  walked : (p : ℕ) (d x : Draft) → Trace s e used p d x → length d.cur ≡ 1290 → SameFrom p d.cur s.cur → Walked s p d x
  unfolding takes_from grown ended
  walked p d x (last q z l y) k a = record {
    positions = 1;
    count = refl;
    moves = moves_then (end_moves s p l d.cur k y) (moves_none _);
  }
  walked p d x (then q z w y t c l r v rest) k a =
      let m : Moves d.cur (grown s e used p t c.0 d).cur (position_takes s p) = token_moves s p (omega arith) d.cur k a y t c r v in
      let w : Walked s (p + 1) (grown s e used p t c.0 d) x =
      walked (p + 1) (grown s e used p t c.0 d) x rest (m.lengths ∙ k)
      (λ j b. value_later (type_at s p) (past d.cur (span_of p 0) 1) p c.0 j b ∙ past_later d.cur p 0 1 j (omega arith) b ∙ a j (omega arith)) in
      record {
        positions = suc w.positions;
        count = omega (arith, w.count);
        moves = moves_then m w.moves;
      }

-- position 0, and a whole name that is read by its tokens
module _ (s : Source) (k : length s.cur ≡ 1290) where
  pub head_moves : (stream : ℕ) → stream < 10 → Moves s.cur (head_past s.cur stream) (head_takes stream)
  unfolding head_past head_takes
  head_moves stream b =
      let m = type_moves s 0 (omega arith) s.cur k in
      moves_then m (moves_past _ (span_of 0 stream) 4 (omega (arith, m.lengths, span_below 0 stream (omega arith) (omega arith))))

  pub name_moves : (e : Earlier) (used : ℕ) (x : Draft) → Trace s e used 1 (draft [] [] 0 (head_past s.cur diff_stream)) x
      → Moves s.cur x.cur (λ j. head_takes diff_stream j + takes_from s 1 (x.count + 1) j)
  name_moves e used x t =
      let m : Moves s.cur (head_past s.cur diff_stream) (head_takes diff_stream) = head_moves diff_stream (omega arith) in
      let w : Walked s 1 (draft [] [] 0 (head_past s.cur diff_stream)) x =
      walked s e used 1 (draft [] [] 0 (head_past s.cur diff_stream)) x t (m.lengths ∙ k) (head_same s.cur diff_stream (omega arith)) in
      let q : w.positions ≡ x.count + 1 = omega (arith, w.count) in
      moves_then m (rw q at w.moves)
