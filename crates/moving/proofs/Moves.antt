-- Cursors moved: those of later positions stay where they are, and what the moves of the code ask for.
use Prim.Native.Nat.{ℕ, ◌+◌, ◌*◌, ◌≤◌, ◌<◌, ◌^◌}
use mathlib.Core.Path.{◌≡◌, refl, ap, ◌∙◌}
use mathlib.Core.List.{List}
use native.Mathlib.Omega.{arith}
use lib.ListN.{length, set, get_or, length-set}
use Rattle.block.specs.Block.{span_of, cursor_of}
use Rattle.block.proofs.Laws.{span_stream, cursor_set_other}
use Rattle.block.specs.Streams.{type_stream, string_stream, char_stream, digits0_stream, dzlen_stream, digits_stream, ddelta_stream, ddelta0_stream}
use Rattle.numbering.specs.declared.TokenType.{TokenType}
use Rattle.numbering.specs.declared.TokenType.TheVariants as type
use Rattle.moving.specs.Moves.{past, value_past, Movable}

-- the cursors of other positions stay
pub past_later : (cur : List ℕ) (p i n j : ℕ) → i ≤ 9 → 10 * (p + 1) ≤ j → cursor_of (past cur (span_of p i) n) j ≡ cursor_of cur j
unfolding past span_of
past_later cur p i n j h k = cursor_set_other cur (10 * p + i) (cursor_of cur (10 * p + i) + n) j (λ q. omega arith)

set_later : (cur : List ℕ) (p i c j : ℕ) → i ≤ 9 → 10 * (p + 1) ≤ j → cursor_of (set cur (span_of p i) c) j ≡ cursor_of cur j
unfolding span_of
set_later cur p i c j h k = cursor_set_other cur (10 * p + i) c j (λ q. omega arith)

pub value_later : (ty : TokenType) (cur : List ℕ) (p c j : ℕ) → 10 * (p + 1) ≤ j → cursor_of (value_past ty p c cur) j ≡ cursor_of cur j
unfolding value_past
value_later type.String cur p c j h = set_later cur p string_stream c j (omega arith) h
value_later type.Char cur p c j h = set_later cur p char_stream c j (omega arith) h
value_later type.Digits cur p c j h = set_later cur p digits_stream c j (omega arith) h
value_later type.Digits0 cur p c j h = past_later (set cur (span_of p digits0_stream) c) p dzlen_stream 1 j (omega arith) h ∙ set_later cur p digits0_stream c j (omega arith) h
value_later type.Delta cur p c j h = set_later cur p ddelta_stream c j (omega arith) h
value_later type.Delta0 cur p c j h = set_later cur p ddelta0_stream c j (omega arith) h
value_later type.Match cur p c j h = refl
value_later type.End cur p c j h = refl
value_later type.Other cur p c j h = refl

pub length_past : (cur : List ℕ) (i n : ℕ) → length (past cur i n) ≡ length cur
unfolding past
length_past cur i n = length-set cur i (cursor_of cur i + n)

-- the moves of the code, in a contract's direction
module _ (cur : List ℕ) (i j n : ℕ) (e : i ≡ j) where
  pub move_fits : cursor_of cur j + n < 2 ^ 32 → get_or cur i 0 + n < 2 ^ 32
  unfolding cursor_of
  move_fits h = rw e h

  pub moved_on : set cur i (get_or cur i 0 + n) ≡ past cur j n
  unfolding past cursor_of
  moved_on = rw e

pub padded_fits : (cur now : List ℕ) (p c : ℕ) → now ≡ set cur (span_of p digits0_stream) c → cursor_of cur (span_of p dzlen_stream) + 1 < 2 ^ 32 → cursor_of now (span_of p dzlen_stream) + 1 < 2 ^ 32
padded_fits cur now p c e h =
    let k = ap (λ (x : List ℕ). cursor_of x (span_of p dzlen_stream)) e
    ∙ cursor_set_other cur (span_of p digits0_stream) c (span_of p dzlen_stream) (λ q. let z = span_stream p 4 p 3 (omega arith) (omega arith) q in omega arith) in
    omega arith

pub typed_movable : (t : TokenType) (cur now : List ℕ) (p : ℕ) → now ≡ past cur (span_of p 0) 1 → Movable t p cur → Movable t p now
unfolding past
typed_movable t cur now p e h q =
    let k = ap (λ (x : List ℕ). cursor_of x (span_of p dzlen_stream)) e
    ∙ cursor_set_other cur (span_of p type_stream) (cursor_of cur (span_of p type_stream) + 1) (span_of p dzlen_stream) (λ q. let z = span_stream p 4 p 0 (omega arith) (omega arith) q in omega arith) in
    omega (arith, h q)
