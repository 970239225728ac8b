-- The cursors that a name moves: each stays inside its span.
use Prim.Native.Nat.{ℕ, ◌+◌, ◌≤◌}
use Rattle.spans.specs.Spans.{Next}
use Rattle.std.specs.Prelude.{Some, None, Ok, Err}
use Rattle.refusals.specs.declared.Reason.TheVariants as reason
use mathlib.Core.Path.{◌≡◌, refl, sym, ap, ◌∙◌}
use mathlib.Core.List.{List}
use native.Mathlib.Omega.{arith}
use lib.ListN.{set}
use Rattle.bars.specs.Bars.{barred}
use Rattle.base.proofs.Choice.{pick_true, pick_false, by_test}
use Rattle.spans.specs.declared.Cursor.{Cursor}
use Rattle.spans.proofs.Laws.{byte_found, four_found}
use Rattle.block.specs.Block.{span_of, end_of, cursor_of}
use Rattle.block.specs.Open.{Open}
use Rattle.block.proofs.Laws.{span_below, span_stream, cursor_set_other, open_set}
use Rattle.block.specs.Streams.{digits0_stream, dzlen_stream}
use Rattle.numbering.specs.declared.TokenType.{TokenType}
use Rattle.numbering.specs.declared.TokenType.TheVariants as type
use Rattle.tokens.specs.declared.Token.{Token}
use Rattle.numbering.specs.Types.{Rules, type_of}
use Rattle.sources.specs.Source.{Source, source, Earlier, byte_in, four_in}
use Rattle.sources.proofs.Cases.{Between}
use Rattle.steps.specs.Steps.{value_step, typed_step, step_at}
use Rattle.steps.proofs.Moves.{Moved, value_moved}
use Rattle.moving.specs.Moves.{past, value_past}
use Rattle.names.specs.Names.{type_in, type_at}

-- a cursor that a span's own cursor may move to
pub record Reach (s : Source) (p i c : ℕ) : Type 0 where
  pub low : cursor_of s.cur (span_of p i) ≤ c
  pub high : c ≤ end_of s.dir (span_of p i)

module _ (s : Source) (p i : ℕ) where
  pub byte_reach : {b : ℕ} {c : Cursor} → byte_in s p i ≡ Some (b, c) → (c.0 ≡ cursor_of s.cur (span_of p i) + 1) × Reach s p i (cursor_of s.cur (span_of p i) + 1)
  unfolding byte_in
  byte_reach {b} {c} q =
      let f = byte_found s.bytes (cursor_of s.cur (span_of p i)) (end_of s.dir (span_of p i)) q in
      (ap (λ (k : Cursor). k.0) f.past, record { low = omega arith; high = omega (arith, f.room) })

  pub four_reach : {v : ℕ} {c : Cursor} → four_in s p i ≡ Some (v, c) → (c.0 ≡ cursor_of s.cur (span_of p i) + 4) × Reach s p i (cursor_of s.cur (span_of p i) + 4)
  unfolding four_in
  four_reach {v} {c} q =
      let f = four_found s.bytes (cursor_of s.cur (span_of p i)) (end_of s.dir (span_of p i)) q in
      (ap (λ (k : Cursor). k.0) f.past, record { low = omega arith; high = omega (arith, f.room) })

module _ (rules : Rules) (bytes dir cur : List ℕ) (o : Open bytes dir cur) (p : ℕ) (h : p ≤ 128) where
  -- past a type
  pub open_typed : {b : ℕ} {c : Cursor} → byte_in (source rules bytes dir cur) p 0 ≡ Some (b, c) → Open bytes dir (past cur (span_of p 0) 1)
  unfolding past
  open_typed q =
      let r = (byte_reach (source rules bytes dir cur) p 0 q).1 in
      open_set bytes dir cur (span_of p 0) (cursor_of cur (span_of p 0) + 1) o (span_below p 0 h (omega arith)) r.low r.high

-- cursors of which those of position p's values are as they were
record Typed (bytes dir cur now : List ℕ) (p : ℕ) : Type 0 where
  opened : Open bytes dir now
  same : (i : ℕ) → 1 ≤ i → i ≤ 9 → cursor_of now (span_of p i) ≡ cursor_of cur (span_of p i)

module _ (rules : Rules) (bytes dir cur now : List ℕ) (p : ℕ) (h : p ≤ 128) (w : Typed bytes dir cur now p) where
  value_set : (i c : ℕ) → 1 ≤ i → i ≤ 9 → Between (source rules bytes dir cur) p i c → Open bytes dir (set now (span_of p i) c)
  value_set i c k l r =
      open_set bytes dir now (span_of p i) c w.opened (span_below p i h l) (omega (arith, w.same i k l, r.0)) r.1

  width_set : (c : ℕ) → Between (source rules bytes dir cur) p digits0_stream c → cursor_of cur (span_of p dzlen_stream) + 1 ≤ end_of dir (span_of p dzlen_stream)
      → Open bytes dir (past (set now (span_of p digits0_stream) c) (span_of p dzlen_stream) 1)
  unfolding past
  width_set c r k =
      let u : cursor_of (set now (span_of p digits0_stream) c) (span_of p dzlen_stream) ≡ cursor_of cur (span_of p dzlen_stream) =
      cursor_set_other now (span_of p digits0_stream) c (span_of p dzlen_stream)
      (λ q. let z = span_stream p 4 p 3 (omega arith) (omega arith) q in omega arith)
      ∙ w.same 4 (omega arith) (omega arith) in
      open_set bytes dir (set now (span_of p digits0_stream) c) (span_of p dzlen_stream) (cursor_of (set now (span_of p digits0_stream) c) (span_of p dzlen_stream) + 1)
      (value_set 3 c (omega arith) (omega arith) r) (span_below p dzlen_stream h (omega arith)) (omega arith) (omega arith)

  -- past a value
  open_value : (ty : TokenType) (c : ℕ) → Moved (source rules bytes dir cur) p c ty → Open bytes dir (value_past ty p c now)
  unfolding value_past
  open_value type.String c m = value_set 1 c (omega arith) (omega arith) m
  open_value type.Char c m = value_set 2 c (omega arith) (omega arith) m
  open_value type.Digits c m = value_set 7 c (omega arith) (omega arith) m
  open_value type.Digits0 c m = width_set c m.0 m.1
  open_value type.Delta c m = value_set 8 c (omega arith) (omega arith) m
  open_value type.Delta0 c m = value_set 9 c (omega arith) (omega arith) m
  open_value type.Match c m = w.opened
  open_value type.End c m = w.opened
  open_value type.Other c m = w.opened

module _ (rules : Rules) (bytes dir cur : List ℕ) (o : Open bytes dir cur) (e : Earlier) (p : ℕ) (h : p ≤ 128) where
  typed : {b : ℕ} {c : Cursor} → byte_in (source rules bytes dir cur) p 0 ≡ Some (b, c) → Typed bytes dir cur (past cur (span_of p 0) 1) p
  unfolding past
  typed q =
      record {
        opened = open_typed rules bytes dir cur o p h q;
        same =
            λ i k l. cursor_set_other cur (span_of p 0) (cursor_of cur (span_of p 0) + 1) (span_of p i)
            (λ z. let y = span_stream p i p 0 l (omega arith) z in omega arith);
      }

  step_open : {t : Token} {c : Cursor} (n : Next) → byte_in (source rules bytes dir cur) p 0 ≡ n → typed_step (source rules bytes dir cur) e p n ≡ Ok (Some (t, c))
      → Open bytes dir (value_past (type_in rules.numbers n) p c.0 (past cur (span_of p 0) 1))
  unfolding typed_step type_in
  step_open {t} {c} (Some (b, k)) q r =
      let v = value_step (source rules bytes dir cur) e p k (type_of rules.numbers b) in
      by_test (barred p (type_of rules.numbers b))
      (λ y. let z = sym (pick_true (Err reason.NotEnd) v y) ∙ r in (cc))
      (λ y. open_value rules bytes dir cur (past cur (span_of p 0) 1) p h (typed q) (type_of rules.numbers b) c.0 (value_moved (source rules bytes dir cur) e p k (type_of rules.numbers b) (sym (pick_false (Err reason.NotEnd) v y) ∙ r)))
  step_open None q r = cc

  -- past a token
  pub open_token : {t : Token} {c : Cursor} → step_at (source rules bytes dir cur) e p ≡ Ok (Some (t, c))
      → Open bytes dir (value_past (type_at (source rules bytes dir cur) p) p c.0 (past cur (span_of p 0) 1))
  unfolding step_at
  open_token q = step_open (byte_in (source rules bytes dir cur) p 0) refl q

  end_open : (n : Next) → byte_in (source rules bytes dir cur) p 0 ≡ n → typed_step (source rules bytes dir cur) e p n ≡ Ok None → Open bytes dir (past cur (span_of p 0) 1)
  unfolding typed_step
  end_open (Some (b, k)) q r = open_typed rules bytes dir cur o p h q
  end_open None q r = cc

  -- past an END
  pub open_ended : step_at (source rules bytes dir cur) e p ≡ Ok None → Open bytes dir (past cur (span_of p 0) 1)
  unfolding step_at
  open_ended q = end_open (byte_in (source rules bytes dir cur) p 0) refl q
