-- What the puts of a value are, in the forms in which their passes want them; and each names a span.
use Prim.Native.Nat.{ℕ, ◌+◌, ◌-◌, ◌≤◌}
use mathlib.Core.Path.{◌≡◌, ap, ◌∙◌, subst}
use mathlib.Core.List.{List, [], ◌∷◌, ◌++◌}
use lib.ListN.{length}
use Rattle.base.specs.Memory.{part}
use Rattle.spans.specs.Spans.{four_bytes}
use Rattle.block.specs.Block.{span_of}
use Rattle.tokens.specs.declared.Padded.{Padded}
use Rattle.pieces.specs.declared.Piece.{Piece}
use Rattle.pieces.specs.declared.Piece.TheVariants.{String, Char, Digits, Digits0}
use Rattle.choices.specs.declared.Choice.{Choice}
use Rattle.choices.specs.declared.Choice.TheVariants.{Itself, Delta, Delta0, Match, End}
use Rattle.laying.specs.declared.Pass.{Pass}
use Rattle.laying.specs.Puts.{put}
use Rattle.laying.specs.Passes.{World, step_of, run_of, Room, Roomy}
use Rattle.laying.proofs.Writes.{length_text_law}
use Rattle.valueputs.specs.ValuePuts.{piece_puts, value_puts}
use native.Mathlib.Omega.{arith}
use Rattle.block.proofs.Laws.{span_below}
use Rattle.block.specs.Streams.{string_stream, char_stream, digits0_stream, dzlen_stream, digits_stream, ddelta_stream, ddelta0_stream}
use Rattle.laying.proofs.Passes.{Inside}

-- A token's value

module _ (pass : Pass) (s : List ℕ) (p : ℕ) (t : Piece) (w : World) (r : Roomy pass (piece_puts s p t) w) where
  pub string_room : {a e : ℕ} → t ≡ String a e → a ≤ e → e ≤ length s → Room pass (span_of p string_stream) (e - a + 1) w
  unfolding piece_puts Roomy
  string_room {a} {e} g h k =
      let q = rw g at r in
      subst (λ (n : ℕ). Room pass (span_of p string_stream) n w) (length_text_law s a e h k) q.0

  pub char_room : {b : ℕ} → t ≡ Char b → Room pass (span_of p char_stream) 1 w
  unfolding piece_puts Roomy
  char_room g = let q = rw g at r in q.0

  pub digits_room : {n : ℕ} → t ≡ Digits n → Room pass (span_of p digits_stream) 4 w
  unfolding piece_puts Roomy four_bytes
  digits_room g = let q = rw g at r in q.0

  pub digits0_room : {x : Padded} → t ≡ Digits0 x → Room pass (span_of p digits0_stream) 4 w × Room pass (span_of p dzlen_stream) 1 (step_of pass (put (span_of p digits0_stream) (four_bytes x.number)) w)
  unfolding piece_puts Roomy four_bytes
  digits0_room g = let q = rw g at r in (q.0, q.1.0)

module _ (pass : Pass) (s : List ℕ) (p : ℕ) (t : Piece) (w v : World) where
  pub string_ran : {a e : ℕ} → t ≡ String a e → v ≡ step_of pass (put (span_of p string_stream) (part s a e ++ 0 ∷ [])) w → v ≡ run_of pass (piece_puts s p t) w
  unfolding piece_puts run_of
  string_ran g e = rw g e

  pub char_ran : {b : ℕ} → t ≡ Char b → v ≡ step_of pass (put (span_of p char_stream) (b ∷ [])) w → v ≡ run_of pass (piece_puts s p t) w
  unfolding piece_puts run_of
  char_ran g e = rw g e

  pub digits_ran : {n : ℕ} → t ≡ Digits n → v ≡ step_of pass (put (span_of p digits_stream) (four_bytes n)) w → v ≡ run_of pass (piece_puts s p t) w
  unfolding piece_puts run_of
  digits_ran g e = rw g e

  pub digits0_ran : {x : Padded} {u : World} → t ≡ Digits0 x → u ≡ step_of pass (put (span_of p digits0_stream) (four_bytes x.number)) w → v ≡ step_of pass (put (span_of p dzlen_stream) (x.width ∷ [])) u
      → v ≡ run_of pass (piece_puts s p t) w
  unfolding piece_puts run_of
  digits0_ran {x} {u} g d e = rw g (e ∙ ap (step_of pass (put (span_of p dzlen_stream) (x.width ∷ []))) d)

-- A choice's value

module _ (pass : Pass) (s : List ℕ) (p : ℕ) (c : Choice) (w : World) (r : Roomy pass (value_puts s p c) w) where
  pub itself_room : {t : Piece} → c ≡ Itself t → Roomy pass (piece_puts s p t) w
  unfolding value_puts
  itself_room g = rw g at r

  pub delta_room : {d : ℕ} → c ≡ Delta d → Room pass (span_of p ddelta_stream) 1 w
  unfolding value_puts Roomy
  delta_room g = let q = rw g at r in q.0

  pub delta0_room : {d : ℕ} → c ≡ Delta0 d → Room pass (span_of p ddelta0_stream) 1 w
  unfolding value_puts Roomy
  delta0_room g = let q = rw g at r in q.0

module _ (pass : Pass) (s : List ℕ) (p : ℕ) (c : Choice) (w v : World) where
  pub itself_ran : {t : Piece} → c ≡ Itself t → v ≡ run_of pass (piece_puts s p t) w → v ≡ run_of pass (value_puts s p c) w
  unfolding value_puts
  itself_ran g e = rw g e

  pub delta_ran : {d : ℕ} → c ≡ Delta d → v ≡ step_of pass (put (span_of p ddelta_stream) (d ∷ [])) w → v ≡ run_of pass (value_puts s p c) w
  unfolding value_puts run_of
  delta_ran g e = rw g e

  pub delta0_ran : {d : ℕ} → c ≡ Delta0 d → v ≡ step_of pass (put (span_of p ddelta0_stream) (d ∷ [])) w → v ≡ run_of pass (value_puts s p c) w
  unfolding value_puts run_of
  delta0_ran g e = rw g e

pub match_ran : (pass : Pass) (s : List ℕ) (p : ℕ) (c : Choice) (w : World) → c ≡ Match → w ≡ run_of pass (value_puts s p c) w
unfolding value_puts run_of
match_ran pass s p c w g = rw g

pub end_ran : (pass : Pass) (s : List ℕ) (p : ℕ) (c : Choice) (w : World) → c ≡ End → w ≡ run_of pass (value_puts s p c) w
unfolding value_puts run_of
end_ran pass s p c w g = rw g

-- Spans

piece_inside : (s : List ℕ) (p : ℕ) (t : Piece) → p ≤ 128 → Inside (piece_puts s p t)
unfolding piece_puts
piece_inside s p (String a e) h = (span_below p string_stream h (omega arith), tt)
piece_inside s p (Char b) h = (span_below p char_stream h (omega arith), tt)
piece_inside s p (Digits n) h = (span_below p digits_stream h (omega arith), tt)
piece_inside s p (Digits0 x) h = (span_below p digits0_stream h (omega arith), (span_below p dzlen_stream h (omega arith), tt))

pub value_inside : (s : List ℕ) (p : ℕ) (c : Choice) → p ≤ 128 → Inside (value_puts s p c)
unfolding value_puts
value_inside s p (Itself t) h = piece_inside s p t h
value_inside s p (Delta d) h = (span_below p ddelta_stream h (omega arith), tt)
value_inside s p (Delta0 d) h = (span_below p ddelta0_stream h (omega arith), tt)
value_inside s p Match h = tt
value_inside s p End h = tt
