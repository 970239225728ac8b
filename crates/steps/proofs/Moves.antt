-- Where the cursor past a value stands: in the span of its type.
use Prim.Native.Nat.{ℕ, ◌+◌, ◌^◌, ◌≤◌}
use Rattle.spans.specs.Spans.{Next}
use Rattle.spans.specs.declared.Bytes.{Bytes}
use Rattle.values.specs.Values.{Step}
use Rattle.std.specs.Prelude.{Some, None, Ok, Err, Option}
use mathlib.Core.Path.{◌≡◌, subst}
use native.Mathlib.Omega.{arith}
use lib.Dec.{ltb}
use lib.ListN.{get_or}
use Rattle.base.proofs.Choice.{pick_holds}
use Rattle.digits.specs.Digits.{fits_width}
use Rattle.spans.specs.declared.Cursor.{Cursor}
use Rattle.spans.specs.Spans.{cursor, four}
use Rattle.block.specs.Streams.{string_stream, char_stream, digits0_stream, dzlen_stream, digits_stream, ddelta_stream, ddelta0_stream}
use Rattle.numbering.specs.declared.TokenType.{TokenType}
use Rattle.numbering.specs.declared.TokenType.TheVariants as type
use Rattle.tokens.specs.declared.Token.{Token}
use Rattle.sources.specs.Source.{Source, Earlier, byte_in}
use Rattle.values.specs.Values.{string_step, char_step, digits_step, with_width, padded_of, padded_in, padded_step, digits0_step}
use Rattle.sums.specs.Sums.{delta_step, delta0_step}
use Rattle.repeats.specs.Repeats.{has_row, row_here, has_kind, delta_at, delta0_at, match_at}
use Rattle.steps.specs.Steps.{value_step}
use Rattle.sources.proofs.Cases.{at, stop, byte_cases, four_cases, text_cases, Between}

-- the cursor past a value, in the span of its type; a DZLEN has its byte
abbrev pub Moved : Source → ℕ → ℕ → TokenType → Type 0
Moved s p c type.String = Between s p string_stream c
Moved s p c type.Char = Between s p char_stream c
Moved s p c type.Digits = Between s p digits_stream c
Moved s p c type.Digits0 = Between s p digits0_stream c × (at s p dzlen_stream + 1 ≤ stop s p dzlen_stream)
Moved s p c type.Delta = Between s p ddelta_stream c
Moved s p c type.Delta0 = Between s p ddelta0_stream c
Moved s p c type.Match = Unit
Moved s p c type.End = Unit
Moved s p c type.Other = Unit

-- what is to be shown of a step at a type
abbrev Past : Source → ℕ → TokenType → Step → Type 0
Past s p ty (Ok (Some (t, c))) = Moved s p c.0 ty
Past s p ty (Ok None) = Unit
Past s p ty (Err n) = Unit

module _ (s : Source) (e : Earlier) (p : ℕ) where
  padded_past : (ty : TokenType) (n w : ℕ) (c : Cursor) → Moved s p c.0 ty → Past s p ty (padded_step n w c)
  unfolding padded_step
  padded_past ty n w c m = pick_holds (λ (x : Step). Past s p ty x) (fits_width n w) _ _ (λ f. m) (λ f. tt)

  value_past_law : (c : Cursor) (ty : TokenType) → Past s p ty (value_step s e p c ty)
  unfolding value_step string_step char_step digits_step padded_of with_width digits0_step delta_at delta_step delta0_at delta0_step match_at
  value_past_law c type.String = text_cases s p string_stream (λ (x : Option Bytes). Past s p type.String (string_step x)) (λ z l h. (omega arith, omega arith)) tt
  value_past_law c type.Char = byte_cases s p char_stream (λ (x : Next). Past s p type.Char (char_step x)) (λ l. (omega arith, l)) tt
  value_past_law c type.Digits = four_cases s p digits_stream (λ (x : Next). Past s p type.Digits (digits_step x)) (λ l. (omega arith, l)) tt
  value_past_law c type.Digits0 =
      four_cases s p digits0_stream (λ (x : Next). Past s p type.Digits0 (digits0_step (padded_of x (byte_in s p dzlen_stream))))
      (λ l.
      byte_cases s p dzlen_stream (λ (x : Next). Past s p type.Digits0 (digits0_step (with_width (four s.bytes (at s p digits0_stream)) (cursor (at s p digits0_stream + 4)) x)))
      (λ m. padded_past type.Digits0 _ _ _ ((omega arith, l), m))
      tt)
      tt
  value_past_law c type.Delta =
      let n = (row_here e p).number in
      pick_holds (λ (x : Step). Past s p type.Delta x) (has_kind e p 7) _ _
      (λ r.
      byte_cases s p ddelta_stream (λ (x : Next). Past s p type.Delta (delta_step n x))
      (λ l. pick_holds (λ (x : Step). Past s p type.Delta x) (ltb (n + get_or s.bytes (at s p ddelta_stream) 0) (2 ^ 32)) _ _ (λ g. (omega arith, l)) (λ g. tt))
      tt)
      (λ r. tt)
  value_past_law c type.Delta0 =
      let n = (row_here e p).number in
      let w = (row_here e p).width in
      pick_holds (λ (x : Step). Past s p type.Delta0 x) (has_kind e p 4) _ _
      (λ r.
      byte_cases s p ddelta0_stream (λ (x : Next). Past s p type.Delta0 (delta0_step n w x))
      (λ l. pick_holds (λ (x : Step). Past s p type.Delta0 x) (ltb (n + get_or s.bytes (at s p ddelta0_stream) 0) (2 ^ 32)) _ _ (λ g. padded_past type.Delta0 _ _ _ (omega arith, l)) (λ g. tt))
      tt)
      (λ r. tt)
  value_past_law c type.Match = pick_holds (λ (x : Step). Past s p type.Match x) (has_row e p) _ _ (λ h. tt) (λ h. tt)
  value_past_law c type.End = tt
  value_past_law c type.Other = tt

  pub value_moved : (n : Cursor) (ty : TokenType) {t : Token} {c : Cursor} → value_step s e p n ty ≡ Ok (Some (t, c)) → Moved s p c.0 ty
  value_moved n ty v = subst (λ (x : Step). Past s p ty x) v (value_past_law n ty)
