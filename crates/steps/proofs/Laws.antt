-- What a step that gave a token tells: where the token lies, how large its numbers are, and where its cursor stands.
use Prim.Native.Nat.{ℕ, ◌+◌, ◌-◌, ◌^◌, ◌≤◌, ◌<◌}
use Rattle.refusals.specs.declared.Reason.{Reason}
use Rattle.spans.specs.Spans.{Next}
use Rattle.spans.specs.declared.Bytes.{Bytes}
use Rattle.values.specs.Values.{Step}
use Rattle.std.specs.Prelude.{Some, None, Ok, Err, Option}
use mathlib.Core.Path.{◌≡◌, refl, sym, ◌∙◌, subst}
use mathlib.Core.Bool.{true, false}
use mathlib.Core.List.{List}
use mathlib.Core.Logic.{⊎_elim}
use native.Mathlib.Omega.{arith}
use borrow.Author.Tests.{leb-true, ltb-true, eqb-true, eq-eqb}
use lib.Dec.{ltb, eqb}
use lib.ListN.{length, get_or}
use Rattle.base.specs.Choice.{pick}
use Rattle.base.proofs.Choice.{pick_true, pick_false, both_true, both_of, by_test, never, pick_holds}
use Rattle.base.proofs.Numbers.{lt_or_ge}
use Rattle.base.specs.Every.{Below}
use Rattle.digits.specs.Digits.{fits_width}
use Rattle.spans.specs.declared.Cursor.{Cursor}
use Rattle.spans.specs.Spans.{cursor, four}
use Rattle.spans.proofs.Laws.{byte_found, four_below}
use Rattle.block.specs.Block.{span_of, end_of, cursor_of}
use Rattle.block.specs.Open.{Open}
use Rattle.block.proofs.Laws.{span_below}
use Rattle.block.specs.Streams.{string_stream, char_stream, digits0_stream, dzlen_stream, digits_stream, ddelta_stream, ddelta0_stream}
use Rattle.numbering.specs.declared.TokenType.{TokenType}
use Rattle.numbering.specs.declared.TokenType.TheVariants as type
use Rattle.tokens.specs.declared.Token.{Token}
use Rattle.tokens.specs.declared.Token.TheVariants.{String}
use Rattle.numbering.specs.Types.{type_of}
use Rattle.tokens.specs.Inside.{Inside, KeptBelow}
use Rattle.tables.specs.declared.Row.{Row}
use Rattle.tables.proofs.Rows.{RowsBelow}
use Rattle.kept.specs.Inside.{RowInside}
use Rattle.sources.specs.Source.{Source, Earlier, byte_in, four_in, text_in}
use Rattle.values.specs.Values.{string_step, char_step, digits_step, with_width, padded_of, padded_in, padded_step, digits0_step}
use Rattle.sums.specs.Sums.{delta_step, delta0_step}
use Rattle.repeats.specs.Repeats.{token_of, has_row, row_here, has_kind, delta_at, delta0_at, match_at}
use Rattle.steps.specs.Steps.{value_step, typed_step, step_at}
use Rattle.bars.specs.Bars.{carries, barred}
use Rattle.repeats.specs.Sound.{Rows}
use Rattle.sources.proofs.Cases.{at, stop, byte_cases, four_cases, text_cases}
use Rattle.steps.proofs.Moves.{Moved, value_moved}

-- what is known where a step is taken
pub record Known (s : Source) (e : Earlier) (used p : ℕ) : Type 0 where
  pub opened : Open s.bytes s.dir s.cur
  pub rows : Rows used e
  pub first : 1 ≤ p
  pub last : p ≤ 128
  pub bytes : Below 256 s.bytes
  pub texts : Below 256 e.text
  pub numbers : RowsBelow (2 ^ 32) e.rows

-- what is to be shown of a step at a type
abbrev Fine : Source → Earlier → ℕ → TokenType → Step → Type 0
Fine s e used ty (Ok (Some (t, c))) = Inside s.bytes e.text t × KeptBelow used t
Fine s e used ty (Ok None) = ty ≡ type.End
Fine s e used ty (Err n) = Unit

fresh_inside : (bytes text : List ℕ) (a z : ℕ) → a ≤ z → z ≤ length bytes → Inside bytes text (String (record { kept = false; start = a; end = z }))
unfolding pick
fresh_inside bytes text a z h l = (h, l)

kept_inside : (bytes text : List ℕ) (a z : ℕ) → a ≤ z → z ≤ length text → Inside bytes text (String (record { kept = true; start = a; end = z }))
unfolding pick
kept_inside bytes text a z h l = (h, l)

module _ (s : Source) (e : Earlier) (used p : ℕ) (k : Known s e used p) where
  ends : (i : ℕ) → i ≤ 9 → stop s p i ≤ length s.bytes
  ends i h = k.opened.within (span_of p i) (span_below p i k.last h)

  string_fine : Fine s e used type.String (string_step (text_in s p string_stream))
  unfolding string_step
  string_fine =
      text_cases s p string_stream (λ (x : Option Bytes). Fine s e used type.String (string_step x))
      (λ z l h. (fresh_inside s.bytes e.text (at s p string_stream) z l (omega (arith, ends 1 (omega arith))), λ q. absurd (never q)))
      tt

  char_fine : Fine s e used type.Char (char_step (byte_in s p char_stream))
  unfolding char_step
  char_fine = byte_cases s p char_stream (λ (x : Next). Fine s e used type.Char (char_step x)) (λ l. (k.bytes (at s p char_stream), tt)) tt

  digits_fine : Fine s e used type.Digits (digits_step (four_in s p digits_stream))
  unfolding digits_step
  digits_fine = four_cases s p digits_stream (λ (x : Next). Fine s e used type.Digits (digits_step x)) (λ l. (four_below s.bytes (at s p digits_stream) k.bytes, tt)) tt

  padded_fine : (ty : TokenType) (n w : ℕ) (c : Cursor) → n < 2 ^ 32 → w ≤ 255 → Fine s e used ty (padded_step n w c)
  unfolding padded_step
  padded_fine ty n w c h l = pick_holds (λ (x : Step). Fine s e used ty x) (fits_width n w) _ _ (λ f. ((h, (f, l)), tt)) (λ f. tt)

  digits0_fine : Fine s e used type.Digits0 (digits0_step (padded_in s p))
  unfolding padded_of with_width digits0_step
  digits0_fine =
      four_cases s p digits0_stream (λ (x : Next). Fine s e used type.Digits0 (digits0_step (padded_of x (byte_in s p dzlen_stream))))
      (λ l.
      byte_cases s p dzlen_stream (λ (x : Next). Fine s e used type.Digits0 (digits0_step (with_width (four s.bytes (at s p digits0_stream)) (cursor (at s p digits0_stream + 4)) x)))
      (λ m. padded_fine type.Digits0 _ _ _ (four_below s.bytes (at s p digits0_stream) k.bytes) (omega (arith, k.bytes (at s p dzlen_stream))))
      tt)
      tt

  row_inside : has_row e p ≡ true → RowInside used (row_here e p)
  unfolding has_row row_here
  row_inside h =
      let l : p ≤ e.count = leb-true _ _ h in
      let f : 1 ≤ p = k.first in
      k.rows.each (e.first + (p - 1)) (omega arith) (omega arith)

  number_below : (row_here e p).number < 2 ^ 32
  unfolding row_here
  number_below = k.numbers _

  delta_fine : Fine s e used type.Delta (delta_at s e p)
  unfolding delta_at delta_step
  delta_fine =
      let n = (row_here e p).number in
      pick_holds (λ (x : Step). Fine s e used type.Delta x) (has_kind e p 7) _ _
      (λ r.
      byte_cases s p ddelta_stream (λ (x : Next). Fine s e used type.Delta (delta_step n x))
      (λ l. pick_holds (λ (x : Step). Fine s e used type.Delta x) (ltb (n + get_or s.bytes (at s p ddelta_stream) 0) (2 ^ 32)) _ _ (λ g. (ltb-true _ _ g, tt)) (λ g. tt))
      tt)
      (λ r. tt)

  delta0_fine : Fine s e used type.Delta0 (delta0_at s e p)
  unfolding delta0_at delta0_step has_kind
  delta0_fine =
      let n = (row_here e p).number in
      let w = (row_here e p).width in
      pick_holds (λ (x : Step). Fine s e used type.Delta0 x) (has_kind e p 4) _ _
      (λ r.
      let b = both_true (has_row e p) (eqb (row_here e p).kind 4) r in
      let v : w ≤ 254 = (row_inside b.0).kind.width (eqb-true _ _ b.1) in
      byte_cases s p ddelta0_stream (λ (x : Next). Fine s e used type.Delta0 (delta0_step n w x))
      (λ l. pick_holds (λ (x : Step). Fine s e used type.Delta0 x) (ltb (n + get_or s.bytes (at s p ddelta0_stream) 0) (2 ^ 32)) _ _ (λ g. padded_fine type.Delta0 _ w _ (ltb-true _ _ g) (omega arith)) (λ g. tt))
      tt)
      (λ r. tt)

  -- what a row repeats
  token_fine : (r : Row) → RowInside used r → r.number < 2 ^ 32 → Inside s.bytes e.text (token_of e.text r) × KeptBelow used (token_of e.text r)
  unfolding token_of
  token_fine r i n =
      let P : Token → Type 0 = λ (t : Token). Inside s.bytes e.text t × KeptBelow used t in
      let u : used ≤ length e.text = k.rows.room in
      let z : r.start + r.length ≤ used = i.ends in
      pick_holds P (eqb r.kind 1) _ _
      (λ h. (kept_inside s.bytes e.text r.start (r.start + r.length) (omega arith) (omega arith), λ q. z))
      (λ h.
      pick_holds P (eqb r.kind 2) _ _
      (λ g. (k.texts r.start, tt))
      (λ g.
      pick_holds P (eqb r.kind 4) _ _
      (λ f.
      let w : r.width ≤ 254 = i.kind.width (eqb-true _ _ f) in
      ((n, (i.kind.number (eqb-true _ _ f), omega arith)), tt))
      (λ f. (n, tt))))

  match_fine : (c : Cursor) → Fine s e used type.Match (match_at e p c)
  unfolding match_at
  match_fine c =
      pick_holds (λ (x : Step). Fine s e used type.Match x) (has_row e p) _ _
      (λ h. token_fine (row_here e p) (row_inside h) number_below)
      (λ h. tt)

  value_fine : (c : Cursor) (ty : TokenType) → Fine s e used ty (value_step s e p c ty)
  unfolding value_step
  value_fine c type.String = string_fine
  value_fine c type.Char = char_fine
  value_fine c type.Digits = digits_fine
  value_fine c type.Digits0 = digits0_fine
  value_fine c type.Delta = delta_fine
  value_fine c type.Delta0 = delta0_fine
  value_fine c type.Match = match_fine c
  value_fine c type.End = refl
  value_fine c type.Other = tt

-- what a step that gave a token tells: its type byte, which is there; the token's place and numbers; its cursor. No token stands at the last position
pub record Given (s : Source) (e : Earlier) (used p : ℕ) (t : Token) (c : Cursor) : Type 0 where
  pub code : ℕ
  pub next : Cursor
  pub typed : byte_in s p 0 ≡ Some (code, next)
  pub there : cursor_of s.cur (span_of p 0) + 1 ≤ end_of s.dir (span_of p 0)
  pub before : p < 128
  pub inside : Inside s.bytes e.text t
  pub below : KeptBelow used t
  pub moved : Moved s p c.0 (type_of s.rules.numbers code)

-- what END tells
pub record Ended (s : Source) (p : ℕ) : Type 0 where
  pub code : ℕ
  pub next : Cursor
  pub typed : byte_in s p 0 ≡ Some (code, next)
  pub there : cursor_of s.cur (span_of p 0) + 1 ≤ end_of s.dir (span_of p 0)
  pub ends : type_of s.rules.numbers code ≡ type.End

not_got : {r : Reason} {t : Token} {c : Cursor} → ◌≡◌ {A = Step} (Err r) (Ok (Some (t, c))) → ⊥
not_got e = let z : ◌≡◌ {A = ℕ} 0 1 = cc in omega arith

refused_end : {r : Reason} → ◌≡◌ {A = Step} (Err r) (Ok None) → ⊥
refused_end e = let z : ◌≡◌ {A = ℕ} 0 1 = cc in omega arith

end_got : {t : Token} {c : Cursor} → ◌≡◌ {A = Step} (Ok None) (Ok (Some (t, c))) → ⊥
end_got e = let z : ◌≡◌ {A = ℕ} 0 1 = cc in omega arith

module _ (s : Source) (e : Earlier) (p : ℕ) where
  -- a type that gives a token is one that carries something
  got_carries : (n : Cursor) (ty : TokenType) {t : Token} {c : Cursor} → value_step s e p n ty ≡ Ok (Some (t, c)) → carries ty ≡ true
  unfolding value_step carries
  got_carries n type.String q = refl
  got_carries n type.Char q = refl
  got_carries n type.Digits q = refl
  got_carries n type.Digits0 q = refl
  got_carries n type.Delta q = refl
  got_carries n type.Delta0 q = refl
  got_carries n type.Match q = refl
  got_carries n type.End q = absurd (end_got q)
  got_carries n type.Other q = absurd (not_got q)

  unbarred : (ty : TokenType) → p ≤ 128 → barred p ty ≡ false → carries ty ≡ true → p < 128
  unfolding barred
  unbarred ty h b q =
      ⊎_elim
      (λ (l : p < 128). l)
      (λ (l : 128 ≤ p). let m : p ≡ 128 = omega arith in absurd (never (sym b ∙ both_of (eq-eqb _ _ m) q)))
      (lt_or_ge p 128)

  byte_there : {b : ℕ} {n : Cursor} → byte_in s p 0 ≡ Some (b, n) → cursor_of s.cur (span_of p 0) + 1 ≤ end_of s.dir (span_of p 0)
  unfolding byte_in
  byte_there q = (byte_found s.bytes (cursor_of s.cur (span_of p 0)) (end_of s.dir (span_of p 0)) q).room

typed_given : (s : Source) (e : Earlier) (used p : ℕ) (t : Token) (c : Cursor) → Known s e used p → (found : Next) → byte_in s p 0 ≡ found → typed_step s e p found ≡ Ok (Some (t, c)) → Given s e used p t c
unfolding typed_step
typed_given s e used p t c k (Some (b, n)) q r =
    by_test (barred p (type_of s.rules.numbers b))
    (λ h. absurd (not_got (sym (pick_true _ _ h) ∙ r)))
    (λ h.
    let v : value_step s e p n (type_of s.rules.numbers b) ≡ Ok (Some (t, c)) = sym (pick_false _ _ h) ∙ r in
    let f : Fine s e used (type_of s.rules.numbers b) (Ok (Some (t, c))) = subst (λ (x : Step). Fine s e used (type_of s.rules.numbers b) x) v (value_fine s e used p k n (type_of s.rules.numbers b)) in
    record {
      code = b;
      next = n;
      typed = q;
      there = byte_there s e p q;
      before = unbarred s e p (type_of s.rules.numbers b) k.last h (got_carries s e p n (type_of s.rules.numbers b) v);
      inside = f.0;
      below = f.1;
      moved = value_moved s e p n (type_of s.rules.numbers b) v;
    })
typed_given s e used p t c k None q r = absurd (not_got r)

pub given : (s : Source) (e : Earlier) (used p : ℕ) {t : Token} {c : Cursor} → Known s e used p → step_at s e p ≡ Ok (Some (t, c)) → Given s e used p t c
unfolding step_at
given s e used p {t} {c} k r = typed_given s e used p t c k (byte_in s p 0) refl r

typed_ended : (s : Source) (e : Earlier) (used p : ℕ) → Known s e used p → (found : Next) → byte_in s p 0 ≡ found → typed_step s e p found ≡ Ok None → Ended s p
unfolding typed_step
typed_ended s e used p k (Some (b, n)) q r =
    by_test (barred p (type_of s.rules.numbers b))
    (λ h. absurd (refused_end (sym (pick_true _ _ h) ∙ r)))
    (λ h.
    let v : value_step s e p n (type_of s.rules.numbers b) ≡ Ok None = sym (pick_false _ _ h) ∙ r in
    record {
      code = b;
      next = n;
      typed = q;
      there = byte_there s e p q;
      ends = subst (λ (x : Step). Fine s e used (type_of s.rules.numbers b) x) v (value_fine s e used p k n (type_of s.rules.numbers b));
    })
typed_ended s e used p k None q r = absurd (refused_end r)

pub ended : (s : Source) (e : Earlier) (used p : ℕ) → Known s e used p → step_at s e p ≡ Ok None → Ended s p
unfolding step_at
ended s e used p k r = typed_ended s e used p k (byte_in s p 0) refl r
