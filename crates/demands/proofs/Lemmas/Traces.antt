-- What can stand at a position, and how a name comes about, token after token: each step that was made, with the tests that led there.
use Prim.Native.Nat.{ℕ, zero, suc, ◌+◌, ◌≤◌, ◌<◌, ◌^◌}
use Rattle.spans.specs.declared.Bytes.{Bytes}
use Rattle.values.specs.Values.{Step}
use Rattle.std.specs.Prelude.{Some, None, Ok, Err, Option}
use Rattle.refusals.specs.declared.Reason.{Reason}
use Rattle.refusals.specs.declared.Reason.TheVariants as reason
use mathlib.Core.Path.{◌≡◌, refl, sym, ap, ◌∙◌, subst}
use mathlib.Core.Bool.{true, false}
use mathlib.Core.List.{List, []}
use mathlib.Core.Logic.{inl, inr}
use native.Mathlib.Omega.{arith}
use borrow.Author.Tests.{leb-true, leb-false, ltb-true, ltb-false, eqb-true, le-leb, eq-eqb}
use lib.Dec.{leb, ltb, eqb}
use lib.ListN.{length}
use Rattle.base.specs.Choice.{both}
use Rattle.base.proofs.Choice.{both_true, both_of, never, pick_holds}
use Rattle.base.proofs.Numbers.{by_order}
use Rattle.digits.specs.Digits.{fits_width}
use Rattle.digits.proofs.Laws.{fits_of}
use Rattle.spans.specs.declared.Cursor.{Cursor}
use Rattle.spans.specs.Spans.{cursor, text_end, text_at}
use Rattle.block.specs.Block.{span_of, end_of, cursor_of}
use Rattle.block.specs.Streams.{type_stream, string_stream, char_stream, digits0_stream, dzlen_stream, digits_stream, ddelta_stream, ddelta0_stream}
use Rattle.numbering.specs.declared.TokenType.{TokenType}
use Rattle.numbering.specs.declared.TokenType.TheVariants as type
use Rattle.tokens.specs.declared.Token.{Token}
use Rattle.tokens.specs.declared.Token.TheVariants.{String, Char, Digits, Digits0}
use Rattle.tokens.specs.declared.Padded.{Padded}
use Rattle.numbering.specs.Types.{type_of}
use Rattle.tokens.specs.Tokens.{bytes_of}
use Rattle.sources.specs.Source.{Source, Earlier, byte_in, four_in, text_in}
use Rattle.values.specs.Values.{string_step, char_step, digits_step, with_width, padded_of, padded_in, padded_step, digits0_step}
use Rattle.sums.specs.Sums.{delta_step, delta0_step}
use Rattle.repeats.specs.Repeats.{has_row, row_here, has_kind, delta_at, delta0_at, match_at}
use Rattle.steps.specs.Steps.{value_step, typed_step, step_at}
use Rattle.bars.specs.Bars.{carries, barred}
use Rattle.names.proofs.Growing.{never_named}
use Rattle.names.specs.Names.{Draft, draft, Named, named, type_in, grown, ended, printable, onward, name_from, name_of, type_at}
use Rattle.demands.specs.Stops.{Typed, Fitting, Misfit, Stop, ends_type, ends_string, ends_char, ends_digits, ends_digits0, ends_dzlen, ends_ddelta, ends_ddelta0, unknown, no_row, no_digits, no_digits0, large_sum, large_sum0, long_sum0, long_digits0, no_end}
use Rattle.demands.proofs.Lemmas.Streams.{byte_way, four_way}

-- where the text at position p ends, and where its span begins and ends
abbrev pub text_stop : Source → ℕ → ℕ
text_stop s p = text_end s.bytes (cursor_of s.cur (span_of p string_stream)) (end_of s.dir (span_of p string_stream))

-- a token of each type, with the cursor past its value
pub data Value (s : Source) (p : ℕ) : TokenType → Token → Cursor → Type 0 where
  string : text_stop s p < end_of s.dir (span_of p string_stream)
      → Value s p type.String (String (record { kept = false; start = cursor_of s.cur (span_of p string_stream); end = text_stop s p })) (cursor (text_stop s p + 1))
  char : (b : ℕ) → Value s p type.Char (Char b) (cursor (cursor_of s.cur (span_of p char_stream) + 1))
  digits : (n : ℕ) → Value s p type.Digits (Digits n) (cursor (cursor_of s.cur (span_of p digits_stream) + 4))
  digits0 : (x : Padded) → Value s p type.Digits0 (Digits0 x) (cursor (cursor_of s.cur (span_of p digits0_stream) + 4))
  delta : (n : ℕ) → Value s p type.Delta (Digits n) (cursor (cursor_of s.cur (span_of p ddelta_stream) + 1))
  delta0 : (x : Padded) → Value s p type.Delta0 (Digits0 x) (cursor (cursor_of s.cur (span_of p ddelta0_stream) + 1))
  match : (t : Token) (c : Cursor) → Value s p type.Match t c

-- what can stand at position p: a cause to stop, whatever the length; END; or a token
pub data StepWay (s : Source) (e : Earlier) (p : ℕ) : Step → Type 0 where
  halts : (r : Reason) → ((len : ℕ) → Stop s e p len r) → StepWay s e p (Err r)
  closes : Typed s p type.End → StepWay s e p (Ok None)
  gives : (y : TokenType) (t : Token) (c : Cursor) → Typed s p y → p < 128 → Value s p y t c → StepWay s e p (Ok (Some (t, c)))

text_way : (P : Option Bytes → Type 0) (s : Source) (p : ℕ)
    → (text_stop s p < end_of s.dir (span_of p string_stream) → P (Some (record { start = cursor (cursor_of s.cur (span_of p string_stream)); end = cursor (text_stop s p); next = cursor (text_stop s p + 1) })))
    → P None → P (text_in s p string_stream)
unfolding text_in text_at
text_way P s p f g = pick_holds P _ _ _ (λ e. f (ltb-true _ _ e)) (λ e. g)

misfit : (n w : ℕ) → fits_width n w ≡ false → Misfit n w
misfit n w q =
    by_order w 1
    (λ h. inl (omega arith))
    (λ h. by_order n (10 ^ w) (λ l. absurd (never (sym q ∙ fits_of n w h l))) (λ l. inr l))

pub fitting : (e : Earlier) (p kind : ℕ) → has_kind e p kind ≡ true → Fitting e p kind
unfolding has_kind has_row
fitting e p kind q =
    let b = both_true (leb p e.count) (eqb (row_here e p).kind kind) q in
    record { there = leb-true _ _ b.0; is = eqb-true _ _ b.1 }

pub has_kind_law : (e : Earlier) (p kind : ℕ) → Fitting e p kind → has_kind e p kind ≡ true
unfolding has_kind has_row
has_kind_law e p kind f = both_of (le-leb _ _ f.there) (eq-eqb _ _ f.is)

module _ (s : Source) (e : Earlier) (p : ℕ) (l : p < 128) where
  padded_way : (y : TokenType) → Typed s p y → (n w : ℕ) (c : Cursor) → Value s p y (Digits0 (record { number = n; width = w })) c
      → (Misfit n w → (len : ℕ) → Stop s e p len reason.BadNumber) → StepWay s e p (padded_step n w c)
  unfolding padded_step
  padded_way y q n w c v f = pick_holds (StepWay s e p) (fits_width n w) _ _ (λ k. gives y _ c q l v) (λ k. halts reason.BadNumber (f (misfit n w k)))

  string_way : Typed s p type.String → StepWay s e p (string_step (text_in s p string_stream))
  unfolding string_step
  string_way q = text_way (λ v. text_in s p string_stream ≡ v → StepWay s e p (string_step v)) s p (λ h z. gives type.String _ _ q l (string h)) (λ z. halts reason.Short (λ len. ends_string l q z)) refl

  char_way : Typed s p type.Char → StepWay s e p (char_step (byte_in s p char_stream))
  unfolding char_step
  char_way q = byte_way (λ v. byte_in s p char_stream ≡ v → StepWay s e p (char_step v)) s p 2 (λ b z. gives type.Char _ _ q l (char b)) (λ z. halts reason.Short (λ len. ends_char l q z)) refl

  digits_way : Typed s p type.Digits → StepWay s e p (digits_step (four_in s p digits_stream))
  unfolding digits_step
  digits_way q = four_way (λ v. four_in s p digits_stream ≡ v → StepWay s e p (digits_step v)) s p 7 (λ n z. gives type.Digits _ _ q l (digits n)) (λ z. halts reason.Short (λ len. ends_digits l q z)) refl

  digits0_way : Typed s p type.Digits0 → StepWay s e p (digits0_step (padded_in s p))
  unfolding padded_of with_width digits0_step
  digits0_way q =
      four_way (λ v. four_in s p digits0_stream ≡ v → StepWay s e p (digits0_step (padded_of v (byte_in s p dzlen_stream)))) s p 3
      (λ n z. byte_way (λ v. byte_in s p dzlen_stream ≡ v → StepWay s e p (digits0_step (with_width n (cursor (cursor_of s.cur (span_of p digits0_stream) + 4)) v))) s p 4
      (λ w u. padded_way type.Digits0 q n w _ (digits0 _) (λ f len. long_digits0 n w _ _ l q z u f))
      (λ u. halts reason.Short (λ len. ends_dzlen l q u)) refl)
      (λ z. halts reason.Short (λ len. ends_digits0 l q z)) refl

  delta_way : Typed s p type.Delta → Fitting e p 7 → StepWay s e p (delta_step (row_here e p).number (byte_in s p ddelta_stream))
  unfolding delta_step
  delta_way q f =
      byte_way (λ v. byte_in s p ddelta_stream ≡ v → StepWay s e p (delta_step (row_here e p).number v)) s p 8
      (λ d z. pick_holds (StepWay s e p) (ltb ((row_here e p).number + d) (2 ^ 32)) _ _
      (λ k. gives type.Delta _ _ q l (delta _)) (λ k. halts reason.BadNumber (λ len. large_sum d _ l q f z (ltb-false _ _ k))))
      (λ z. halts reason.Short (λ len. ends_ddelta l q f z)) refl

  delta0_way : Typed s p type.Delta0 → Fitting e p 4 → StepWay s e p (delta0_step (row_here e p).number (row_here e p).width (byte_in s p ddelta0_stream))
  unfolding delta0_step
  delta0_way q f =
      byte_way (λ v. byte_in s p ddelta0_stream ≡ v → StepWay s e p (delta0_step (row_here e p).number (row_here e p).width v)) s p 9
      (λ d z. pick_holds (StepWay s e p) (ltb ((row_here e p).number + d) (2 ^ 32)) _ _
      (λ k. padded_way type.Delta0 q _ _ _ (delta0 _) (λ g len. long_sum0 d _ l q f z g))
      (λ k. halts reason.BadNumber (λ len. large_sum0 d _ l q f z (ltb-false _ _ k))))
      (λ z. halts reason.Short (λ len. ends_ddelta0 l q f z)) refl

  -- what leans on the earlier name
  match_leans : (c : Cursor) → Typed s p type.Match → StepWay s e p (match_at e p c)
  unfolding match_at has_row
  match_leans c q = pick_holds (StepWay s e p) (leb p e.count) _ _ (λ k. gives type.Match _ c q l (match _ c)) (λ k. halts reason.NoRow (λ len. no_row l q (leb-false _ _ k)))

  delta_leans : Typed s p type.Delta → StepWay s e p (delta_at s e p)
  unfolding delta_at
  delta_leans q =
      pick_holds (StepWay s e p) (has_kind e p 7) _ _ (λ k. delta_way q (fitting e p 7 k))
      (λ k. halts reason.NoRow (λ len. no_digits (omega arith) q (λ f. never (sym k ∙ has_kind_law e p 7 f))))

  delta0_leans : Typed s p type.Delta0 → StepWay s e p (delta0_at s e p)
  unfolding delta0_at
  delta0_leans q =
      pick_holds (StepWay s e p) (has_kind e p 4) _ _ (λ k. delta0_way q (fitting e p 4 k))
      (λ k. halts reason.NoRow (λ len. no_digits0 l q (λ f. never (sym k ∙ has_kind_law e p 4 f))))

not_last : (p : ℕ) → p ≤ 128 → both (eqb p 128) true ≡ false → p < 128
not_last p h e = by_order p 128 (λ l. l) (λ l. absurd (never (sym e ∙ both_of (eq-eqb p 128 (omega arith)) refl)))

value_way : (s : Source) (e : Earlier) (p : ℕ) (c : Cursor) (y : TokenType) → p ≤ 128 → Typed s p y → barred p y ≡ false → StepWay s e p (value_step s e p c y)
unfolding value_step carries barred
value_way s e p c type.String h q n = string_way s e p (not_last p h n) q
value_way s e p c type.Char h q n = char_way s e p (not_last p h n) q
value_way s e p c type.Digits h q n = digits_way s e p (not_last p h n) q
value_way s e p c type.Digits0 h q n = digits0_way s e p (not_last p h n) q
value_way s e p c type.Delta h q n = delta_leans s e p (not_last p h n) q
value_way s e p c type.Delta0 h q n = delta0_leans s e p (not_last p h n) q
value_way s e p c type.Match h q n = match_leans s e p (not_last p h n) c q
value_way s e p c type.End h q n = closes q
value_way s e p c type.Other h q n = halts reason.UnknownType (λ len. unknown q)

-- 7
barred_way : (s : Source) (e : Earlier) (p : ℕ) (y : TokenType) → Typed s p y → barred p y ≡ true → StepWay s e p (Err reason.NotEnd)
unfolding barred carries
barred_way s e p y q k =
    let b = both_true (eqb p 128) (carries y) k in
    halts reason.NotEnd (λ len. no_end y (eqb-true _ _ b.0) q (λ z. never (sym (ap carries z) ∙ b.1)) (λ z. never (sym (ap carries z) ∙ b.1)))

pub step_way : (s : Source) (e : Earlier) (p : ℕ) → p ≤ 128 → StepWay s e p (step_at s e p)
unfolding step_at typed_step
step_way s e p h =
    byte_way (λ v. byte_in s p type_stream ≡ v → StepWay s e p (typed_step s e p v)) s p 0
    (λ b z.
    let q : Typed s p (type_of s.rules.numbers b) = record { number = b; past = _; there = z; is = refl } in
    pick_holds (StepWay s e p) (barred p (type_of s.rules.numbers b)) _ _ (λ k. barred_way s e p (type_of s.rules.numbers b) q k) (λ k. value_way s e p _ (type_of s.rules.numbers b) h q k))
    (λ z. halts reason.Short (λ len. ends_type z)) refl

typed_in : (s : Source) (p : ℕ) (y : TokenType) → Typed s p y → type_at s p ≡ y
unfolding type_in
typed_in s p y q = ap (type_in s.rules.numbers) q.there ∙ q.is

-- the steps from position p on: the name so far, and the whole name
pub data Trace (s : Source) (e : Earlier) (used : ℕ) : ℕ → Draft → Draft → Type 0 where
  last : (p : ℕ) (d : Draft) → p ≤ 128 → type_at s p ≡ type.End → Trace s e used p d (ended p d)
  then : (p : ℕ) (d x : Draft) (y : TokenType) (t : Token) (c : Cursor) → p < 128 → type_at s p ≡ y → Value s p y t c
      → Trace s e used (p + 1) (grown s e used p t c.0 d) x → Trace s e used p d x

module _ (s : Source) (e : Earlier) (used : ℕ) where
  onward_way : (p : ℕ) (d x : Draft) → p ≤ 128 → (rest : Draft → Named) → ((y : Draft) → p < 128 → rest y ≡ named x → Trace s e used (p + 1) y x)
      → (st : Step) → StepWay s e p st → onward s e used p d st rest ≡ named x → Trace s e used p d x
  unfolding onward
  onward_way p d x l rest ih st (halts r b) = λ q. absurd (never_named q)
  onward_way p d x l rest ih st (closes y) =
      pick_holds (λ (a : Named). a ≡ named x → Trace s e used p d x) (eqb (length d.text) 0) _ _
      (λ k q. absurd (never_named q))
      (λ k q. let z : ended p d ≡ x = cc in subst (Trace s e used p d) z (last p d l (typed_in s p type.End y)))
  onward_way p d x l rest ih st (gives y t c q n v) =
      pick_holds (λ (a : Named). a ≡ named x → Trace s e used p d x) (printable (bytes_of s.bytes e.text t) (length d.text)) _ _
      (λ k r. then p d x y t c n (typed_in s p y q) v (ih _ n r))
      (λ k r. absurd (never_named r))

  trace_from : (f p : ℕ) (d x : Draft) → f + p ≡ 129 → name_from s e used f p d ≡ named x → Trace s e used p d x
  unfolding name_from
  trace_from zero p d x l q = absurd (never_named q)
  trace_from (suc f) p d x l q =
      onward_way p d x (omega arith) (name_from s e used f (p + 1)) (λ y h r. trace_from f (p + 1) y x (omega arith) r) (step_at s e p) (step_way s e p (omega arith)) q

  -- a name that is read has its steps from position 1 on
  pub trace : (cur : List ℕ) (x : Draft) → name_of s e used cur ≡ named x → Trace s e used 1 (draft [] [] 0 cur) x
  unfolding name_of
  trace cur x q = trace_from 128 1 (draft [] [] 0 cur) x refl q
