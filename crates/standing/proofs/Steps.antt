-- What stands at a position: a step over the cursors and the earlier name's rows is what the words say of the bytes left and its values.
use Prim.Native.Nat.{ℕ, ◌+◌, ◌^◌, ◌≤◌, ◌<◌}
use Rattle.refusals.specs.declared.Reason.{Reason}
use Rattle.refusals.specs.declared.Reason.TheVariants as reason
use Rattle.spans.specs.Spans.{Next}
use Rattle.spans.specs.declared.Bytes.{Bytes}
use Rattle.values.specs.Values.{Step}
use Rattle.std.specs.Prelude.{Some, None, Ok, Err, Option}
use mathlib.Core.Path.{◌≡◌, refl, sym, ap, ◌∙◌}
use mathlib.Core.List.{List}
use native.Mathlib.Omega.{arith}
use lib.Dec.{ltb}
use lib.ListN.{length, set, length-set}
use Rattle.base.proofs.Choice.{pick_two}
use Rattle.base.specs.Choice.{pick}
use Rattle.base.specs.Memory.{part}
use Rattle.base.proofs.Memory.{length_part}
use Rattle.digits.specs.Digits.{fits_width}
use Rattle.digits.proofs.Laws.{length_padded}
use Rattle.spans.specs.declared.Cursor.{Cursor}
use Rattle.spans.specs.Spans.{cursor}
use Rattle.block.specs.Block.{span_of, end_of, cursor_of}
use Rattle.block.specs.Open.{Open}
use Rattle.block.specs.Streams.{type_stream, dzlen_stream, ddelta_stream, ddelta0_stream}
use Rattle.block.proofs.Laws.{span_below, cursor_set_other}
use Rattle.numbering.specs.declared.TokenType.{TokenType}
use Rattle.numbering.specs.declared.TokenType.TheVariants as type
use Rattle.tokens.specs.declared.Token.{Token}
use Rattle.numbering.specs.Types.{Rules, type_of}
use Rattle.tokens.specs.Tokens.{length_of}
use Rattle.sources.specs.Source.{Source, source, Earlier, byte_in, four_in, text_in}
use Rattle.values.specs.Values.{string_step, char_step, digits_step, padded_step, with_width, padded_of, digits0_step}
use Rattle.sums.specs.Sums.{delta_step, delta0_step}
use Rattle.repeats.specs.Repeats.{row_here, delta_at, delta0_at, match_at}
use Rattle.repeats.proofs.Ways.{delta_none, delta_other, delta_is, delta0_none, delta0_other, delta0_is, match_none, match_is}
use Rattle.bars.specs.Bars.{barred}
use Rattle.steps.specs.Steps.{value_step, typed_step, step_at}
use Rattle.moving.specs.Moves.{past, value_past}
use Rattle.moving.proofs.Moves.{length_past}
use Rattle.names.specs.Names.{type_in, type_at}
use Rattle.words.specs.Fronts.{Spans, leave, Front, byte, text, Said, said, refused, then, taken}
use Rattle.words.specs.Values.{Value, string, char, digits, digits0, prints, row_for}
use Rattle.words.specs.Words.{Found, value, end, fitting, summed, summed0, on_digits, on_digits0, on_any, resolved, typed, found}
use Rattle.words.proofs.Laws.{leave_other}
use Rattle.standing.specs.Stands.{Left}
use Rattle.standing.proofs.Fronts.{byte_front, four_front, text_front}
use Rattle.standing.proofs.Shown.{shown, shows_token, shows_long, RowsTell, none, more}
use Rattle.standing.proofs.Spans.{left_set, other_span}

-- a step and what the words say: the same refusal, END, or the same value, and the bytes left are those from the cursors moved
pub data StepSaid (bytes dir cur kept : List ℕ) (p : ℕ) (ty : TokenType) : Step → Said Found → Type 0 where
  refuses : (r : Reason) → StepSaid bytes dir cur kept p ty (Err r) (refused r)
  ends : (spans : Spans) → Left bytes dir (past cur (span_of p type_stream) 1) spans → StepSaid bytes dir cur kept p ty (Ok None) (said end spans)
  gives : (t : Token) (c : Cursor) (v : Value) (spans : Spans) → shown bytes kept t ≡ v → length (prints v) ≡ length_of t
      → Left bytes dir (value_past ty p c.0 (past cur (span_of p type_stream) 1)) spans → StepSaid bytes dir cur kept p ty (Ok (Some (t, c))) (said (value v) spans)

module _ (rules : Rules) (bytes dir cur : List ℕ) (e : Earlier) (o : Open bytes dir cur) (p : ℕ) (h : p ≤ 128) (es : List Value) (tells : RowsTell e p es) where
  abbrev s : Source
  s = source rules bytes dir cur

  abbrev now : List ℕ
  now = past cur (span_of p type_stream) 1

  abbrev Says : TokenType → Step → Said Found → Type 0
  Says = StepSaid bytes dir cur e.text p

  whole : length now ≡ 1290
  whole = length_past cur _ _ ∙ o.table

  below : (i : ℕ) → i ≤ 9 → span_of p i < 1290
  below i k = span_below p i h k

  within : (i : ℕ) → i ≤ 9 → end_of dir (span_of p i) ≤ length bytes
  within i k = o.within (span_of p i) (below i k)

  -- the rest of the position: its type is read
  module _ (spans : Spans) (l : Left bytes dir now spans) where
    own : (i : ℕ) → 1 ≤ i → i ≤ 9 → spans (span_of p i) ≡ part bytes (cursor_of cur (span_of p i)) (end_of dir (span_of p i))
    unfolding past
    own i a b =
        l (span_of p i) (below i b)
        ∙ ap (λ (c : ℕ). part bytes c (end_of dir (span_of p i))) (cursor_set_other cur (span_of p 0) _ (span_of p i) (other_span p i 0 b (omega arith) (λ z. omega (arith, a, z))))

    moved : (i c : ℕ) → i ≤ 9 → Left bytes dir (set now (span_of p i) c) (leave spans (span_of p i) (part bytes c (end_of dir (span_of p i))))
    moved i c k = left_set bytes dir now spans l whole (span_of p i) c (below i k)

    string_said : (c : Cursor) → Says type.String (value_step s e p c type.String) (resolved p es type.String spans)
    unfolding value_step resolved text_in string_step then taken shown pick length_of prints value_past
    string_said c =
        rw (own 1 (omega arith) (omega arith))
        (text_front bytes (end_of dir (span_of p 1)) (within 1 (omega arith))
        (λ (t : Option Bytes) (f : Front (List ℕ)). Says type.String (string_step t) (then (taken spans (span_of p 1) f) (λ t rest. said (value (string t)) rest)))
        (cursor_of cur (span_of p 1)) (o.unpassed (span_of p 1) (below 1 (omega arith)))
        (λ z a b. gives _ _ _ _ refl (length_part bytes (cursor_of cur (span_of p 1)) z a (omega (arith, b, within 1 (omega arith)))) (moved 1 (z + 1) (omega arith)))
        (refuses reason.Short))

    char_said : (c : Cursor) → Says type.Char (value_step s e p c type.Char) (resolved p es type.Char spans)
    unfolding value_step resolved byte_in char_step then taken shown length_of prints value_past
    char_said c =
        rw (own 2 (omega arith) (omega arith))
        (byte_front bytes (end_of dir (span_of p 2)) (within 2 (omega arith))
        (λ (t : Next) (f : Front ℕ). Says type.Char (char_step t) (then (taken spans (span_of p 2) f) (λ b rest. said (value (char b)) rest)))
        (cursor_of cur (span_of p 2))
        (λ b a. gives _ _ _ _ refl refl (moved 2 _ (omega arith)))
        (refuses reason.Short))

    digits_said : (c : Cursor) → Says type.Digits (value_step s e p c type.Digits) (resolved p es type.Digits spans)
    unfolding value_step resolved four_in digits_step then taken shown length_of prints value_past
    digits_said c =
        rw (own 7 (omega arith) (omega arith))
        (four_front bytes (end_of dir (span_of p 7)) (within 7 (omega arith))
        (λ (t : Next) (f : Front ℕ). Says type.Digits (digits_step t) (then (taken spans (span_of p 7) f) (λ n rest. said (value (digits n)) rest)))
        (cursor_of cur (span_of p 7))
        (λ n a. gives _ _ _ _ refl refl (moved 7 _ (omega arith)))
        (refuses reason.Short))

    -- a number that must fit its width, wherever it comes from
    fitting_said : (ty : TokenType) (n w : ℕ) (c : Cursor) (rest : Spans) → Left bytes dir (value_past ty p c.0 now) rest → Says ty (padded_step n w c) (fitting n w rest)
    unfolding padded_step fitting shown prints length_of
    fitting_said ty n w c rest k = pick_two (Says ty) (fits_width n w) _ _ _ _ (λ t. gives _ c _ rest refl (length_padded n w) k) (λ t. refuses reason.BadNumber)

    -- behind its number
    module _ (n at : ℕ) where
      rest : Spans
      rest = leave spans (span_of p 3) (part bytes at (end_of dir (span_of p 3)))

      wide : rest (span_of p 4) ≡ part bytes (cursor_of cur (span_of p 4)) (end_of dir (span_of p 4))
      unfolding rest
      wide = leave_other spans (span_of p 3) _ (span_of p 4) (other_span p 4 3 (omega arith) (omega arith) (λ z. omega (arith, z))) ∙ own 4 (omega arith) (omega arith)

      numbered : Left bytes dir (set now (span_of p 3) at) rest
      unfolding rest
      numbered = moved 3 at (omega arith)

      width_at : cursor_of (set now (span_of p 3) at) (span_of p 4) ≡ cursor_of cur (span_of p 4)
      unfolding past
      width_at =
          cursor_set_other now (span_of p 3) at (span_of p 4) (other_span p 4 3 (omega arith) (omega arith) (λ z. omega (arith, z)))
          ∙ cursor_set_other cur (span_of p 0) _ (span_of p 4) (other_span p 4 0 (omega arith) (omega arith) (λ z. omega (arith, z)))

      wide_left : Left bytes dir (past (set now (span_of p 3) at) (span_of p 4) 1) (leave rest (span_of p 4) (part bytes (cursor_of cur (span_of p 4) + 1) (end_of dir (span_of p 4))))
      unfolding past
      wide_left = rw width_at (left_set bytes dir (set now (span_of p 3) at) rest numbered (length-set now (span_of p 3) at ∙ whole) (span_of p 4) _ (below 4 (omega arith)))

      width_said : Says type.Digits0 (digits0_step (with_width n (cursor at) (byte_in s p dzlen_stream))) (then (taken rest (span_of p 4) (byte (rest (span_of p 4)))) (fitting n))
      unfolding byte_in then taken digits0_step with_width value_past
      width_said =
          rw wide
          (byte_front bytes (end_of dir (span_of p 4)) (within 4 (omega arith))
          (λ (t : Next) (f : Front ℕ). Says type.Digits0 (digits0_step (with_width n (cursor at) t)) (then (taken rest (span_of p 4) f) (fitting n)))
          (cursor_of cur (span_of p 4))
          (λ w a. fitting_said type.Digits0 n w (cursor at) _ wide_left)
          (refuses reason.Short))

    digits0_said : (c : Cursor) → Says type.Digits0 (value_step s e p c type.Digits0) (resolved p es type.Digits0 spans)
    unfolding value_step resolved four_in digits0_step padded_of then taken rest
    digits0_said c =
        rw (own 3 (omega arith) (omega arith))
        (four_front bytes (end_of dir (span_of p 3)) (within 3 (omega arith))
        (λ (t : Next) (f : Front ℕ). Says type.Digits0 (digits0_step (padded_of t (byte_in s p dzlen_stream)))
        (then (taken spans (span_of p 3) f) (λ n rest. then (taken rest (span_of p 4) (byte (rest (span_of p 4)))) (fitting n))))
        (cursor_of cur (span_of p 3))
        (λ n a. width_said n (cursor_of cur (span_of p 3) + 4))
        (refuses reason.Short))

    -- a byte added to a number of the earlier name
    delta_said : (n : ℕ) → Says type.Delta (delta_step n (byte_in s p ddelta_stream)) (then (taken spans (span_of p 8) (byte (spans (span_of p 8)))) (summed n))
    unfolding byte_in delta_step then taken summed shown length_of prints value_past
    delta_said n =
        rw (own 8 (omega arith) (omega arith))
        (byte_front bytes (end_of dir (span_of p 8)) (within 8 (omega arith))
        (λ (t : Next) (f : Front ℕ). Says type.Delta (delta_step n t) (then (taken spans (span_of p 8) f) (summed n)))
        (cursor_of cur (span_of p 8))
        (λ d a. pick_two (Says type.Delta) (ltb (n + d) (2 ^ 32)) _ _ _ _ (λ t. gives _ _ _ _ refl refl (moved 8 _ (omega arith))) (λ t. refuses reason.BadNumber))
        (refuses reason.Short))

    delta0_said : (n w : ℕ) → Says type.Delta0 (delta0_step n w (byte_in s p ddelta0_stream)) (then (taken spans (span_of p 9) (byte (spans (span_of p 9)))) (summed0 n w))
    unfolding byte_in delta0_step then taken summed0 value_past
    delta0_said n w =
        rw (own 9 (omega arith) (omega arith))
        (byte_front bytes (end_of dir (span_of p 9)) (within 9 (omega arith))
        (λ (t : Next) (f : Front ℕ). Says type.Delta0 (delta0_step n w t) (then (taken spans (span_of p 9) f) (summed0 n w)))
        (cursor_of cur (span_of p 9))
        (λ d a. pick_two (Says type.Delta0) (ltb (n + d) (2 ^ 32)) _ _ _ _ (λ t. fitting_said type.Delta0 (n + d) w _ _ (moved 9 _ (omega arith))) (λ t. refuses reason.BadNumber))
        (refuses reason.Short))

    -- what leans on the earlier name's row
    on_digits_law : (vs : List Value) → RowsTell e p vs → Says type.Delta (delta_at s e p) (on_digits vs (λ n. then (taken spans (span_of p 8) (byte (spans (span_of p 8)))) (summed n)))
    unfolding on_digits row_here row_for
    on_digits_law vs (none q a) = rw (← delta_none s e p a) (refuses reason.NoRow)
    on_digits_law vs (more q (string t) ws a x r) = rw (← delta_other s e p a (sym x.row) (λ z. omega (arith, z))) (refuses reason.NoRow)
    on_digits_law vs (more q (char b) ws a x r) = rw (← delta_other s e p a (sym x.row) (λ z. omega (arith, z))) (refuses reason.NoRow)
    on_digits_law vs (more q (digits n) ws a x r) = rw (← delta_is s e p a (sym x.row) refl refl refl) (delta_said n)
    on_digits_law vs (more q (digits0 n w) ws a x r) = rw (← delta_other s e p a (sym x.row) (λ z. omega (arith, z))) (refuses reason.NoRow)

    on_digits0_law : (vs : List Value) → RowsTell e p vs → Says type.Delta0 (delta0_at s e p) (on_digits0 vs (λ n w. then (taken spans (span_of p 9) (byte (spans (span_of p 9)))) (summed0 n w)))
    unfolding on_digits0 row_here row_for
    on_digits0_law vs (none q a) = rw (← delta0_none s e p a) (refuses reason.NoRow)
    on_digits0_law vs (more q (string t) ws a x r) = rw (← delta0_other s e p a (sym x.row) (λ z. omega (arith, z))) (refuses reason.NoRow)
    on_digits0_law vs (more q (char b) ws a x r) = rw (← delta0_other s e p a (sym x.row) (λ z. omega (arith, z))) (refuses reason.NoRow)
    on_digits0_law vs (more q (digits n) ws a x r) = rw (← delta0_other s e p a (sym x.row) (λ z. omega (arith, z))) (refuses reason.NoRow)
    on_digits0_law vs (more q (digits0 n w) ws a x r) = rw (← delta0_is s e p a (sym x.row) refl refl refl) (delta0_said n w)

    on_any_law : (c : Cursor) (vs : List Value) → RowsTell e p vs → Says type.Match (match_at e p c) (on_any vs (λ v. said (value v) spans))
    unfolding on_any row_here value_past
    on_any_law c vs (none q a) = rw (← match_none e p c a) (refuses reason.NoRow)
    on_any_law c vs (more q v ws a x r) =
        rw (← match_is e p c {r = row_here e p} a refl refl) (gives _ c v spans (shows_token bytes e.text (row_here e p) v x) (shows_long bytes e.text (row_here e p) v x) l)

    value_said : (c : Cursor) (t : TokenType) → Says t (value_step s e p c t) (resolved p es t spans)
    unfolding value_step resolved
    value_said c type.String = string_said c
    value_said c type.Char = char_said c
    value_said c type.Digits = digits_said c
    value_said c type.Digits0 = digits0_said c
    value_said c type.Delta = on_digits_law es tells
    value_said c type.Delta0 = on_digits0_law es tells
    value_said c type.Match = on_any_law c es tells
    value_said c type.End = ends spans l
    value_said c type.Other = refuses reason.UnknownType

  -- a position
  module _ (spans : Spans) (l : Left bytes dir cur spans) where
    pub step_said : Says (type_at s p) (step_at s e p) (found rules p es spans)
    unfolding step_at typed_step type_in byte_in found then taken typed past
    step_said =
        rw (l (span_of p 0) (below 0 (omega arith)))
        (byte_front bytes (end_of dir (span_of p 0)) (within 0 (omega arith))
        (λ (t : Next) (f : Front ℕ). Says (type_in rules.numbers t) (typed_step s e p t) (then (taken spans (span_of p 0) f) (λ b rest. typed p es (type_of rules.numbers b) rest)))
        (cursor_of cur (span_of p 0))
        (λ b a. pick_two (Says (type_of rules.numbers b)) (barred p (type_of rules.numbers b)) _ _ _ _ (λ t. refuses reason.NotEnd)
        (λ t. value_said _ (left_set bytes dir cur spans l o.table (span_of p 0) _ (below 0 (omega arith))) _ (type_of rules.numbers b)))
        (refuses reason.Short))
