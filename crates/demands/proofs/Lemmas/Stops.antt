-- A name is refused exactly where its tokens stop (specs/Stops): a refusal of the walk has its cause (`name_stops`), and the cause gives the refusal (`stops_name`).
use Prim.Native.Nat.{ℕ, zero, suc, ◌+◌, ◌-◌, ◌^◌, ◌≤◌, ◌<◌}
use Rattle.spans.specs.Spans.{Next}
use Rattle.values.specs.Values.{Step}
use Rattle.names.specs.Names.{Judged}
use Rattle.std.specs.Prelude.{Some, None, Ok, Err}
use Rattle.refusals.specs.declared.Reason.{Reason}
use Rattle.refusals.specs.declared.Reason.TheVariants as reason
use mathlib.Core.Path.{◌≡◌, refl, sym, ap, ◌∙◌, subst}
use mathlib.Core.Bool.{true, false}
use mathlib.Core.Logic.{⊎_elim}
use native.Mathlib.Omega.{arith}
use borrow.Author.Tests.{leb-false, le-leb, eqb-true, eq-eqb}
use lib.Dec.{eqb}
use lib.ListN.{length}
use Rattle.base.proofs.Choice.{pick_true, pick_false, pick_holds, pick_either, both_true, both_of, both_left, by_test, fails, never}
use Rattle.classes.specs.Classes.{all_allowed}
use Rattle.digits.proofs.Laws.{fits_below, fits_zero}
use Rattle.spans.specs.declared.Cursor.{Cursor}
use Rattle.block.specs.Streams.{digits0_stream, dzlen_stream, ddelta_stream, ddelta0_stream}
use Rattle.numbering.specs.declared.TokenType.{TokenType}
use Rattle.numbering.specs.declared.TokenType.TheVariants as type
use Rattle.tokens.specs.declared.Token.{Token}
use Rattle.tokens.specs.Tokens.{bytes_of}
use Rattle.sources.specs.Source.{Source, Earlier, byte_in, four_in}
use Rattle.values.specs.Values.{string_step, char_step, digits_step, with_width, padded_of, padded_step, digits0_step}
use Rattle.sums.specs.Sums.{delta_step, delta0_step}
use Rattle.sums.proofs.Ways.{sum_long, sum0_long}
use Rattle.repeats.specs.Repeats.{row_here, delta_at, delta0_at}
use Rattle.repeats.proofs.Ways.{match_none}
use Rattle.bars.specs.Bars.{carries, barred}
use Rattle.bars.proofs.Laws.{unbarred_before, unbarred_end, unbarred_other}
use Rattle.steps.specs.Steps.{value_step, typed_step, step_at}
use Rattle.steps.proofs.Forward.{step_typed}
use Rattle.steps.proofs.Ways.{typed_barred}
use Rattle.names.specs.Names.{printable}
use Rattle.names.specs.Judge.{summary}
use Rattle.names.proofs.Growing.{printable_short}
use Rattle.names.proofs.Judgement.{judge_on, judge_from, judge_of, goes, long_spoils}
use Rattle.names.proofs.Frames.{judged_refused}
use Rattle.demands.specs.Refusals.{ByToken}
use Rattle.demands.specs.Stops.{NameStops, StopsName, StopsAt, Typed, Fitting, Misfit, Reached, at_first, at_next, Stop, ends_type, ends_string, ends_char, ends_digits, ends_digits0, ends_dzlen, ends_ddelta, ends_ddelta0, unknown, no_row, no_digits, no_digits0, large_sum, large_sum0, long_sum0, long_digits0, no_end, not_allowed, too_long, empty}
use Rattle.demands.proofs.Lemmas.Traces.{StepWay, halts, closes, gives, step_way, fitting, has_kind_law}

module _ (s : Source) (e : Earlier) where
  -- position 128 gives no token, so none behind it is reached
  way_early : (p : ℕ) (t : Token) (c : Cursor) (st : Step) → StepWay s e p st → st ≡ Ok (Some (t, c)) → p < 128
  way_early p t c st (halts r f) q = cc
  way_early p t c st (closes y) q = cc
  way_early p t c st (gives y u d k l v) q = l

  within : (p len : ℕ) → Reached s e p len → (1 ≤ p) × (p ≤ 128)
  within p len at_first = (omega arith, omega arith)
  within p len (at_next i n t c r g a l) =
      let b = within i n r in
      let h = way_early i t c _ (step_way s e i b.1) g in
      (omega arith, omega arith)

  -- a refusal has its cause
  spoilt : (p len : ℕ) (t : Token) (c : Cursor) → step_at s e p ≡ Ok (Some (t, c)) → printable (bytes_of s.bytes e.text t) len ≡ false → Stop s e p len reason.BadName
  unfolding printable
  spoilt p len t c g k =
      by_test (all_allowed (bytes_of s.bytes e.text t))
      (λ a. let l = leb-false (len + length (bytes_of s.bytes e.text t)) 254 (fails (λ b. never (sym k ∙ both_of a b))) in too_long t c g (omega arith))
      (λ a. not_allowed t c g a)

  goes_on : (p len : ℕ) (t : Token) (c : Cursor) → Reached s e p len → step_at s e p ≡ Ok (Some (t, c)) → printable (bytes_of s.bytes e.text t) len ≡ true
      → Reached s e (p + 1) (len + length (bytes_of s.bytes e.text t))
  unfolding printable
  goes_on p len t c r g k = at_next p len t c r g (both_true (all_allowed (bytes_of s.bytes e.text t)) _ k).0 (printable_short _ _ k)

  module _ (p len n : ℕ) (r : Reason) (h : Reached s e p len) (rest : ℕ → ℕ → Judged)
      (more : (k m : ℕ) → Reached s e (p + 1) k → rest k m ≡ Err r → StopsAt s e r) where
    stopped : (x : Reason) → Stop s e p len x → x ≡ r → StopsAt s e r
    stopped x c z = record { position = p; printed = len; reached = h; stops = subst (Stop s e p len) z c }

    stops_on : (st : Step) → step_at s e p ≡ st → StepWay s e p st → judge_on s e len n st rest ≡ Err r → StopsAt s e r
    unfolding judge_on
    stops_on st g (halts x c) = λ q. stopped x (c len) (let z : x ≡ r = cc in z)
    stops_on st g (closes y) =
        pick_holds (λ (a : Judged). a ≡ Err r → StopsAt s e r) (eqb len 0) _ _
        (λ k q. stopped reason.BadName (empty y (eqb-true len 0 k)) (let z : reason.BadName ≡ r = cc in z))
        (λ k q. cc)
    stops_on st g (gives y t c k l v) =
        pick_holds (λ (a : Judged). a ≡ Err r → StopsAt s e r) (printable (bytes_of s.bytes e.text t) len) _ _
        (λ b q. more _ _ (goes_on p len t c h g b) q)
        (λ b q. stopped reason.BadName (spoilt p len t c g b) (let z : reason.BadName ≡ r = cc in z))

  stops_from : (f p len n : ℕ) (r : Reason) → f + p ≡ 129 → Reached s e p len → judge_from s e f p len n ≡ Err r → StopsAt s e r
  unfolding judge_from
  stops_from zero p len n r l h q = absurd (omega (arith, (within p len h).1))
  stops_from (suc f) p len n r l h q =
      stops_on p len n r h (judge_from s e f (p + 1)) (λ k m i w. stops_from f (p + 1) k m r (omega arith) i w)
      (step_at s e p) refl (step_way s e p (omega arith)) q

pub name_stops : NameStops
unfolding summary
name_stops s e used cur r q = stops_from s e 128 1 0 0 r refl at_first (sym (judge_of s e used cur) ∙ ap summary q)

-- a cause gives its refusal: first what the step at its position comes to
misfits : (n w : ℕ) (c : Cursor) → Misfit n w → padded_step n w c ≡ Err reason.BadNumber
unfolding padded_step
misfits n w c f =
    pick_false _ _
    (⊎_elim
    (λ (z : w ≡ 0). fits_zero n w (omega arith))
    (λ (l : 10 ^ w ≤ n). fails (λ t. omega (arith, fits_below n w t)))
    f)

carried : (y : TokenType) → (y ≡ type.Other → ⊥) → (y ≡ type.End → ⊥) → carries y ≡ true
unfolding carries
carried type.String a b = refl
carried type.Char a b = refl
carried type.Digits a b = refl
carried type.Digits0 a b = refl
carried type.Delta a b = refl
carried type.Delta0 a b = refl
carried type.Match a b = refl
carried type.End a b = absurd (b refl)
carried type.Other a b = absurd (a refl)

no_width : (v : Next) → digits0_step (padded_of v None) ≡ Err reason.Short
unfolding padded_of with_width digits0_step
no_width (Some (n, c)) = refl
no_width None = refl

module _ (s : Source) (e : Earlier) (p : ℕ) where
  typed_step_law : (y : TokenType) (q : Typed s p y) → barred p y ≡ false → step_at s e p ≡ value_step s e p q.past y
  typed_step_law y q h = step_typed s e p q.there y q.is h

  last_step : (y : TokenType) → p ≡ 128 → Typed s p y → (y ≡ type.Other → ⊥) → (y ≡ type.End → ⊥) → step_at s e p ≡ Err reason.NotEnd
  unfolding step_at barred
  last_step y h q a b = ap (typed_step s e p) q.there ∙ sym (typed_barred s e p _ _ (sym q.is) (both_of (eq-eqb _ _ h) (carried y a b)))

  delta_fits : Fitting e p 7 → (v : Next) → byte_in s p ddelta_stream ≡ v → delta_at s e p ≡ delta_step (row_here e p).number v
  unfolding delta_at
  delta_fits f v z = pick_true _ _ (has_kind_law e p 7 f) ∙ ap (delta_step (row_here e p).number) z

  delta0_fits : Fitting e p 4 → (v : Next) → byte_in s p ddelta0_stream ≡ v → delta0_at s e p ≡ delta0_step (row_here e p).number (row_here e p).width v
  unfolding delta0_at
  delta0_fits f v z = pick_true _ _ (has_kind_law e p 4 f) ∙ ap (delta0_step (row_here e p).number (row_here e p).width) z

  sum_misfits : (n w d : ℕ) (c : Cursor) → Misfit (n + d) w → delta0_step n w (Some (d, c)) ≡ Err reason.BadNumber
  unfolding delta0_step
  sum_misfits n w d c g = pick_either (λ (x : Step). x ≡ Err reason.BadNumber) _ _ _ (misfits (n + d) w c g) refl

  module _ (len n : ℕ) (rest : ℕ → ℕ → Judged) where
    abbrev Refuses : Reason → Type 0
    Refuses r = judge_on s e len n (step_at s e p) rest ≡ Err r

    by_step : (r : Reason) → step_at s e p ≡ Err r → Refuses r
    unfolding judge_on
    by_step r q = ap (λ (st : Step). judge_on s e len n st rest) q

    by_value : (r : Reason) (y : TokenType) → p < 128 → (q : Typed s p y) → value_step s e p q.past y ≡ Err r → Refuses r
    by_value r y l q v = by_step r (typed_step_law y q (unbarred_before p y l) ∙ v)

    spoils : (t : Token) (c : Cursor) → step_at s e p ≡ Ok (Some (t, c)) → printable (bytes_of s.bytes e.text t) len ≡ false → Refuses reason.BadName
    unfolding judge_on
    spoils t c g k = ap (λ (st : Step). judge_on s e len n st rest) g ∙ pick_false _ _ k

    stop_judges : (r : Reason) → Stop s e p len r → Refuses r
    unfolding step_at typed_step value_step string_step char_step digits_step digits0_step padded_of with_width delta_step delta0_step delta_at delta0_at judge_on printable
    stop_judges r (ends_type z) = by_step reason.Short (ap (typed_step s e p) z)
    stop_judges r (ends_string l q z) = by_value reason.Short type.String l q (ap string_step z)
    stop_judges r (ends_char l q z) = by_value reason.Short type.Char l q (ap char_step z)
    stop_judges r (ends_digits l q z) = by_value reason.Short type.Digits l q (ap digits_step z)
    stop_judges r (ends_digits0 l q z) = by_value reason.Short type.Digits0 l q (ap (λ (v : Next). digits0_step (padded_of v (byte_in s p dzlen_stream))) z)
    stop_judges r (ends_dzlen l q z) = by_value reason.Short type.Digits0 l q (ap (λ (v : Next). digits0_step (padded_of (four_in s p digits0_stream) v)) z ∙ no_width (four_in s p digits0_stream))
    stop_judges r (ends_ddelta l q f z) = by_value reason.Short type.Delta l q (delta_fits f None z)
    stop_judges r (ends_ddelta0 l q f z) = by_value reason.Short type.Delta0 l q (delta0_fits f None z)
    stop_judges r (unknown q) = by_step reason.UnknownType (typed_step_law type.Other q (unbarred_other p))
    stop_judges r (no_row l q h) = by_value reason.NoRow type.Match l q (sym (match_none e p q.past h))
    stop_judges r (no_digits l q f) = by_value reason.NoRow type.Delta l q (pick_false _ _ (fails (λ k. f (fitting e p 7 k))))
    stop_judges r (no_digits0 l q f) = by_value reason.NoRow type.Delta0 l q (pick_false _ _ (fails (λ k. f (fitting e p 4 k))))
    stop_judges r (large_sum d c l q f z h) = by_value reason.BadNumber type.Delta l q (delta_fits f _ z ∙ sym (sum_long _ d c h))
    stop_judges r (large_sum0 d c l q f z h) = by_value reason.BadNumber type.Delta0 l q (delta0_fits f _ z ∙ sym (sum0_long _ d c _ h))
    stop_judges r (long_sum0 d c l q f z g) = by_value reason.BadNumber type.Delta0 l q (delta0_fits f _ z ∙ sum_misfits _ _ d c g)
    stop_judges r (long_digits0 m w c k l q z u g) =
        by_value reason.BadNumber type.Digits0 l q
        (ap (λ (v : Next). digits0_step (padded_of v (byte_in s p dzlen_stream))) z
        ∙ ap (λ (v : Next). digits0_step (with_width m c v)) u
        ∙ misfits m w c g)
    stop_judges r (no_end y h q a b) = by_step reason.NotEnd (last_step y h q a b)
    stop_judges r (not_allowed t c g a) = spoils t c g (both_left _ a)
    stop_judges r (too_long t c g h) = spoils t c g (sym (long_spoils _ len _ refl h))
    stop_judges r (empty q z) = ap (λ (st : Step). judge_on s e len n st rest) (typed_step_law type.End q (unbarred_end p)) ∙ pick_true _ _ (eq-eqb len 0 z)

module _ (s : Source) (e : Earlier) where
  -- the walk from a position that is reached is the walk from the first
  reached_judges : (p len : ℕ) → Reached s e p len → (f n : ℕ) → f + p ≡ 129 → n + 1 ≡ p → judge_from s e f p len n ≡ judge_from s e 128 1 0 0
  unfolding printable
  reached_judges p len at_first f n h k =
      let a : f ≡ 128 = omega arith in
      let b : n ≡ 0 = omega arith in
      rw (a, b)
  reached_judges p len (at_next i m t c r g a l) f n h k =
      let b = within s e i m r in
      goes s e (suc f) f i m (i - 1) _ refl (reached_judges i m r (suc f) (i - 1) (omega arith) (omega (arith, b.0))) g (both_of a (le-leb _ _ l)) refl (omega (arith, b.0))

  -- at the position where they stop
  stopped_judges : (p len : ℕ) (r : Reason) → Reached s e p len → Stop s e p len r → judge_from s e 128 1 0 0 ≡ Err r
  unfolding judge_from
  stopped_judges p len r h c =
      let b = within s e p len h in
      sym (reached_judges p len h (suc (128 - p)) (p - 1) (omega (arith, b.1)) (omega (arith, b.0)))
      ∙ stop_judges s e p len (p - 1) (judge_from s e (128 - p) (p + 1)) r c

  -- the numbers of the causes
  pub stop_number : (p len : ℕ) (r : Reason) → Stop s e p len r → ByToken r
  stop_number p len r (ends_type z) = omega arith
  stop_number p len r (ends_string l q z) = omega arith
  stop_number p len r (ends_char l q z) = omega arith
  stop_number p len r (ends_digits l q z) = omega arith
  stop_number p len r (ends_digits0 l q z) = omega arith
  stop_number p len r (ends_dzlen l q z) = omega arith
  stop_number p len r (ends_ddelta l q f z) = omega arith
  stop_number p len r (ends_ddelta0 l q f z) = omega arith
  stop_number p len r (unknown q) = omega arith
  stop_number p len r (no_row l q h) = omega arith
  stop_number p len r (no_digits l q f) = omega arith
  stop_number p len r (no_digits0 l q f) = omega arith
  stop_number p len r (large_sum d c l q f z h) = omega arith
  stop_number p len r (large_sum0 d c l q f z h) = omega arith
  stop_number p len r (long_sum0 d c l q f z g) = omega arith
  stop_number p len r (long_digits0 n w c k l q z u g) = omega arith
  stop_number p len r (no_end y h q a b) = omega arith
  stop_number p len r (not_allowed t c g a) = omega arith
  stop_number p len r (too_long t c g h) = omega arith
  stop_number p len r (empty q z) = omega arith

pub stops_name : StopsName
stops_name s e used cur p len r h c = judged_refused _ (sym (stopped_judges s e p len r h c) ∙ sym (judge_of s e used cur))
