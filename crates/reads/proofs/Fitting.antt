-- The rows of a name that is read point inside and are spelt, whatever the bytes are: what is kept need not be judged again.
use Prim.Native.Nat.{ℕ, zero, suc, ◌+◌, ◌-◌, ◌^◌, ◌≤◌, ◌<◌}
use Rattle.spans.specs.Spans.{Next, text_end, text_at}
use Rattle.spans.specs.declared.Bytes.{Bytes}
use Rattle.values.specs.Values.{Step, string_step, char_step, digits_step, padded_in, padded_step, digits0_step}
use Rattle.tokens.specs.declared.Padded.{Padded}
use Rattle.std.specs.Prelude.{Some, None, Ok, Err, Option}
use Rattle.refusals.specs.declared.Reason.TheVariants as reason
use mathlib.Core.Path.{◌≡◌, refl, sym, ap, ◌∙◌, subst}
use mathlib.Core.Bool.{true, false}
use mathlib.Core.Logic.{⊎_elim}
use mathlib.Core.List.{List, [], ◌∷◌, ◌++◌}
use native.Mathlib.Omega.{arith}
use native.Mathlib.Nat.{add-zero, eq-or-lt_of_le}
use borrow.Author.Tests.{ltb-true, leb-true, le-leb, eqb-true}
use lib.Dec.{leb, ltb, eqb}
use lib.ListN.{length, length-append, get_or-append}
use lib.Seq.{get_or-append-add}
use Rattle.base.specs.Choice.{pick}
use Rattle.base.specs.Memory.{part}
use Rattle.base.proofs.Choice.{pick_true, pick_false, by_test, both_of, both_true, pick_holds}
use Rattle.base.proofs.Holding.{Holds, holds_left, holds_right, holds_part}
use Rattle.base.proofs.Memory.{length_part}
use Rattle.classes.specs.Classes.{all_allowed}
use Rattle.digits.specs.Digits.{fits_width}
use Rattle.digits.proofs.Laws.{length_padded}
use Rattle.spans.specs.declared.Cursor.{Cursor}
use Rattle.spans.proofs.Laws.{end_found}
use Rattle.block.specs.Block.{span_of, end_of, cursor_of}
use Rattle.block.specs.Open.{Open}
use Rattle.block.proofs.Laws.{span_below}
use Rattle.block.specs.Streams.{string_stream, char_stream, digits_stream, ddelta_stream, ddelta0_stream}
use Rattle.numbering.specs.declared.TokenType.{TokenType}
use Rattle.numbering.specs.declared.TokenType.TheVariants as type
use Rattle.tokens.specs.declared.Token.{Token}
use Rattle.tokens.specs.declared.Token.TheVariants.{String, Char, Digits, Digits0}
use Rattle.numbering.specs.Types.{type_of}
use Rattle.tokens.specs.Tokens.{bytes_of, kind_of, number_of, width_of, length_of, row_of}
use Rattle.tables.specs.declared.Row.{Row}
use Rattle.tables.specs.Tables.{row_at}
use Rattle.kept.specs.Judgement.{row_kind}
use Rattle.kept.specs.Inside.{RowInside}
use Rattle.kept.proofs.Laws.{kind_inside, row_more}
use Rattle.sources.specs.Source.{Source, Earlier, byte_in, four_in, text_in}
use Rattle.sums.specs.Sums.{delta_step, delta0_step}
use Rattle.repeats.specs.Repeats.{token_of, has_row, row_here, has_kind, delta_at, delta0_at, match_at}
use Rattle.steps.specs.Steps.{value_step, typed_step, step_at}
use Rattle.bars.specs.Bars.{barred}
use Rattle.repeats.specs.Sound.{Rows}
use Rattle.names.specs.Names.{Draft, draft, Named, named, refused, grown, ended, printable, onward, name_from, name_of}
use Rattle.repeating.specs.Repeats.{Spelt}
use Rattle.names.proofs.Growing.{never_named, printable_short}
use Rattle.reads.proofs.Spelling.{row_in, token_spelt}

-- a token that prints as many bytes as its row says; a padded number fits its width
abbrev Whole : List ℕ → List ℕ → Token → Type 0
Whole bytes text (String t) = (t.start ≤ t.end) × (t.end ≤ length (pick t.kept text bytes))
Whole bytes text (Char b) = Unit
Whole bytes text (Digits n) = Unit
Whole bytes text (Digits0 p) = fits_width p.number p.width ≡ true

whole_length : (bytes text : List ℕ) (t : Token) → Whole bytes text t → length (bytes_of bytes text t) ≡ length_of t
unfolding bytes_of length_of
whole_length bytes text (String t) w = length_part _ _ _ w.0 w.1
whole_length bytes text (Char b) w = refl
whole_length bytes text (Digits n) w = refl
whole_length bytes text (Digits0 p) w = length_padded p.number p.width

whole_kind : (bytes text : List ℕ) (t : Token) (at : ℕ) → Whole bytes text t → length_of t ≤ 254 → row_kind (row_of t at) ≡ true
unfolding length_of row_kind row_of kind_of number_of width_of pick
whole_kind bytes text (String t) at w h = refl
whole_kind bytes text (Char b) at w h = refl
whole_kind bytes text (Digits n) at w h = refl
whole_kind bytes text (Digits0 p) at w h = both_of (le-leb p.width 254 h) w

-- every token that a step gives is whole
abbrev Fine : Source → Earlier → Step → Type 0
Fine s e (Ok (Some (t, c))) = Whole s.bytes e.text t
Fine s e (Ok None) = Unit
Fine s e (Err n) = Unit

fresh_whole : (bytes text : List ℕ) (a z : ℕ) → a ≤ z → z ≤ length bytes → Whole bytes text (String (record { kept = false; start = a; end = z }))
unfolding pick
fresh_whole bytes text a z h l = (h, l)

kept_whole : (bytes text : List ℕ) (a z : ℕ) → a ≤ z → z ≤ length text → Whole bytes text (String (record { kept = true; start = a; end = z }))
unfolding pick
kept_whole bytes text a z h l = (h, l)

module _ (s : Source) (e : Earlier) where
  char_fine : (v : Next) → Fine s e (char_step v)
  unfolding char_step
  char_fine (Some (b, c)) = tt
  char_fine None = tt

  digits_fine : (v : Next) → Fine s e (digits_step v)
  unfolding digits_step
  digits_fine (Some (n, c)) = tt
  digits_fine None = tt

  padded_fine : (n w : ℕ) (c : Cursor) → Fine s e (padded_step n w c)
  unfolding padded_step
  padded_fine n w c = pick_holds (λ (x : Step). Fine s e x) (fits_width n w) _ _ (λ f. f) (λ f. tt)

  digits0_fine : (v : Option (Padded × Cursor)) → Fine s e (digits0_step v)
  unfolding digits0_step
  digits0_fine (Some (x, c)) = padded_fine x.number x.width c
  digits0_fine None = tt

  delta_fine : (n : ℕ) (v : Next) → Fine s e (delta_step n v)
  unfolding delta_step
  delta_fine n (Some (d, c)) = pick_holds (λ (x : Step). Fine s e x) (ltb (n + d) (2 ^ 32)) _ _ (λ h. tt) (λ h. tt)
  delta_fine n None = tt

  delta0_fine : (n w : ℕ) (v : Next) → Fine s e (delta0_step n w v)
  unfolding delta0_step
  delta0_fine n w (Some (d, c)) = pick_holds (λ (x : Step). Fine s e x) (ltb (n + d) (2 ^ 32)) _ _ (λ h. padded_fine (n + d) w c) (λ h. tt)
  delta0_fine n w None = tt

  module _ (used p : ℕ) (o : Open s.bytes s.dir s.cur) (rows : Rows used e) (low : 1 ≤ p) (high : p ≤ 128) where
    string_fine : Fine s e (string_step (text_in s p string_stream))
    unfolding string_step text_in text_at
    string_fine =
        let at = cursor_of s.cur (span_of p string_stream) in
        let end = end_of s.dir (span_of p string_stream) in
        let z = text_end s.bytes at end in
        pick_holds (λ (x : Option Bytes). Fine s e (string_step x)) (ltb z end) _ _
        (λ h.
        let l : z < end = ltb-true _ _ h in
        let m : at ≤ z = (end_found s.bytes at end refl l).low in
        fresh_whole s.bytes e.text at z m (omega (arith, o.within (span_of p string_stream) (span_below p string_stream high (omega arith)))))
        (λ h. tt)

    row_whole : (r : Row) → RowInside used r → Whole s.bytes e.text (token_of e.text r)
    unfolding token_of
    row_whole r i =
        let u : used ≤ length e.text = rows.room in
        let z : r.start + r.length ≤ used = i.ends in
        pick_holds (Whole s.bytes e.text) (eqb r.kind 1) _ _
        (λ h. kept_whole s.bytes e.text r.start (r.start + r.length) (omega arith) (omega arith))
        (λ h.
        pick_holds (Whole s.bytes e.text) (eqb r.kind 2) _ _
        (λ g. tt)
        (λ g.
        pick_holds (Whole s.bytes e.text) (eqb r.kind 4) _ _ (λ f. i.kind.number (eqb-true _ _ f)) (λ f. tt)))

    match_fine : (c : Cursor) → Fine s e (match_at e p c)
    unfolding match_at has_row row_here
    match_fine c =
        pick_holds (λ (x : Step). Fine s e x) (leb p e.count) _ _
        (λ h. let l : p ≤ e.count = leb-true _ _ h in row_whole (row_at e.rows (e.first + (p - 1))) (rows.each (e.first + (p - 1)) (omega arith) (omega arith)))
        (λ h. tt)

    value_fine : (c : Cursor) (ty : TokenType) → Fine s e (value_step s e p c ty)
    unfolding value_step delta_at delta0_at
    value_fine c type.String = string_fine
    value_fine c type.Char = char_fine (byte_in s p char_stream)
    value_fine c type.Digits = digits_fine (four_in s p digits_stream)
    value_fine c type.Digits0 = digits0_fine (padded_in s p)
    value_fine c type.Delta =
        pick_holds (λ (x : Step). Fine s e x) (has_kind e p 7) _ _ (λ h. delta_fine (row_here e p).number (byte_in s p ddelta_stream)) (λ h. tt)
    value_fine c type.Delta0 =
        pick_holds (λ (x : Step). Fine s e x) (has_kind e p 4) _ _ (λ h. delta0_fine (row_here e p).number (row_here e p).width (byte_in s p ddelta0_stream)) (λ h. tt)
    value_fine c type.Match = match_fine c
    value_fine c type.End = tt
    value_fine c type.Other = tt

    typed_fine : (v : Next) → Fine s e (typed_step s e p v)
    unfolding typed_step
    typed_fine (Some (b, c)) = pick_holds (λ (x : Step). Fine s e x) (barred p (type_of s.rules.numbers b)) _ _ (λ h. tt) (λ h. value_fine c (type_of s.rules.numbers b))
    typed_fine None = tt

    step_fine : Fine s e (step_at s e p)
    unfolding step_at
    step_fine = typed_fine (byte_in s p 0)

-- a row behind n others
module _ (a : List Row) (n : ℕ) (t : Token) (at : ℕ) (whole : length a ≡ n) where
  row_behind : row_in (a ++ (row_of t at ∷ [])) n ≡ row_of t at
  row_behind = ap (row_in (a ++ (row_of t at ∷ []))) (sym whole ∙ sym (add-zero (length a))) ∙ get_or-append-add a (row_of t at ∷ []) 0 _

  row_before : (j : ℕ) → j < n → row_in (a ++ (row_of t at ∷ [])) j ≡ row_in a j
  row_before j l = get_or-append a (row_of t at ∷ []) _ j (omega arith)

-- the rows of a name as far as it is read, `used` bytes of text being kept before it
pub record Rowed (used : ℕ) (d : Draft) : Type 0 where
  pub whole : length d.rows ≡ d.count
  pub each : (j : ℕ) → j < d.count → RowInside (used + length d.text) (row_in d.rows j)
  pub spelt : (text : List ℕ) → Holds text used d.text → (j : ℕ) → j < d.count → Spelt text (row_in d.rows j)
  pub laid : (j : ℕ) → j + 1 < d.count → (row_in d.rows (j + 1)).start ≡ (row_in d.rows j).start + (row_in d.rows j).length
  pub last : (j : ℕ) → j + 1 ≡ d.count → (row_in d.rows j).start + (row_in d.rows j).length ≡ used + length d.text
  pub from : (j : ℕ) → j < d.count → (used ≤ (row_in d.rows j).start) × (j ≡ 0 → (row_in d.rows j).start ≡ used)
  pub none : d.count ≡ 0 → length d.text ≡ 0

-- 8 left every byte allowed
printable_allowed : (b : List ℕ) (n : ℕ) → printable b n ≡ true → all_allowed b ≡ true
unfolding printable
printable_allowed b n q = (both_true (all_allowed b) (leb (n + length b) 254) q).0

module _ (s : Source) (e : Earlier) (used p : ℕ) (t : Token) (c : ℕ) (d : Draft) where
  grown_rowed : Whole s.bytes e.text t → printable (bytes_of s.bytes e.text t) (length d.text) ≡ true → Rowed used d → Rowed used (grown s e used p t c d)
  unfolding grown row_of
  grown_rowed w y r =
      let b = bytes_of s.bytes e.text t in
      let at = used + length d.text in
      let m = printable_short b (length d.text) y in
      let l : length b ≡ length_of t = whole_length s.bytes e.text t w in
      let n : length (d.text ++ b) ≡ length d.text + length b = length-append d.text b in
      let here : RowInside (used + length (d.text ++ b)) (row_of t at) =
      record { ends = omega arith; kind = kind_inside (row_of t at) (whole_kind s.bytes e.text t at w (omega arith)) } in
      let new : (j : ℕ) → j ≡ d.count → row_in (d.rows ++ (row_of t at ∷ [])) j ≡ row_of t at =
      λ j q. ap (row_in (d.rows ++ (row_of t at ∷ []))) q ∙ row_behind d.rows d.count t at r.whole in
      let old : (j : ℕ) → j < d.count → row_in (d.rows ++ (row_of t at ∷ [])) j ≡ row_in d.rows j = row_before d.rows d.count t at r.whole in
      record {
        whole = length-append d.rows (row_of t at ∷ []) ∙ omega (arith, r.whole);
        each = λ j h.
            ⊎_elim
            (λ q. subst (RowInside (used + length (d.text ++ b))) (sym (new j q)) here)
            (λ q. subst (RowInside (used + length (d.text ++ b))) (sym (old j q))
            (row_more at (used + length (d.text ++ b)) (omega arith) (row_in d.rows j) (r.each j q)))
            (eq-or-lt_of_le {n = j} {m = d.count} (omega arith));
        spelt = λ text k j h.
            ⊎_elim
            (λ q. subst (Spelt text) (sym (new j q))
            (token_spelt s.bytes e.text text t at
            (ap (λ (n : ℕ). part text at (at + n)) (sym l) ∙ holds_part text at b (holds_right text used d.text b k)) (printable_allowed b (length d.text) y)))
            (λ q. subst (Spelt text) (sym (old j q)) (r.spelt text (holds_left text used d.text b k) j q))
            (eq-or-lt_of_le {n = j} {m = d.count} (omega arith));
        laid = λ j h.
            ⊎_elim
            (λ q. ap (λ (x : Row). x.start) (new (j + 1) q) ∙ sym (r.last j q))
            (λ q. ap (λ (x : Row). x.start) (old (j + 1) q) ∙ r.laid j q)
            (eq-or-lt_of_le {n = j + 1} {m = d.count} (omega arith))
            ∙ sym (ap (λ (x : Row). x.start + x.length) (old j (omega arith)));
        last = λ j h. ap (λ (x : Row). x.start + x.length) (new j (omega arith)) ∙ omega arith;
        from = λ j h.
            ⊎_elim
            (λ q. rw (new j q) (omega arith, λ z. omega (arith, r.none (omega arith))))
            (λ q. rw (old j q) (r.from j q))
            (eq-or-lt_of_le {n = j} {m = d.count} (omega arith));
        none = λ h. absurd (omega arith);
      }

module _ (s : Source) (e : Earlier) (used : ℕ) (o : Open s.bytes s.dir s.cur) (rows : Rows used e) where
  module _ (p : ℕ) (d D : Draft) (rest : Draft → Named) (on : (g : Draft) → Rowed used g → rest g ≡ named D → Rowed used D) (r : Rowed used d) where
    ended_rowed : named (ended p d) ≡ named D → Rowed used D
    unfolding ended
    ended_rowed q =
        let w : ended p d ≡ D = cc in
        subst (Rowed used) w (record { whole = r.whole; each = r.each; spelt = r.spelt; laid = r.laid; last = r.last; from = r.from; none = r.none })

    onward_rowed : (st : Step) → Fine s e st → onward s e used p d st rest ≡ named D → Rowed used D
    unfolding onward
    onward_rowed (Ok (Some (t, c))) w q =
        let g = grown s e used p t c.0 d in
        by_test (printable (bytes_of s.bytes e.text t) (length d.text))
        (λ y. on g (grown_rowed s e used p t c.0 d w y r) (sym (pick_true (rest g) (refused reason.BadName) y) ∙ q))
        (λ y. absurd (never_named (sym (pick_false (rest g) (refused reason.BadName) y) ∙ q)))
    onward_rowed (Ok None) w q =
        by_test (eqb (length d.text) 0)
        (λ y. absurd (never_named (sym (pick_true (refused reason.BadName) (named (ended p d)) y) ∙ q)))
        (λ y. ended_rowed (sym (pick_false (refused reason.BadName) (named (ended p d)) y) ∙ q))
    onward_rowed (Err n) w q = absurd (never_named q)

  from_rowed : (f p : ℕ) (d D : Draft) → 1 ≤ p → p + f ≤ 129 → Rowed used d → name_from s e used f p d ≡ named D → Rowed used D
  unfolding name_from
  from_rowed zero p d D l h r q = absurd (never_named q)
  from_rowed (suc f) p d D l h r q =
      onward_rowed p d D (name_from s e used f (p + 1)) (λ g k z. from_rowed f (p + 1) g D (omega arith) (omega arith) k z) r
      (step_at s e p) (step_fine s e used p o rows l (omega arith)) q

  -- of every name that is read
  pub name_rowed : (c : List ℕ) (D : Draft) → name_of s e used c ≡ named D → Rowed used D
  unfolding name_of
  name_rowed c D q = from_rowed 128 1 (draft [] [] 0 c) D (omega arith) (omega arith) (record {
    whole = refl;
    each = λ j h. absurd (omega arith);
    spelt = λ text k j h. absurd (omega arith);
    laid = λ j h. absurd (omega arith);
    last = λ j h. absurd (omega arith);
    from = λ j h. absurd (omega arith);
    none = λ h. refl;
  }) q
