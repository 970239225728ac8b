-- Which memory a step depends on: the ten cursors of its position, the earlier name's rows, and the kept text below where their texts end.
use Prim.Native.Nat.{ℕ, ◌+◌, ◌-◌, ◌≤◌}
use Rattle.spans.specs.Spans.{Next}
use Rattle.std.specs.Prelude.{Some, None, Ok, Err}
use Rattle.refusals.specs.declared.Reason.TheVariants as reason
use mathlib.Core.Path.{◌≡◌, refl, ap, ◌∙◌}
use mathlib.Core.Bool.{true}
use mathlib.Core.List.{List}
use native.Mathlib.Omega.{arith}
use borrow.Author.Tests.{leb-true}
use lib.Dec.{leb}
use lib.ListN.{length, take}
use Rattle.base.specs.Choice.{pick}
use Rattle.base.proofs.Choice.{both_true, pick_same}
use Rattle.spans.specs.declared.Cursor.{Cursor}
use Rattle.block.specs.Block.{span_of, cursor_of}
use Rattle.numbering.specs.declared.TokenType.{TokenType}
use Rattle.numbering.specs.declared.TokenType.TheVariants as type
use Rattle.tokens.specs.declared.Token.{Token}
use Rattle.numbering.specs.Types.{Rules, type_of}
use Rattle.tables.specs.Tables.{Table, row_room, row_at}
use Rattle.tables.proofs.Rows.{SameRows}
use Rattle.sources.specs.Source.{Source, source, Earlier, earlier, byte_in, four_in, text_in}
use Rattle.values.specs.Values.{string_step, char_step, digits_step}
use Rattle.repeats.specs.Repeats.{token_of, has_row, row_here, has_kind, delta_at, delta0_at, match_at}
use Rattle.steps.specs.Steps.{value_step, typed_step, step_at}
use Rattle.bars.specs.Bars.{barred}
use Rattle.repeats.specs.Sound.{Rows}
use Rattle.repeats.proofs.Frame.{token_same}

-- The cursors

module _ (rules : Rules) (bytes dir cur other : List ℕ) (p : ℕ) (same : (i : ℕ) → i ≤ 9 → cursor_of cur (span_of p i) ≡ cursor_of other (span_of p i)) where
  pub byte_in_same : (i : ℕ) → i ≤ 9 → byte_in (source rules bytes dir cur) p i ≡ byte_in (source rules bytes dir other) p i
  unfolding byte_in
  byte_in_same i h = rw (same i h)

  pub four_in_same : (i : ℕ) → i ≤ 9 → four_in (source rules bytes dir cur) p i ≡ four_in (source rules bytes dir other) p i
  unfolding four_in
  four_in_same i h = rw (same i h)

  pub text_in_same : (i : ℕ) → i ≤ 9 → text_in (source rules bytes dir cur) p i ≡ text_in (source rules bytes dir other) p i
  unfolding text_in
  text_in_same i h = rw (same i h)

  value_cursors : (e : Earlier) (c : Cursor) (t : TokenType) → value_step (source rules bytes dir cur) e p c t ≡ value_step (source rules bytes dir other) e p c t
  unfolding value_step delta_at delta0_at
  value_cursors e c type.String = ap string_step (text_in_same 1 (omega arith))
  value_cursors e c type.Char = ap char_step (byte_in_same 2 (omega arith))
  value_cursors e c type.Digits = ap digits_step (four_in_same 7 (omega arith))
  value_cursors e c type.Digits0 = rw (four_in_same 3 (omega arith), byte_in_same 4 (omega arith))
  value_cursors e c type.Delta = rw (byte_in_same 8 (omega arith))
  value_cursors e c type.Delta0 = rw (byte_in_same 9 (omega arith))
  value_cursors e c type.Match = refl
  value_cursors e c type.End = refl
  value_cursors e c type.Other = refl

  typed_cursors : (e : Earlier) (found : Next) → typed_step (source rules bytes dir cur) e p found ≡ typed_step (source rules bytes dir other) e p found
  unfolding typed_step
  typed_cursors e (Some (b, c)) = ap (pick (barred p (type_of rules.numbers b)) (Err reason.NotEnd)) (value_cursors e c (type_of rules.numbers b))
  typed_cursors e None = refl

  pub step_cursors : (e : Earlier) → step_at (source rules bytes dir cur) e p ≡ step_at (source rules bytes dir other) e p
  unfolding step_at
  step_cursors e = typed_cursors e (byte_in (source rules bytes dir cur) p 0) ∙ ap (typed_step (source rules bytes dir other) e p) (byte_in_same 0 (omega arith))

-- The earlier name

module _ (text others : List ℕ) (rows table : Table) (first count used p : ℕ) (known : Rows used (earlier text rows first count)) (low : 1 ≤ p)
    (texts : take used text ≡ take used others) (numbers : SameRows rows table (first + count)) where
  here_same : leb p count ≡ true → row_at rows (first + (p - 1)) ≡ row_at table (first + (p - 1))
  here_same h = let l : p ≤ count = leb-true _ _ h in numbers (first + (p - 1)) (omega arith)

  kind_same : (kind : ℕ) → has_kind (earlier text rows first count) p kind ≡ has_kind (earlier others table first count) p kind
  unfolding has_kind has_row row_here
  kind_same kind = pick_same (leb p count) _ _ _ _ (λ h. rw (here_same h)) (λ h. refl)

  kind_row : (kind : ℕ) → has_kind (earlier others table first count) p kind ≡ true → leb p count ≡ true
  unfolding has_kind has_row
  kind_row kind h = (both_true (leb p count) _ h).0

  delta_same : (s : Source) → delta_at s (earlier text rows first count) p ≡ delta_at s (earlier others table first count) p
  unfolding delta_at row_here
  delta_same s = rw (kind_same 7) (pick_same (has_kind (earlier others table first count) p 7) _ _ _ _ (λ h. rw (here_same (kind_row 7 h))) (λ h. refl))

  delta0_same : (s : Source) → delta0_at s (earlier text rows first count) p ≡ delta0_at s (earlier others table first count) p
  unfolding delta0_at row_here
  delta0_same s = rw (kind_same 4) (pick_same (has_kind (earlier others table first count) p 4) _ _ _ _ (λ h. rw (here_same (kind_row 4 h))) (λ h. refl))

  match_same : (c : Cursor) → match_at (earlier text rows first count) p c ≡ match_at (earlier others table first count) p c
  unfolding match_at has_row row_here
  match_same c =
      pick_same (leb p count) _ _ _ _
      (λ h.
      let l : p ≤ count = leb-true _ _ h in
      ap (λ (t : Token). Ok (Some (t, c)))
      (token_same text others used (row_at rows (first + (p - 1))) texts (known.each (first + (p - 1)) (omega arith) (omega arith)) ∙ ap (token_of others) (here_same h)))
      (λ h. refl)

  value_earlier : (s : Source) (c : Cursor) (t : TokenType) → value_step s (earlier text rows first count) p c t ≡ value_step s (earlier others table first count) p c t
  unfolding value_step
  value_earlier s c type.String = refl
  value_earlier s c type.Char = refl
  value_earlier s c type.Digits = refl
  value_earlier s c type.Digits0 = refl
  value_earlier s c type.Delta = delta_same s
  value_earlier s c type.Delta0 = delta0_same s
  value_earlier s c type.Match = match_same c
  value_earlier s c type.End = refl
  value_earlier s c type.Other = refl

  typed_earlier : (s : Source) (found : Next) → typed_step s (earlier text rows first count) p found ≡ typed_step s (earlier others table first count) p found
  unfolding typed_step
  typed_earlier s (Some (b, c)) = ap (pick (barred p (type_of s.rules.numbers b)) (Err reason.NotEnd)) (value_earlier s c (type_of s.rules.numbers b))
  typed_earlier s None = refl

  pub step_earlier : (s : Source) → step_at s (earlier text rows first count) p ≡ step_at s (earlier others table first count) p
  unfolding step_at
  step_earlier s = typed_earlier s (byte_in s p 0)

  -- the rows are as sound in the other memory
  pub rows_same : used ≤ length others → first + count ≤ row_room table → Rows used (earlier others table first count)
  rows_same h l =
      record {
        table = l;
        most = known.most;
        room = h;
        each = λ j a b. rw (numbers j b) at (known.each j a b);
      }

-- both at once
pub step_frame : (rules : Rules) (bytes dir cur other text others : List ℕ) (rows table : Table) (first count used p : ℕ) → Rows used (earlier text rows first count) → 1 ≤ p
    → ((i : ℕ) → i ≤ 9 → cursor_of cur (span_of p i) ≡ cursor_of other (span_of p i))
    → take used text ≡ take used others → SameRows rows table (first + count)
    → step_at (source rules bytes dir cur) (earlier text rows first count) p ≡ step_at (source rules bytes dir other) (earlier others table first count) p
step_frame rules bytes dir cur other text others rows table first count used p known low same texts numbers =
    step_cursors rules bytes dir cur other p same (earlier text rows first count) ∙ step_earlier text others rows table first count used p known low texts numbers (source rules bytes dir other)
