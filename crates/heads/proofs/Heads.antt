-- Position 0, way by way, in a contract's direction; and what a head tells.
use Prim.Native.Nat.{ℕ, ◌+◌, ◌*◌, ◌^◌, ◌≤◌}
use Rattle.spans.specs.Spans.{Next}
use Rattle.distances.specs.Distances.{Head, dup_head, diff_head}
use Rattle.std.specs.Prelude.{Some, None, Ok, Err}
use Rattle.refusals.specs.declared.Reason.TheVariants as reason
use Rattle.distances.specs.declared.Reference.TheVariants as reference
use mathlib.Core.Path.{◌≡◌, refl, sym, ap, ◌∙◌}
use mathlib.Core.List.{List}
use native.Mathlib.Omega.{arith}
use borrow.Author.Tests.{eq-eqb, ne_eqb}
use lib.Dec.{eqb}
use lib.ListN.{set}
use Rattle.base.specs.Choice.{pick}
use Rattle.base.proofs.Choice.{took, left, pick_true, pick_false, by_test}
use Rattle.base.specs.Every.{Below}
use Rattle.spans.specs.declared.Cursor.{Cursor}
use Rattle.spans.specs.declared.Distance.{Distance}
use Rattle.block.specs.Block.{span_of, end_of, cursor_of}
use Rattle.block.specs.Open.{Open}
use Rattle.block.proofs.Laws.{span_below, span_stream, cursor_set_other, open_set}
use Rattle.block.specs.Streams.{type_stream, dup_stream, diff_stream}
use Rattle.numbering.specs.Types.{Rules}
use Rattle.numbering.proofs.Laws.{dup_not_diff}
use Rattle.sources.specs.Source.{Source, source, byte_in}
use Rattle.moving.specs.Moves.{past}
use Rattle.names.proofs.Cursors.{byte_reach, four_reach}
use Rattle.moving.proofs.Moves.{past_later}
use Rattle.names.proofs.Frames.{SameFrom}
use Rattle.distances.proofs.Distances.{never_dup, never_diff, dup_said, diff_said, dup_none, diff_none, diff_no_dup, dup_no_diff}
use Rattle.heads.specs.Headed.{Headed, Passable}
use Rattle.heads.specs.Heads.{distance_in, typed_head, head_of, head_past}

module _ (s : Source) (n : ℕ) where
  pub head_short : byte_in s 0 0 ≡ None → Err reason.Short ≡ head_of s n
  unfolding head_of typed_head
  head_short q = rw q

  module _ {t : ℕ} {c : Cursor} (q : byte_in s 0 0 ≡ Some (t, c)) where
    pub head_dup : {found : Next} {r : Head} → t ≡ s.rules.numbers.dup → found ≡ distance_in s dup_stream → r ≡ dup_head n found → r ≡ head_of s n
    unfolding head_of typed_head
    head_dup k f h = rw q (took _ _ (eq-eqb _ _ k) (h ∙ ap (dup_head n) f))

    pub head_diff : {found : Next} {r : Head} → t ≡ s.rules.numbers.diff → found ≡ distance_in s diff_stream → r ≡ diff_head n found → r ≡ head_of s n
    unfolding head_of typed_head
    head_diff k f h = rw q (left _ _ (ne_eqb t s.rules.numbers.dup (λ z. dup_not_diff s.rules.numbers (sym k ∙ z))) (took _ _ (eq-eqb _ _ k) (h ∙ ap (diff_head n) f)))

    pub head_other : (t ≡ s.rules.numbers.dup → ⊥) → (t ≡ s.rules.numbers.diff → ⊥) → Err reason.UnknownType ≡ head_of s n
    unfolding head_of typed_head
    head_other a b = rw q (left _ _ (ne_eqb _ _ a) (left _ _ (ne_eqb _ _ b) refl))

-- the cursors past a head
pub head_kept : (cur now : List ℕ) (i n : ℕ) → now ≡ past cur (span_of 0 0) n → 1 ≤ i → i ≤ 9 → cursor_of now (span_of 0 i) ≡ cursor_of cur (span_of 0 i)
unfolding past
head_kept cur now i n e h k =
    ap (λ (x : List ℕ). cursor_of x (span_of 0 i)) e
    ∙ cursor_set_other cur (span_of 0 0) (cursor_of cur (span_of 0 0) + n) (span_of 0 i) (λ q. let z = span_stream 0 i 0 0 k (omega arith) q in omega arith)

pub head_moved : (cur : List ℕ) (i : ℕ) {now then : List ℕ} {m n : ℕ} → now ≡ past cur (span_of 0 0) m → then ≡ past now (span_of 0 i) n → m ≡ 1 → n ≡ 4 → then ≡ head_past cur i
unfolding head_past
head_moved cur i e f p q = rw (f, e, p, q)

-- they are those of position 0 alone
pub head_same : (cur : List ℕ) (i : ℕ) → i ≤ 9 → SameFrom 1 (head_past cur i) cur
unfolding head_past
head_same cur i h j k = past_later (past cur (span_of 0 0) 1) 0 i 4 j h (omega arith) ∙ past_later cur 0 0 1 j (omega arith) (omega arith)

module _ (s : Source) (n : ℕ) (d : Distance) where
  dup_four : (f : Next) → distance_in s dup_stream ≡ f → dup_head n f ≡ Ok (reference.Dup d) → ((1 ≤ d.0) × (d.0 ≤ n)) × (cursor_of s.cur (span_of 0 dup_stream) + 4 ≤ end_of s.dir (span_of 0 dup_stream))
  dup_four (Some (v, c)) q r = (dup_said n d v c r, (four_reach s 0 dup_stream q).1.high)
  dup_four None q r = absurd (dup_none n d r)

  diff_four : (f : Next) → distance_in s diff_stream ≡ f → diff_head n f ≡ Ok (reference.Diff d) → (d.0 ≤ n) × (cursor_of s.cur (span_of 0 diff_stream) + 4 ≤ end_of s.dir (span_of 0 diff_stream))
  diff_four (Some (v, c)) q r = (diff_said n d v c r, (four_reach s 0 diff_stream q).1.high)
  diff_four None q r = absurd (diff_none n d r)

  typed_dup : (b : Next) → byte_in s 0 type_stream ≡ b → typed_head s n b ≡ Ok (reference.Dup d) → (1 ≤ d.0) × Headed s dup_stream d.0 n
  unfolding typed_head
  typed_dup (Some (t, c)) q r =
      let x = dup_head n (distance_in s dup_stream) in
      let y = diff_head n (distance_in s diff_stream) in
      let z = pick (eqb t s.rules.numbers.diff) y (Err reason.UnknownType) in
      by_test (eqb t s.rules.numbers.dup)
      (λ a.
      let w = dup_four (distance_in s dup_stream) refl (sym (pick_true x z a) ∙ r) in
      (w.0.0, record { near = w.0.1; typed = (byte_reach s 0 0 q).1.high; four = w.1 }))
      (λ a.
      by_test (eqb t s.rules.numbers.diff)
      (λ b. absurd (diff_no_dup n d (distance_in s diff_stream) (sym (pick_true y (Err reason.UnknownType) b) ∙ sym (pick_false x z a) ∙ r)))
      (λ b. absurd (never_dup (sym (pick_false y (Err reason.UnknownType) b) ∙ sym (pick_false x z a) ∙ r))))
  typed_dup None q r = absurd (never_dup r)

  typed_diff : (b : Next) → byte_in s 0 type_stream ≡ b → typed_head s n b ≡ Ok (reference.Diff d) → Headed s diff_stream d.0 n
  unfolding typed_head
  typed_diff (Some (t, c)) q r =
      let x = dup_head n (distance_in s dup_stream) in
      let y = diff_head n (distance_in s diff_stream) in
      let z = pick (eqb t s.rules.numbers.diff) y (Err reason.UnknownType) in
      by_test (eqb t s.rules.numbers.dup)
      (λ a. absurd (dup_no_diff n d (distance_in s dup_stream) (sym (pick_true x z a) ∙ r)))
      (λ a.
      by_test (eqb t s.rules.numbers.diff)
      (λ b.
      let w = diff_four (distance_in s diff_stream) refl (sym (pick_true y (Err reason.UnknownType) b) ∙ sym (pick_false x z a) ∙ r) in
      record { near = w.0; typed = (byte_reach s 0 0 q).1.high; four = w.1 })
      (λ b. absurd (never_diff (sym (pick_false y (Err reason.UnknownType) b) ∙ sym (pick_false x z a) ∙ r))))
  typed_diff None q r = absurd (never_diff r)

  pub dup_told : head_of s n ≡ Ok (reference.Dup d) → (1 ≤ d.0) × Headed s dup_stream d.0 n
  unfolding head_of
  dup_told r = typed_dup (byte_in s 0 0) refl r

  pub diff_told : head_of s n ≡ Ok (reference.Diff d) → Headed s diff_stream d.0 n
  unfolding head_of
  diff_told r = typed_diff (byte_in s 0 0) refl r

-- past a head every cursor is inside its span
pub head_open : (rules : Rules) (bytes dir cur : List ℕ) (i d n : ℕ) → Open bytes dir cur → 1 ≤ i → i ≤ 9 → Headed (source rules bytes dir cur) i d n → Open bytes dir (head_past cur i)
unfolding head_past past
head_open rules bytes dir cur i d n o h k g =
    let typed = open_set bytes dir cur (span_of 0 0) (cursor_of cur (span_of 0 0) + 1) o (span_below 0 0 (omega arith) (omega arith)) (omega arith) g.typed in
    let w = cursor_set_other cur (span_of 0 0) (cursor_of cur (span_of 0 0) + 1) (span_of 0 i) (λ q. let z = span_stream 0 i 0 0 k (omega arith) q in omega arith) in
    open_set bytes dir (set cur (span_of 0 0) (cursor_of cur (span_of 0 0) + 1)) (span_of 0 i) _ typed (span_below 0 i (omega arith) k) (omega arith) (omega (arith, g.four))

pub head_passable : (rules : Rules) (bytes dir cur : List ℕ) (i d n : ℕ) → Below (2 ^ 32) dir → Headed (source rules bytes dir cur) i d n → Passable cur i
unfolding end_of
head_passable rules bytes dir cur i d n b g =
    record { typed = omega (arith, g.typed, b (2 * span_of 0 0 + 1)); four = omega (arith, g.four, b (2 * span_of 0 i + 1)) }
