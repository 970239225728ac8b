-- A run of MATCHes, one by one: what they make of a name's judgement, of the name, and of the cursors.
use Prim.Native.Nat.{ℕ, zero, suc, ◌+◌, ◌-◌, ◌*◌, ◌≤◌, ◌<◌}
use Rattle.spans.specs.Spans.{Next}
use Rattle.names.specs.Names.{Judged, Draft, draft, named, refused, type_in, type_at, grown, printable, onward, name_from}
use Rattle.std.specs.Prelude.{Some, Ok, Err}
use Rattle.refusals.specs.declared.Reason.TheVariants as reason
use mathlib.Core.Path.{◌≡◌, refl, sym, ap, ◌∙◌}
use mathlib.Core.Bool.{true}
use mathlib.Core.List.{List, [], ◌∷◌, ◌++◌, append_assoc, append-nil}
use native.Mathlib.Omega.{arith}
use lib.ListN.{length, length-append}
use Rattle.base.specs.Memory.{part}
use Rattle.base.proofs.Choice.{pick_true, pick_false, by_test}
use Rattle.base.proofs.Lists.{part_none, part_next}
use Rattle.base.proofs.Memory.{length_part}
use Rattle.base.proofs.Numbers.{by_order}
use Rattle.classes.specs.Classes.{all_allowed}
use Rattle.spans.specs.declared.Cursor.{Cursor}
use Rattle.block.specs.Block.{span_of, cursor_of}
use Rattle.block.specs.Open.{Open}
use Rattle.numbering.specs.declared.TokenType.TheVariants as type
use Rattle.tokens.specs.declared.Token.{Token}
use Rattle.tokens.specs.Tokens.{bytes_of, row_of}
use Rattle.numbering.specs.Types.{Rules}
use Rattle.tables.specs.declared.Row.{Row}
use Rattle.tables.specs.Tables.{Table, row_at}
use Rattle.sources.specs.Source.{Source, source, Earlier, byte_in}
use Rattle.repeats.specs.Repeats.{token_of}
use Rattle.steps.specs.Steps.{step_at}
use Rattle.repeats.specs.Sound.{Rows}
use Rattle.steps.proofs.Forward.{step_match}
use Rattle.steps.proofs.Frame.{byte_in_same}
use Rattle.moving.specs.Moves.{past, value_past}
use Rattle.repeating.specs.Repeats.{Spelt, RowsSpelt}
use Rattle.runs.specs.Runs.{is_match}
use Rattle.repeating.specs.Repeating.{moved_row, moved_rows, types_past}
use Rattle.names.proofs.Cursors.{open_typed}
use Rattle.moving.proofs.Moves.{past_later}
use Rattle.names.proofs.Growing.{never_named}
use Rattle.names.proofs.Judgement.{judge_from, goes, spoils, long_spoils, short_prints}
use Rattle.runs.proofs.Matches.{only_match, matched}
use Rattle.repeating.proofs.Repeating.{text_size}

-- one MATCH against a spelt row
module _ (s : Source) (e : Earlier) (used : ℕ) (k : Rows used e) (spelt : RowsSpelt e) (p i : ℕ) (low : 1 ≤ p) (there : p ≤ e.count) (is : i ≡ e.first + (p - 1))
    (m : is_match (type_at s p) ≡ true) where
  abbrev token : Token
  token = token_of e.text (row_at e.rows i)

  abbrev next : Cursor
  next = (matched s.rules.numbers (byte_in s p 0) m).next

  steps : step_at s e p ≡ Ok (Some (token, next))
  steps =
      let h = k.most in
      step_match s e p (matched s.rules.numbers (byte_in s p 0) m).is (omega arith) there (matched s.rules.numbers (byte_in s p 0) m).typed
      ∙ ap (λ (j : ℕ). Ok (Some (token_of e.text (row_at e.rows j), next))) (sym is)

  typed : type_at s p ≡ type.Match
  typed = only_match (type_at s p) m

  here : Spelt e.text (row_at e.rows i)
  here = spelt.each i (omega arith) (omega arith)

  ends : (row_at e.rows i).start + (row_at e.rows i).length ≤ length e.text
  ends = omega (arith, (k.each i (omega arith) (omega arith)).ends, k.room)

  prints : bytes_of s.bytes e.text token ≡ part e.text (row_at e.rows i).start ((row_at e.rows i).start + (row_at e.rows i).length)
  prints = here.prints s.bytes

  wide : (row_at e.rows i).length ≡ length (bytes_of s.bytes e.text token)
  wide =
      let n = length_part e.text (row_at e.rows i).start ((row_at e.rows i).start + (row_at e.rows i).length) (omega arith) ends in
      rw prints (omega arith)

  allowed : all_allowed (bytes_of s.bytes e.text token) ≡ true
  allowed = ap all_allowed prints ∙ here.allowed

  row_is : (at : ℕ)
      → row_of token at ≡ moved_row (row_at e.rows i) at
  unfolding row_of
  row_is at = rw (← here.kind, ← here.number, ← here.width, ← here.length)

-- MATCHes one by one
module _ (s : Source) (e : Earlier) (used : ℕ) (k : Rows used e) (spelt : RowsSpelt e) where
  pub judge_run : (n p i f g len c q l d : ℕ) (all : Judged) → i ≡ e.first + (p - 1) → 1 ≤ p → p + n ≤ e.count + 1
      → ((j : ℕ) → p ≤ j → j < p + n → is_match (type_at s j) ≡ true)
      → f ≡ n + g → q ≡ p + n → l ≡ len + text_size e.rows i n → d ≡ c + n → l ≤ 254
      → judge_from s e f p len c ≡ all → judge_from s e g q l d ≡ all
  unfolding text_size
  judge_run zero p i f g len c q l d all is low few m ef eq el ed short inv =
      let a : g ≡ f = omega arith in
      let b : q ≡ p = omega arith in
      let x : l ≡ len = omega arith in
      let y : d ≡ c = omega arith in
      rw (a, b, x, y) inv
  judge_run (suc n) p i f g len c q l d all is low few m ef eq el ed short inv =
      let h = m p (omega arith) (omega arith) in
      let w = wide s e used k spelt p i low (omega arith) is h in
      let z = sym (short_prints _ len (row_at e.rows i).length w (omega arith) (sym (allowed s e used k spelt p i low (omega arith) is h))) in
      judge_run n (p + 1) (i + 1) (n + g) g (len + (row_at e.rows i).length) (c + 1) q l d all (omega arith) (omega arith) (omega arith)
      (λ j a b. m j (omega arith) (omega arith)) refl (omega arith) (omega arith) (omega arith) short
      (goes s e f (n + g) p len c all (omega arith) inv (steps s e used k spelt p i low (omega arith) is h) z w refl)

  pub judge_long : (n p i f g len c : ℕ) (all : Judged) → i ≡ e.first + (p - 1) → 1 ≤ p → p + n ≤ e.count + 1
      → ((j : ℕ) → p ≤ j → j < p + n → is_match (type_at s j) ≡ true)
      → f ≡ n + g → len ≤ 254 → 254 < len + text_size e.rows i n
      → judge_from s e f p len c ≡ all → Err reason.BadName ≡ all
  unfolding text_size
  judge_long zero p i f g len c all is low few m ef short long inv = absurd (omega arith)
  judge_long (suc n) p i f g len c all is low few m ef short long inv =
      let h = m p (omega arith) (omega arith) in
      let w = wide s e used k spelt p i low (omega arith) is h in
      let st = steps s e used k spelt p i low (omega arith) is h in
      by_order 254 (len + (row_at e.rows i).length)
      (λ z. spoils s e f (n + g) p len c all (omega arith) inv st (sym (long_spoils _ len (row_at e.rows i).length w z)))
      (λ z.
      let y = sym (short_prints _ len (row_at e.rows i).length w z (sym (allowed s e used k spelt p i low (omega arith) is h))) in
      judge_long n (p + 1) (i + 1) (n + g) g (len + (row_at e.rows i).length) (c + 1) all (omega arith) (omega arith) (omega arith)
      (λ j a b. m j (omega arith) (omega arith)) refl z (omega arith)
      (goes s e f (n + g) p len c all (omega arith) inv st y w refl))

-- a name with n rows of the earlier one behind it, from row i on
unfoldable pub ran_on : Earlier → ℕ → ℕ → ℕ → ℕ → Draft → Draft
ran_on e used i p n d = draft
    (d.text ++ part e.text (row_at e.rows i).start ((row_at e.rows i).start + text_size e.rows i n))
    (d.rows ++ moved_rows e.rows i n (used + length d.text))
    (d.count + n)
    (types_past d.cur p n)

draft_same : {t t' c c' : List ℕ} {r r' : List Row} {n n' : ℕ} → t ≡ t' → r ≡ r' → n ≡ n' → c ≡ c' → draft t r n c ≡ draft t' r' n' c'
draft_same a b x y = cc

ran_none_on : (e : Earlier) (used i p : ℕ) (d : Draft) → ran_on e used i p 0 d ≡ d
unfolding ran_on moved_rows types_past text_size
ran_none_on e used i p d =
    draft_same (ap (λ (x : List ℕ). d.text ++ x) (part_none e.text (row_at e.rows i).start ((row_at e.rows i).start + 0) (omega arith)) ∙ append-nil d.text)
    (append-nil d.rows) (omega arith) refl

module _ (s : Source) (e : Earlier) (used : ℕ) (k : Rows used e) (spelt : RowsSpelt e) where
  -- the text of the rows behind row i, wherever they are, if there are any
  behind : (n i : ℕ) → e.first ≤ i → i + n < e.first + e.count
      → part e.text (row_at e.rows (i + 1)).start ((row_at e.rows (i + 1)).start + text_size e.rows (i + 1) n)
      ≡ part e.text ((row_at e.rows i).start + (row_at e.rows i).length) ((row_at e.rows i).start + (row_at e.rows i).length + text_size e.rows (i + 1) n)
  unfolding text_size
  behind zero i h l = part_none e.text _ _ (omega arith) ∙ sym (part_none e.text _ _ (omega arith))
  behind (suc n) i h l = rw (spelt.laid i h (omega arith))

  module _ (p i n : ℕ) (low : 1 ≤ p) (there : p ≤ e.count) (few : p + n ≤ e.count) (is : i ≡ e.first + (p - 1)) (m : is_match (type_at s p) ≡ true) (d : Draft) where
    abbrev said : List ℕ
    said = bytes_of s.bytes e.text (token s e used k spelt p i low there is m)

    abbrev more : Draft
    more = grown s e used p (token s e used k spelt p i low there is m) (next s e used k spelt p i low there is m).0 d

    more_text : length d.text + (row_at e.rows i).length ≡ length (d.text ++ said)
    more_text = omega (arith, length-append d.text said, wide s e used k spelt p i low there is m)

    text_more : (d.text ++ said) ++ part e.text (row_at e.rows (i + 1)).start ((row_at e.rows (i + 1)).start + text_size e.rows (i + 1) n)
        ≡ d.text ++ part e.text (row_at e.rows i).start ((row_at e.rows i).start + text_size e.rows i (suc n))
    unfolding text_size
    text_more =
        append_assoc d.text said _
        ∙ ap (λ (x : List ℕ). d.text ++ x)
        (ap (λ (x : List ℕ). x ++ part e.text (row_at e.rows (i + 1)).start ((row_at e.rows (i + 1)).start + text_size e.rows (i + 1) n))
        (prints s e used k spelt p i low there is m)
        ∙ ap (λ (x : List ℕ). part e.text (row_at e.rows i).start ((row_at e.rows i).start + (row_at e.rows i).length) ++ x) (behind n i (omega arith) (omega arith))
        ∙ part_next e.text (row_at e.rows i).start (row_at e.rows i).length (text_size e.rows (i + 1) n))

    rows_more : (d.rows ++ (row_of (token s e used k spelt p i low there is m) (used + length d.text) ∷ [])) ++ moved_rows e.rows (i + 1) n (used + length (d.text ++ said))
        ≡ d.rows ++ moved_rows e.rows i (suc n) (used + length d.text)
    unfolding moved_rows
    rows_more =
        let at = used + length d.text in
        let a : used + length (d.text ++ said) ≡ used + length d.text + (row_at e.rows i).length = omega (arith, more_text) in
        append_assoc d.rows _ _
        ∙ ap (λ (x : Row). d.rows ++ (x ∷ moved_rows e.rows (i + 1) n (used + length (d.text ++ said)))) (row_is s e used k spelt p i low there is m at)
        ∙ rw a

    ran_more : ran_on e used (i + 1) (p + 1) n more ≡ ran_on e used i p (suc n) d
    unfolding ran_on grown types_past value_past
    ran_more = draft_same text_more rows_more (omega arith) (rw (typed s e used k spelt p i low there is m))

  name_one : (p f g : ℕ) (d D : Draft) {t : Token} {c : Cursor} → f ≡ suc g → step_at s e p ≡ Ok (Some (t, c))
      → name_from s e used f p d ≡ named D → name_from s e used g (p + 1) (grown s e used p t c.0 d) ≡ named D
  unfolding name_from onward
  name_one p f g d D {t} {c} ef st inv =
      let y = name_from s e used g (p + 1) (grown s e used p t c.0 d) in
      let o = rw st at (rw ef at inv) in
      by_test (printable (bytes_of s.bytes e.text t) (length d.text))
      (λ z. sym (pick_true y (refused reason.BadName) z) ∙ o)
      (λ z. absurd (never_named (sym (pick_false y (refused reason.BadName) z) ∙ o)))

  pub name_run : (n p i f g q : ℕ) (d D : Draft) → i ≡ e.first + (p - 1) → 1 ≤ p → p + n ≤ e.count + 1
      → ((j : ℕ) → p ≤ j → j < p + n → is_match (type_at s j) ≡ true)
      → f ≡ n + g → q ≡ p + n → name_from s e used f p d ≡ named D → name_from s e used g q (ran_on e used i p n d) ≡ named D
  name_run zero p i f g q d D is low few m ef eq inv =
      let a : g ≡ f = omega arith in
      let b : q ≡ p = omega arith in
      rw (ran_none_on e used i p d, a, b) inv
  name_run (suc n) p i f g q d D is low few m ef eq inv =
      let there : p ≤ e.count = omega arith in
      let h = m p (omega arith) (omega arith) in
      ap (name_from s e used g q) (sym (ran_more p i n low there (omega arith) is h d))
      ∙ name_run n (p + 1) (i + 1) (n + g) g q (more p i n low there (omega arith) is h d) D (omega arith) (omega arith) (omega arith)
      (λ j a b. m j (omega arith) (omega arith)) refl (omega arith)
      (name_one p f (n + g) d D (omega arith) (steps s e used k spelt p i low there is h) inv)

-- what a run adds to a name
pub length_moved : (rows : Table) (n i at : ℕ) → length (moved_rows rows i n at) ≡ n
unfolding moved_rows
length_moved rows zero i at = refl
length_moved rows (suc n) i at =
    omega (arith, length_moved rows n (i + 1) (at + (row_at rows i).length))

-- the cursors past a run
pub types_later : (n : ℕ) (cur : List ℕ) (p j : ℕ) → 10 * (p + n) ≤ j → cursor_of (types_past cur p n) j ≡ cursor_of cur j
unfolding types_past
types_later zero cur p j h = refl
types_later (suc n) cur p j h = types_later n (past cur (span_of p 0) 1) (p + 1) j (omega arith) ∙ past_later cur p 0 1 j (omega arith) (omega arith)

type_same : (rules : Rules) (bytes dir cur : List ℕ) (p q : ℕ) → p + 1 ≤ q → byte_in (source rules bytes dir (past cur (span_of p 0) 1)) q 0 ≡ byte_in (source rules bytes dir cur) q 0
unfolding span_of
type_same rules bytes dir cur p q h =
    byte_in_same rules bytes dir (past cur (10 * p + 0) 1) cur q (λ i k. past_later cur p 0 1 (10 * q + i) (omega arith) (omega arith)) 0 (omega arith)

pub types_open : (rules : Rules) (n : ℕ) (bytes dir cur : List ℕ) (p : ℕ) → p + n ≤ 129 → Open bytes dir cur → ((j : ℕ) → p ≤ j → j < p + n → is_match (type_at (source rules bytes dir cur) j) ≡ true)
    → Open bytes dir (types_past cur p n)
unfolding types_past
types_open rules zero bytes dir cur p h o m = o
types_open rules (suc n) bytes dir cur p h o m =
    types_open rules n bytes dir (past cur (span_of p 0) 1) (p + 1) (omega arith)
    (open_typed rules bytes dir cur o p (omega arith) (matched rules.numbers (byte_in (source rules bytes dir cur) p 0) (m p (omega arith) (omega arith))).is)
    (λ j a b. ap (λ (x : Next). is_match (type_in rules.numbers x)) (type_same rules bytes dir cur p j a) ∙ m j (omega arith) (omega arith))
