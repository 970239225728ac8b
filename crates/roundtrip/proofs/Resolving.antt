-- One token read back: where the streams hold what a right choice puts, the step gives the token, and the cursors move past what was put.
use Prim.Native.Nat.{ℕ, ◌+◌, ◌-◌, ◌^◌, ◌≤◌, ◌<◌}
use Rattle.std.specs.Prelude.{Some, Ok}
use mathlib.Core.Path.{◌≡◌, refl, sym, ap, ◌∙◌}
use mathlib.Core.Bool.{Bool, true, false}
use mathlib.Core.List.{List, [], ◌∷◌, ◌++◌}
use native.Mathlib.Omega.{arith}
use borrow.Author.Tests.{lt-ltb}
use lib.ListN.{length, set, length-append}
use Rattle.base.specs.Choice.{pick}
use Rattle.base.specs.Memory.{part}
use Rattle.base.proofs.Choice.{pick_true}
use Rattle.base.proofs.Holding.{holds_part, holds_first}
use Rattle.digits.proofs.Laws.{length_padded}
use Rattle.spans.specs.declared.Cursor.{Cursor}
use Rattle.spans.specs.Spans.{Next, cursor, four_bytes}
use Rattle.block.specs.Block.{span_of, cursor_of}
use Rattle.block.proofs.Laws.{span_below, span_stream}
use Rattle.block.specs.Streams.{string_stream, char_stream, digits0_stream, dzlen_stream, digits_stream, ddelta_stream, ddelta0_stream}
use Rattle.tokens.specs.declared.Padded.{Padded}
use Rattle.numbering.specs.declared.TokenType.{TokenType}
use Rattle.numbering.specs.declared.TokenType.TheVariants as type
use Rattle.tokens.specs.declared.Token.{Token}
use Rattle.tokens.specs.declared.Token.TheVariants as token
use Rattle.tokens.specs.Tokens.{bytes_of, kind_of, number_of, width_of, length_of, row_of}
use Rattle.tables.specs.declared.Row.{Row}
use Rattle.sources.specs.Source.{Source, source, Earlier, byte_in}
use Rattle.values.specs.Values.{string_step, char_step, digits_step, with_width, padded_of, padded_step, digits0_step}
use Rattle.sums.specs.Sums.{delta_step, delta0_step}
use Rattle.repeats.specs.Repeats.{token_of, row_here, has_kind, delta_at, delta0_at}
use Rattle.steps.specs.Steps.{value_step}
use Rattle.repeats.proofs.Ways.{repeats_string, repeats_char, repeats_padded, repeats_digits}
use Rattle.moving.specs.Moves.{past, value_past}
use Rattle.laying.specs.Puts.{Put, put}
use Rattle.pieces.specs.declared.Piece.{Piece}
use Rattle.pieces.specs.declared.Piece.TheVariants.{String, Char, Digits, Digits0}
use Rattle.tokenputs.specs.TokenPuts.{piece_type}
use Rattle.valueputs.specs.ValuePuts.{piece_puts}
use Rattle.roundtrip.specs.Rows.{piece_bytes, piece_kind, piece_number, piece_width, piece_row}
use Rattle.roundtrip.proofs.Eating.{Left, First, first, eat, first_other, past_other, eaten}
use Rattle.roundtrip.proofs.Fronts.{byte_first, four_first, text_first, text_there}
use Rattle.roundtrip.proofs.Pieces.{Small}
use Rattle.roundtrip.proofs.Leaning.{RowIs}
use Rattle.numbering.specs.Types.{Rules}

-- a token that is token x of s
pub record Same (bytes text : List ℕ) (s : List ℕ) (x : Piece) (t : Token) : Type 0 where
  pub prints : bytes_of bytes text t ≡ piece_bytes s x
  pub row : (at : ℕ) → row_of t at ≡ piece_row s x at

module _ (bytes text s : List ℕ) where
  string_same : (kept : Bool) (at a e : ℕ) → part (pick kept text bytes) at (at + length (part s a e)) ≡ part s a e
      → Same bytes text s (String a e) (token.String (record { kept = kept; start = at; end = at + length (part s a e) }))
  unfolding bytes_of row_of kind_of number_of width_of length_of piece_row piece_bytes piece_kind piece_number piece_width
  string_same kept at a e q =
      let l : at + length (part s a e) - at ≡ length (part s a e) = omega arith in
      record { prints = q; row = λ n. rw l }

  char_same : (b : ℕ) → Same bytes text s (Char b) (token.Char b)
  unfolding bytes_of row_of kind_of number_of width_of length_of piece_row piece_bytes piece_kind piece_number piece_width
  char_same b = record { prints = refl; row = λ n. refl }

  digits_same : (n : ℕ) → Same bytes text s (Digits n) (token.Digits n)
  unfolding bytes_of row_of kind_of number_of width_of length_of piece_row piece_bytes piece_kind piece_number piece_width
  digits_same n = record { prints = refl; row = λ m. refl }

  digits0_same : (x : Padded) → Same bytes text s (Digits0 x) (token.Digits0 x)
  unfolding bytes_of row_of kind_of number_of width_of length_of piece_row piece_bytes piece_kind piece_number piece_width
  digits0_same x = record { prints = refl; row = λ m. rw (length_padded x.number x.width) }

-- a value read back at position p, cur being the cursors before its type and now those past it
pub record Valued (s : Source) (e : Earlier) (p : ℕ) (now : List ℕ) (k : Cursor) (ty : TokenType) (vs : List Put) (name : List ℕ) (x : Piece) : Type 0 where
  pub token : Token
  pub next : Cursor
  pub gives : value_step s e p k ty ≡ Ok (Some (token, next))
  pub same : Same s.bytes e.text name x token
  pub moved : value_past ty p next.0 now ≡ eaten now vs

module _ (rules : Rules) (bytes dir cur : List ℕ) (e : Earlier) (p : ℕ) (low : 1 ≤ p) (high : p < 128) (s : List ℕ) (rest : List Put) (k : Cursor) where
  abbrev pub src : Source
  src = source rules bytes dir cur

  abbrev pub now : List ℕ
  now = past cur (span_of p 0) 1

  apart : (i : ℕ) → 1 ≤ i → i ≤ 9 → span_of p i ≡ span_of p 0 → ⊥
  apart i h l q = let z : i ≡ 0 = span_stream p i p 0 l (omega arith) q in omega arith

  before : (i : ℕ) (xs : List ℕ) → 1 ≤ i → i ≤ 9 → First bytes dir now (span_of p i) xs → First bytes dir cur (span_of p i) xs
  before i xs h l f = first_other bytes dir cur (span_of p 0) 1 (span_of p i) xs (apart i h l) f

  below : (i : ℕ) → i ≤ 9 → span_of p i < 1290
  below i h = span_below p i (omega arith) h

  -- the first value at position p
  value : (i : ℕ) (xs : List ℕ) (ps : List Put) → 1 ≤ i → i ≤ 9 → Left bytes dir now (put (span_of p i) xs ∷ ps) → First bytes dir cur (span_of p i) xs
  value i xs ps h l f = before i xs h l (first bytes dir now (span_of p i) xs ps (below i l) f)

  set_past : (i n c : ℕ) → 1 ≤ i → i ≤ 9 → c ≡ cursor_of cur (span_of p i) + n → set now (span_of p i) c ≡ past now (span_of p i) n
  unfolding past
  set_past i n c h l q = ap (set now (span_of p i)) (q ∙ ap (λ (m : ℕ). m + n) (sym (past_other cur (span_of p 0) 1 (span_of p i) (apart i h l))))

  string_valued : (a z : ℕ) → Small s (String a z) → Left bytes dir now (piece_puts s p (String a z) ++ rest)
      → Valued src e p now k type.String (piece_puts s p (String a z)) s (String a z)
  unfolding piece_puts value_step string_step value_past eaten pick
  string_valued a z small l =
      let f : First bytes dir cur (span_of p string_stream) (part s a z ++ 0 ∷ []) = value 1 (part s a z ++ 0 ∷ []) rest (omega arith) (omega arith) l in
      let at : ℕ = cursor_of cur (span_of p string_stream) in
      record {
        token = token.String (record { kept = false; start = at; end = at + length (part s a z) });
        next = cursor (at + length (part s a z) + 1);
        gives = ap string_step (text_first rules bytes dir cur p 1 (part s a z) small f);
        same = string_same bytes e.text s false at a z (text_there rules bytes dir cur p 1 (part s a z) f);
        moved = set_past 1 (length (part s a z ++ 0 ∷ [])) (at + length (part s a z) + 1) (omega arith) (omega arith) (omega (arith, length-append (part s a z) (0 ∷ [])));
      }

  char_valued : (b : ℕ) → Left bytes dir now (piece_puts s p (Char b) ++ rest) → Valued src e p now k type.Char (piece_puts s p (Char b)) s (Char b)
  unfolding piece_puts value_step char_step value_past eaten
  char_valued b l =
      let f : First bytes dir cur (span_of p char_stream) (b ∷ []) = value 2 (b ∷ []) rest (omega arith) (omega arith) l in
      record {
        token = token.Char b;
        next = cursor (cursor_of cur (span_of p char_stream) + 1);
        gives = ap char_step (byte_first rules bytes dir cur p 2 b f);
        same = char_same bytes e.text s b;
        moved = set_past 2 1 (cursor_of cur (span_of p char_stream) + 1) (omega arith) (omega arith) refl;
      }

  digits_valued : (n : ℕ) → n < 10 ^ 9 → Left bytes dir now (piece_puts s p (Digits n) ++ rest) → Valued src e p now k type.Digits (piece_puts s p (Digits n)) s (Digits n)
  unfolding piece_puts value_step digits_step value_past eaten four_bytes
  digits_valued n h l =
      let f : First bytes dir cur (span_of p digits_stream) (four_bytes n) = value 7 (four_bytes n) rest (omega arith) (omega arith) l in
      record {
        token = token.Digits n;
        next = cursor (cursor_of cur (span_of p digits_stream) + 4);
        gives = ap digits_step (four_first rules bytes dir cur p 7 n (omega arith) f);
        same = digits_same bytes e.text s n;
        moved = set_past 7 4 (cursor_of cur (span_of p digits_stream) + 4) (omega arith) (omega arith) refl;
      }

  digits0_valued : (x : Padded) → Small s (Digits0 x) → Left bytes dir now (piece_puts s p (Digits0 x) ++ rest)
      → Valued src e p now k type.Digits0 (piece_puts s p (Digits0 x)) s (Digits0 x)
  unfolding piece_puts value_step padded_of with_width digits0_step padded_step value_past eaten four_bytes
  digits0_valued x small l =
      let n : ℕ = x.number in
      let w : ℕ = x.width in
      let more : List Put = put (span_of p dzlen_stream) (w ∷ []) ∷ rest in
      let f : First bytes dir cur (span_of p digits0_stream) (four_bytes n) = value 3 (four_bytes n) more (omega arith) (omega arith) l in
      let next : Left bytes dir (past now (span_of p digits0_stream) 4) more = eat bytes dir now (span_of p digits0_stream) (four_bytes n) more (below 3 (omega arith)) l in
      let g : First bytes dir (past now (span_of p digits0_stream) 4) (span_of p dzlen_stream) (w ∷ []) = first bytes dir (past now (span_of p digits0_stream) 4) (span_of p dzlen_stream) (w ∷ []) rest (below 4 (omega arith)) next in
      let o : First bytes dir now (span_of p dzlen_stream) (w ∷ []) =
      first_other bytes dir now (span_of p digits0_stream) 4 (span_of p dzlen_stream) (w ∷ []) (λ q. let z : 4 ≡ 3 = span_stream p 4 p 3 (omega arith) (omega arith) q in omega arith) g in
      let h : First bytes dir cur (span_of p dzlen_stream) (w ∷ []) = before 4 (w ∷ []) (omega arith) (omega arith) o in
      let c : Cursor = cursor (cursor_of cur (span_of p digits0_stream) + 4) in
      record {
        token = token.Digits0 x;
        next = c;
        gives =
            ap (λ (y : Next). digits0_step (padded_of y (byte_in src p dzlen_stream))) (four_first rules bytes dir cur p 3 n (omega (arith, small.0)) f)
            ∙ ap (λ (y : Next). digits0_step (with_width n c y)) (byte_first rules bytes dir cur p 4 w h)
            ∙ pick_true _ _ small.1.0;
        same = digits0_same bytes e.text s x;
        moved = ap (λ (m : List ℕ). past m (span_of p dzlen_stream) 1) (set_past 3 4 (cursor_of cur (span_of p digits0_stream) + 4) (omega arith) (omega arith) refl);
      }

  pub piece_valued : (x : Piece) → Small s x → Left bytes dir now (piece_puts s p x ++ rest) → Valued src e p now k (piece_type x) (piece_puts s p x) s x
  unfolding piece_type
  piece_valued (String a z) small l = string_valued a z small l
  piece_valued (Char b) small l = char_valued b l
  piece_valued (Digits n) small l = digits_valued n small l
  piece_valued (Digits0 x) small l = digits0_valued x small l

  pub delta_valued : (d : ℕ) → has_kind e p 7 ≡ true → (row_here e p).number + d < 10 ^ 9 → Left bytes dir now (put (span_of p ddelta_stream) (d ∷ []) ∷ rest)
      → Valued src e p now k type.Delta (put (span_of p ddelta_stream) (d ∷ []) ∷ []) s (Digits ((row_here e p).number + d))
  unfolding value_step delta_at delta_step value_past eaten
  delta_valued d has h l =
      let f : First bytes dir cur (span_of p ddelta_stream) (d ∷ []) = value 8 (d ∷ []) rest (omega arith) (omega arith) l in
      record {
        token = token.Digits ((row_here e p).number + d);
        next = cursor (cursor_of cur (span_of p ddelta_stream) + 1);
        gives =
            pick_true _ _ has ∙ ap (delta_step (row_here e p).number) (byte_first rules bytes dir cur p 8 d f)
            ∙ pick_true _ _ (lt-ltb ((row_here e p).number + d) (2 ^ 32) (omega arith));
        same = digits_same bytes e.text s ((row_here e p).number + d);
        moved = set_past 8 1 (cursor_of cur (span_of p ddelta_stream) + 1) (omega arith) (omega arith) refl;
      }

  pub delta0_valued : (d : ℕ) → has_kind e p 4 ≡ true → Small s (Digits0 (record { number = (row_here e p).number + d; width = (row_here e p).width }))
      → Left bytes dir now (put (span_of p ddelta0_stream) (d ∷ []) ∷ rest)
      → Valued src e p now k type.Delta0 (put (span_of p ddelta0_stream) (d ∷ []) ∷ []) s (Digits0 (record { number = (row_here e p).number + d; width = (row_here e p).width }))
  unfolding value_step delta0_at delta0_step padded_step value_past eaten
  delta0_valued d has small l =
      let f : First bytes dir cur (span_of p ddelta0_stream) (d ∷ []) = value 9 (d ∷ []) rest (omega arith) (omega arith) l in
      record {
        token = token.Digits0 (record { number = (row_here e p).number + d; width = (row_here e p).width });
        next = cursor (cursor_of cur (span_of p ddelta0_stream) + 1);
        gives =
            pick_true _ _ has ∙ ap (delta0_step (row_here e p).number (row_here e p).width) (byte_first rules bytes dir cur p 9 d f)
            ∙ pick_true _ _ (lt-ltb ((row_here e p).number + d) (2 ^ 32) (omega (arith, small.0)))
            ∙ pick_true _ _ small.1.0;
        same = digits0_same bytes e.text s (record { number = (row_here e p).number + d; width = (row_here e p).width });
        moved = set_past 9 1 (cursor_of cur (span_of p ddelta0_stream) + 1) (omega arith) (omega arith) refl;
      }

-- a row that is that of token x gives it again
pub record Repeats (bytes text : List ℕ) (row : Row) (s : List ℕ) (x : Piece) : Type 0 where
  pub token : Token
  pub again : token_of text row ≡ token
  pub same : Same bytes text s x token

module _ (bytes text : List ℕ) (row : Row) (s : List ℕ) where
  pub repeated : (x : Piece) → RowIs text row s x → Repeats bytes text row s x
  unfolding piece_kind piece_number piece_width piece_bytes pick
  repeated (String a z) i =
      let l : row.length ≡ length (part s a z) = i.length in
      record {
        token = token.String (record { kept = true; start = row.start; end = row.start + length (part s a z) });
        again = sym (repeats_string text row i.kind) ∙ rw l;
        same = string_same bytes text s true row.start a z (holds_part text row.start (part s a z) i.holds);
      }
  repeated (Char b) i =
      record {
        token = token.Char b;
        again = sym (repeats_char text row i.kind) ∙ ap token.Char (holds_first text row.start b [] i.holds);
        same = char_same bytes text s b;
      }
  repeated (Digits n) i =
      let k : row.kind ≡ 7 = i.kind in
      record {
        token = token.Digits n;
        again = sym (repeats_digits text row (λ q. omega arith) (λ q. omega arith) (λ q. omega arith)) ∙ ap token.Digits i.number;
        same = digits_same bytes text s n;
      }
  repeated (Digits0 x) i =
      record {
        token = token.Digits0 x;
        again = sym (repeats_padded text row i.kind) ∙ rw (i.number, i.width);
        same = digits0_same bytes text s x;
      }
