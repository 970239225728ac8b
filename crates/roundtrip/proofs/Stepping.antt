-- One position read back: its type, then its value, or END.
use Prim.Native.Nat.{ℕ, ◌+◌, ◌≤◌, ◌<◌}
use Rattle.std.specs.Prelude.{Some, None, Ok}
use mathlib.Core.Path.{◌≡◌, refl, sym, ap, ◌∙◌, subst}
use mathlib.Core.Bool.{false}
use mathlib.Core.List.{List, [], ◌∷◌, ◌++◌}
use native.Mathlib.Omega.{arith}
use Rattle.base.proofs.Choice.{pick_true}
use Rattle.spans.specs.declared.Cursor.{Cursor}
use Rattle.spans.specs.Spans.{cursor}
use Rattle.block.specs.Block.{span_of, cursor_of}
use Rattle.block.proofs.Laws.{span_below}
use Rattle.block.specs.Streams.{type_stream, ddelta_stream, ddelta0_stream}
use Rattle.numbering.specs.declared.TokenType.{TokenType}
use Rattle.numbering.specs.declared.TokenType.TheVariants as type
use Rattle.tokens.specs.declared.Token.{Token}
use Rattle.numbering.proofs.Laws.{type_back}
use Rattle.sources.specs.Source.{source, Earlier, byte_in}
use Rattle.repeats.specs.Repeats.{row_here, match_at}
use Rattle.steps.specs.Steps.{value_step, step_at}
use Rattle.bars.specs.Bars.{barred}
use Rattle.bars.proofs.Laws.{unbarred_before, unbarred_end}
use Rattle.steps.proofs.Forward.{step_typed}
use Rattle.moving.specs.Moves.{past, value_past}
use Rattle.names.specs.Names.{type_at, type_in}
use Rattle.laying.specs.Puts.{Put, put}
use Rattle.pieces.specs.declared.Piece.{Piece}
use Rattle.pieces.specs.declared.Piece.TheVariants.{String, Char, Digits, Digits0}
use Rattle.choices.specs.declared.Choice.{Choice}
use Rattle.choices.specs.declared.Choice.TheVariants.{Itself, Delta, Delta0, Match, End}
use Rattle.numbering.specs.Types.{Rules, type_number}
use Rattle.tokenputs.specs.TokenPuts.{piece_type, choice_type, choice_puts}
use Rattle.valueputs.specs.ValuePuts.{piece_puts, value_puts}
use Rattle.roundtrip.proofs.Eating.{Left, first, eat, eaten, Between}
use Rattle.roundtrip.proofs.Fronts.{byte_first}
use Rattle.roundtrip.proofs.Pieces.{Small}
use Rattle.roundtrip.proofs.Leaning.{Right}
use Rattle.roundtrip.proofs.Resolving.{Same, Valued, piece_valued, delta_valued, delta0_valued, repeated}

-- the puts of a position are in its spans
piece_between : (s : List ℕ) (p : ℕ) (x : Piece) → Between p (p + 1) (piece_puts s p x)
unfolding Between piece_puts span_of
piece_between s p (String a e) = (omega arith, tt)
piece_between s p (Char b) = (omega arith, tt)
piece_between s p (Digits n) = (omega arith, tt)
piece_between s p (Digits0 x) = (omega arith, (omega arith, tt))

value_between : (s : List ℕ) (p : ℕ) (c : Choice) → Between p (p + 1) (value_puts s p c)
unfolding Between value_puts span_of
value_between s p (Itself t) = piece_between s p t
value_between s p (Delta d) = (omega arith, tt)
value_between s p (Delta0 d) = (omega arith, tt)
value_between s p Match = tt
value_between s p End = tt

pub choice_between : (rules : Rules) (s : List ℕ) (p : ℕ) (c : Choice) → Between p (p + 1) (choice_puts rules s p c)
unfolding Between choice_puts span_of
choice_between rules s p c = (omega arith, value_between s p c)

module _ (rules : Rules) (bytes dir cur : List ℕ) (e : Earlier) (p : ℕ) (low : 1 ≤ p) (high : p < 128) (s : List ℕ) (rest : List Put) (k : Cursor) where
  choice_valued : (c : Choice) (x : Piece) → Small s x → Right e p s x c → Left bytes dir (past cur (span_of p 0) 1) (value_puts s p c ++ rest)
      → Valued (source rules bytes dir cur) e p (past cur (span_of p 0) 1) k (choice_type c) (value_puts s p c) s x
  unfolding choice_type value_puts value_step match_at value_past eaten
  choice_valued (Itself t) x small right l =
      subst (λ (y : Piece). Valued (source rules bytes dir cur) e p (past cur (span_of p 0) 1) k (piece_type t) (piece_puts s p t) s y) right
      (piece_valued rules bytes dir cur e p low high s rest k t (subst (Small s) (sym right) small) l)
  choice_valued (Delta d) x small right l =
      subst (λ (y : Piece). Valued (source rules bytes dir cur) e p (past cur (span_of p type_stream) 1) k type.Delta (put (span_of p ddelta_stream) (d ∷ []) ∷ []) s y) right.1
      (delta_valued rules bytes dir cur e p low high s rest k d right.0 (subst (Small s) (sym right.1) small) l)
  choice_valued (Delta0 d) x small right l =
      subst (λ (y : Piece). Valued (source rules bytes dir cur) e p (past cur (span_of p type_stream) 1) k type.Delta0 (put (span_of p ddelta0_stream) (d ∷ []) ∷ []) s y) right.1
      (delta0_valued rules bytes dir cur e p low high s rest k d right.0 (subst (Small s) (sym right.1) small) l)
  choice_valued Match x small right l =
      let r = repeated bytes e.text (row_here e p) s x right.1 in
      record {
        token = r.token;
        next = k;
        gives = pick_true _ _ right.0 ∙ ap (λ (t : Token). Ok (Some (t, k))) r.again;
        same = r.same;
        moved = refl;
      }
  choice_valued End x small right l = absurd right

-- the writer's types are all in the table
piece_known : (x : Piece) → piece_type x ≡ type.Other → ⊥
unfolding piece_type
piece_known (String a e) q = cc
piece_known (Char b) q = cc
piece_known (Digits n) q = cc
piece_known (Digits0 x) q = cc

choice_known : (c : Choice) → choice_type c ≡ type.Other → ⊥
unfolding choice_type
choice_known (Itself x) q = piece_known x q
choice_known (Delta d) q = cc
choice_known (Delta0 d) q = cc
choice_known Match q = cc
choice_known End q = cc

-- a token read back
pub record Resolved (rules : Rules) (bytes dir cur : List ℕ) (e : Earlier) (p : ℕ) (s : List ℕ) (x : Piece) (c : Choice) : Type 0 where
  pub token : Token
  pub next : Cursor
  pub gives : step_at (source rules bytes dir cur) e p ≡ Ok (Some (token, next))
  pub same : Same bytes e.text s x token
  pub moved : value_past (type_at (source rules bytes dir cur) p) p next.0 (past cur (span_of p 0) 1) ≡ eaten cur (choice_puts rules s p c)

module _ (rules : Rules) (bytes dir cur : List ℕ) (e : Earlier) (p : ℕ) (s : List ℕ) (c : Choice) (rest : List Put) (high : p ≤ 128) (l : Left bytes dir cur (choice_puts rules s p c ++ rest)) where
  abbrev number : ℕ
  number = type_number rules.numbers (choice_type c)

  type_here : byte_in (source rules bytes dir cur) p 0 ≡ Some (number, cursor (cursor_of cur (span_of p 0) + 1))
  unfolding choice_puts
  type_here = byte_first rules bytes dir cur p 0 number (first bytes dir cur (span_of p 0) (number ∷ []) (value_puts s p c ++ rest) (span_below p 0 high (omega arith)) l)

  typed : barred p (choice_type c) ≡ false → step_at (source rules bytes dir cur) e p ≡ value_step (source rules bytes dir cur) e p (cursor (cursor_of cur (span_of p 0) + 1)) (choice_type c)
  typed b = step_typed (source rules bytes dir cur) e p type_here (choice_type c) (type_back rules.numbers (choice_type c) (choice_known c)) b

  type_in_law : type_at (source rules bytes dir cur) p ≡ choice_type c
  unfolding type_in
  type_in_law = ap (type_in rules.numbers) type_here ∙ type_back rules.numbers (choice_type c) (choice_known c)

  pub resolved : (x : Piece) → 1 ≤ p → p < 128 → Small s x → Right e p s x c → Resolved rules bytes dir cur e p s x c
  unfolding choice_puts eaten
  resolved x low below small right =
      let k : Cursor = cursor (cursor_of cur (span_of p 0) + 1) in
      let v : Valued (source rules bytes dir cur) e p (past cur (span_of p 0) 1) k (choice_type c) (value_puts s p c) s x =
      choice_valued rules bytes dir cur e p low below s rest k c x small right
      (eat bytes dir cur (span_of p 0) (number ∷ []) (value_puts s p c ++ rest) (span_below p 0 high (omega arith)) l) in
      record {
        token = v.token;
        next = v.next;
        gives = typed (unbarred_before p (choice_type c) below) ∙ v.gives;
        same = v.same;
        moved = ap (λ (ty : TokenType). value_past ty p v.next.0 (past cur (span_of p 0) 1)) type_in_law ∙ v.moved;
      }

-- END read back
pub ended_back : (rules : Rules) (bytes dir cur : List ℕ) (e : Earlier) (p : ℕ) (s : List ℕ) (rest : List Put) → p ≤ 128 → Left bytes dir cur (choice_puts rules s p End ++ rest)
    → step_at (source rules bytes dir cur) e p ≡ Ok None
unfolding choice_type value_step
ended_back rules bytes dir cur e p s rest high l = typed rules bytes dir cur e p s End rest high l (unbarred_end p)

pub ended_past : (rules : Rules) (bytes dir cur : List ℕ) (p : ℕ) (s : List ℕ) (rest : List Put) → p ≤ 128 → Left bytes dir cur (choice_puts rules s p End ++ rest)
    → Left bytes dir (past cur (span_of p 0) 1) rest
unfolding choice_puts value_puts
ended_past rules bytes dir cur p s rest high l = eat bytes dir cur (span_of p 0) (type_number rules.numbers (choice_type End) ∷ []) rest (span_below p 0 high (omega arith)) l
