-- One turn of the walk: what it asks for, and what its answers say of the step that stood there.
use Prim.Native.Nat.{ℕ, ◌+◌, ◌-◌, ◌*◌, ◌^◌, ◌≤◌, ◌<◌}
use Rattle.spans.specs.Spans.{Next}
use Rattle.values.specs.Values.{Step}
use Rattle.taking.specs.Taking.{Turn, turn_of, Keepable}
use Rattle.std.specs.Prelude.{Some, None, Ok, Err}
use Rattle.refusals.specs.declared.Reason.{Reason}
use mathlib.Core.Path.{◌≡◌, sym, ap, ◌∙◌, subst}
use mathlib.Core.Bool.{Bool}
use mathlib.Core.List.{List}
use native.Mathlib.Omega.{arith}
use Rattle.base.specs.Choice.{pick}
use Rattle.base.specs.Every.{Below}
use Rattle.spans.specs.declared.Cursor.{Cursor}
use Rattle.block.specs.Block.{span_of, end_of, cursor_of}
use Rattle.block.specs.Streams.{dzlen_stream}
use Rattle.numbering.specs.declared.TokenType.{TokenType}
use Rattle.numbering.specs.declared.TokenType.TheVariants as type
use Rattle.tokens.specs.declared.Token.{Token}
use Rattle.numbering.specs.Types.{type_of}
use Rattle.tokens.specs.Inside.{Inside}
use Rattle.tokens.proofs.Laws.{below_more}
use Rattle.sources.specs.Source.{Source, Earlier, byte_in}
use Rattle.steps.specs.Steps.{step_at}
use Rattle.steps.proofs.Moves.{Moved}
use Rattle.steps.proofs.Laws.{Known, Given, given}
use Rattle.names.specs.Names.{type_in, type_at}
use Rattle.names.specs.Keeps.{Memory, put_token}
use Rattle.taking.specs.declared.Place.{Place}
use Rattle.turns.specs.Turns.{turn_put, RoomAt}

-- A turn, in a contract's direction

module _ (keeping : Bool) (bytes text : List ℕ) (len : ℕ) {st : Step} where
  pub turn_got : {t : Token} {c : Cursor} {r : Turn} → st ≡ Ok (Some (t, c)) → r ≡ turn_of keeping bytes text len (Ok (Some (t, c))) → r ≡ turn_of keeping bytes text len st
  turn_got s q = rw s q

  pub turn_ends : st ≡ Ok None → Ok None ≡ turn_of keeping bytes text len st
  unfolding turn_of
  turn_ends s = rw s

  pub turn_refuses : {r : Reason} → st ≡ Err r → Err r ≡ turn_of keeping bytes text len st
  unfolding turn_of
  turn_refuses s = rw s

module _ (keeping : Bool) (bytes : List ℕ) {st : Step} (at : Place) (m : Memory) where
  pub turn_puts : {t : Token} {c : Cursor} {ty found : TokenType} {m' : Memory} → st ≡ Ok (Some (t, c)) → found ≡ ty
      → m' ≡ pick keeping (put_token bytes m t found at.p.0 c.0 (at.used + at.len) (at.row + (at.p.0 - 1))) m → m' ≡ turn_put keeping bytes st ty at m
  unfolding turn_put
  turn_puts s e q = rw (s, ← e) q

  pub end_leaves : (ty : TokenType) → st ≡ Ok None → m ≡ turn_put keeping bytes st ty at m
  unfolding turn_put
  end_leaves ty s = rw s

  pub refusal_leaves : (ty : TokenType) {r : Reason} → st ≡ Err r → m ≡ turn_put keeping bytes st ty at m
  unfolding turn_put
  refusal_leaves ty s = rw s

-- What a token asks for, from what is known where the step is taken

module _ (s : Source) (e : Earlier) (at : Place) (k : Known s e at.used at.p.0) (dir_below : Below (2 ^ 32) s.dir)
    (t : Token) (c : Cursor) (q : step_at s e at.p.0 ≡ Ok (Some (t, c))) where
  told : Given s e at.used at.p.0 t c
  told = given s e at.used at.p.0 k q

  end_below : (i : ℕ) → end_of s.dir i < 2 ^ 32
  unfolding end_of
  end_below i = dir_below (2 * i + 1)

  type_here : type_at s at.p.0 ≡ type_of s.rules.numbers told.code
  unfolding type_in
  type_here = rw told.typed

  width_there : type_of s.rules.numbers told.code ≡ type.Digits0 → cursor_of s.cur (span_of at.p.0 dzlen_stream) + 1 ≤ end_of s.dir (span_of at.p.0 dzlen_stream)
  width_there h = (subst (λ (ty : TokenType). Moved s at.p.0 c.0 ty) h told.moved).1

  pub token_inside : Inside s.bytes e.text t
  token_inside = told.inside

  pub token_keeps : {found : Next} → found ≡ byte_in s at.p.0 0 → RoomAt (step_at s e at.p.0) at e.text e.rows
      → Keepable t (type_in s.rules.numbers found) at.p.0 (at.used + at.len) (at.row + (at.p.0 - 1)) s.cur e.text e.rows
  token_keeps f r =
      let room = subst (λ (x : Step). RoomAt x at e.text e.rows) q r in
      record {
        below = below_more at.used (at.used + at.len) t told.below (omega arith);
        bytes = room.0;
        table = room.1;
        spans = k.opened.table;
        typed = omega (arith, told.there, end_below (span_of at.p.0 0));
        movable = λ h. omega (arith, width_there (sym type_here ∙ sym (ap (type_in s.rules.numbers) f) ∙ h), end_below (span_of at.p.0 dzlen_stream));
      }
