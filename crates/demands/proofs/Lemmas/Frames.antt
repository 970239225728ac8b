-- A name read over the rows of an earlier one depends on those rows and on the text below which theirs lie, and on nothing else of the memory.
use Prim.Native.Nat.{ℕ, ◌+◌, ◌-◌, ◌≤◌, ◌<◌}
use Rattle.values.specs.Values.{Step}
use Rattle.std.specs.Prelude.{Some, Ok}
use mathlib.Core.Path.{◌≡◌, refl, sym, ap, ◌∙◌, subst}
use mathlib.Core.List.{List, []}
use native.Mathlib.Omega.{arith}
use borrow.Author.Tests.{leb-true, ne_eqb}
use lib.Dec.{eqb}
use lib.ListN.{take}
use Rattle.base.specs.Choice.{pick}
use Rattle.base.proofs.Choice.{pick_false, pick_holds, pick_either, both_left}
use Rattle.base.proofs.Below.{same_part}
use Rattle.bars.specs.Bars.{barred}
use Rattle.spans.specs.declared.Cursor.{Cursor}
use Rattle.tables.specs.declared.Row.{Row}
use Rattle.tables.specs.Tables.{Table}
use Rattle.tables.proofs.Rows.{SameRows}
use Rattle.kept.specs.Inside.{RowInside}
use Rattle.numbering.specs.declared.TokenType.{TokenType}
use Rattle.numbering.specs.declared.TokenType.TheVariants as type
use Rattle.tokens.specs.declared.Token.{Token}
use Rattle.tokens.specs.Tokens.{bytes_of}
use Rattle.sources.specs.Source.{Source, Earlier, earlier}
use Rattle.repeats.specs.Repeats.{token_of, has_row, row_here, match_at}
use Rattle.repeats.specs.Sound.{Rows}
use Rattle.steps.specs.Steps.{value_step, typed_step, step_at}
use Rattle.steps.proofs.Frame.{step_earlier}
use Rattle.names.specs.Names.{draft, name_of}
use Rattle.names.proofs.Growing.{name_same}
use Rattle.demands.specs.Stops.{Typed}
use Rattle.demands.proofs.Lemmas.Traces as traces
use Rattle.demands.proofs.Lemmas.Traces.{Value, StepWay, halts, closes, gives, step_way}

module _ (s : Source) (text others : List ℕ) (rows table : Table) (first count below : ℕ) (known : Rows below (earlier text rows first count))
    (texts : take below text ≡ take below others) (numbers : SameRows rows table (first + count)) where
  abbrev e : Earlier
  e = earlier text rows first count

  -- a token prints the same over both texts
  abbrev Same : Token → Type 0
  Same t = bytes_of s.bytes others t ≡ bytes_of s.bytes text t

  -- what a row repeats lies in that text
  row_prints_law : (r : Row) → RowInside below r → Same (token_of text r)
  unfolding token_of bytes_of pick
  row_prints_law r i =
      pick_holds Same (eqb r.kind 1) _ _
      (λ h. sym (same_part text others below texts r.start (r.start + r.length) (omega arith) i.ends))
      (λ h. pick_either Same (eqb r.kind 2) _ _ refl (pick_either Same (eqb r.kind 4) _ _ refl refl))

  module _ (p : ℕ) (low : 1 ≤ p) where
    match_prints : (t : Token) (c : Cursor) → Typed s p type.Match → p < 128 → step_at s e p ≡ Ok (Some (t, c)) → Same t
    unfolding step_at typed_step barred value_step match_at has_row row_here
    match_prints t c k l q =
        let here : step_at s e p ≡ match_at e p k.past =
        ap (typed_step s e p) k.there ∙ pick_false _ _ (both_left _ (ne_eqb p 128 (λ z. omega arith))) ∙ ap (value_step s e p k.past) k.is in
        pick_holds (λ (x : Step). x ≡ Ok (Some (t, c)) → Same t) (has_row e p) _ _
        (λ h z.
        let m : p ≤ count = leb-true _ _ h in
        let is : ◌≡◌ {A = Token × Cursor} (token_of text (row_here e p), k.past) (t, c) = cc in
        subst Same (ap (λ (x : Token × Cursor). x.0) is) (row_prints_law (row_here e p) (known.each (first + (p - 1)) (omega arith) (omega arith))))
        (λ h z. cc)
        (sym here ∙ q)

    -- every other token has its bytes in the block, or prints a number
    value_prints : (y : TokenType) (t : Token) (c : Cursor) → Typed s p y → p < 128 → Value s p y t c → step_at s e p ≡ Ok (Some (t, c)) → Same t
    unfolding bytes_of pick
    value_prints y t c k l (traces.string h) q = refl
    value_prints y t c k l (traces.char b) q = refl
    value_prints y t c k l (traces.digits n) q = refl
    value_prints y t c k l (traces.digits0 x) q = refl
    value_prints y t c k l (traces.delta n) q = refl
    value_prints y t c k l (traces.delta0 x) q = refl
    value_prints y t c k l (traces.match a b) q = match_prints t c k l q

    way_prints : (st : Step) → StepWay s e p st → step_at s e p ≡ st → (t : Token) (c : Cursor) → st ≡ Ok (Some (t, c)) → Same t
    way_prints st (halts r b) h t c q = cc
    way_prints st (closes y) h t c q = cc
    way_prints st (gives y u d k l v) h t c q = let is : ◌≡◌ {A = Token × Cursor} (u, d) (t, c) = cc in subst Same (ap (λ (x : Token × Cursor). x.0) is) (value_prints y u d k l v h)

  -- so the name is the same over both memories
  pub name_alike : (used : ℕ) (cur : List ℕ) → name_of s (earlier others table first count) used cur ≡ name_of s e used cur
  unfolding name_of
  name_alike used cur =
      name_same s s e (earlier others table first count) used 128 1 (draft [] [] 0 cur) (omega arith)
      (record {
        steps = λ q h k. sym (step_earlier text others rows table first count below q known h texts numbers s);
        types = λ q h k. refl;
        bytes = λ q h k t c z. way_prints q h (step_at s e q) (step_way s e q k) refl t c z;
      })
