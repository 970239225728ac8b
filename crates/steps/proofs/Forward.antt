-- From the bytes to the step: what a position's spans hold, and the step that they give.
use Prim.Native.Nat.{ℕ, ◌+◌, ◌-◌, ◌≤◌, ◌<◌}
use Rattle.std.specs.Prelude.{Some, Ok}
use mathlib.Core.Path.{◌≡◌, refl, sym, ◌∙◌}
use mathlib.Core.Bool.{false}
use Rattle.base.proofs.Choice.{pick_false}
use Rattle.spans.specs.declared.Cursor.{Cursor}
use Rattle.numbering.specs.declared.TokenType.{TokenType}
use Rattle.numbering.specs.declared.TokenType.TheVariants as type
use Rattle.numbering.specs.Types.{type_of}
use Rattle.tables.specs.Tables.{row_at}
use Rattle.sources.specs.Source.{Source, Earlier, byte_in}
use Rattle.repeats.specs.Repeats.{token_of}
use Rattle.bars.specs.Bars.{barred}
use Rattle.steps.specs.Steps.{value_step, typed_step, step_at}
use Rattle.repeats.proofs.Ways.{match_is}
use Rattle.bars.proofs.Laws.{unbarred_before}

module _ (s : Source) (e : Earlier) (p : ℕ) {b : ℕ} {k : Cursor} (q : byte_in s p 0 ≡ Some (b, k)) where
  pub step_typed : (t : TokenType) → type_of s.rules.numbers b ≡ t → barred p t ≡ false → step_at s e p ≡ value_step s e p k t
  unfolding step_at typed_step
  step_typed t y h = rw (q, y) (pick_false _ _ h)

  -- the row that MATCH leans on
  pub step_match : p < 128 → p ≤ e.count → type_of s.rules.numbers b ≡ type.Match → step_at s e p ≡ Ok (Some (token_of e.text (row_at e.rows (e.first + (p - 1))), k))
  unfolding value_step
  step_match l there y = step_typed type.Match y (unbarred_before p type.Match l) ∙ sym (match_is e p k there refl refl)
