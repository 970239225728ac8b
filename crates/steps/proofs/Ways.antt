-- The ways that a step can go, each in a contract's direction.
use Prim.Native.Nat.{ℕ}
use Rattle.values.specs.Values.{Step}
use Rattle.std.specs.Prelude.{Some, Err}
use Rattle.refusals.specs.declared.Reason.TheVariants as reason
use mathlib.Core.Path.{◌≡◌, refl, sym, ap, ◌∙◌}
use mathlib.Core.Bool.{Bool, true, false}
use Rattle.base.specs.Choice.{pick, both}
use Rattle.base.proofs.Choice.{took, left, both_left}
use Rattle.spans.specs.declared.Cursor.{Cursor}
use Rattle.numbering.specs.declared.TokenType.{TokenType}
use Rattle.numbering.specs.Types.{type_of}
use Rattle.sources.specs.Source.{Source, Earlier}
use Rattle.steps.specs.Steps.{value_step, typed_step}
use Rattle.bars.specs.Bars.{carries, is_last, barred}

module _ (s : Source) (e : Earlier) (p b : ℕ) (c : Cursor) {t : TokenType} (q : t ≡ type_of s.rules.numbers b) where
  pub typed_barred : barred p t ≡ true → Err reason.NotEnd ≡ typed_step s e p (Some (b, c))
  unfolding typed_step
  typed_barred h = rw (← q) (took _ _ h refl)

  -- at the last position, and before it
  pub typed_last : {x : Step} → is_last p ≡ true → x ≡ pick (carries t) (Err reason.NotEnd) (value_step s e p c t) → x ≡ typed_step s e p (Some (b, c))
  unfolding typed_step barred pick
  typed_last h x = rw (← q) (x ∙ ap (λ (y : Bool). pick (both y (carries t)) (Err reason.NotEnd) (value_step s e p c t)) (sym h))

  pub typed_value : {x : Step} → is_last p ≡ false → x ≡ value_step s e p c t → x ≡ typed_step s e p (Some (b, c))
  unfolding typed_step barred
  typed_value h x = rw (← q) (left _ _ (both_left _ h) x)
