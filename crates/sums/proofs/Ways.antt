-- The ways that a sum can go, each in a contract's direction.
use Prim.Native.Nat.{ℕ, ◌+◌, ◌^◌, ◌≤◌, ◌<◌}
use Rattle.std.specs.Prelude.{Some, Ok, Err}
use Rattle.refusals.specs.declared.Reason.TheVariants as reason
use mathlib.Core.Path.{◌≡◌, refl}
use borrow.Author.Tests.{le-ltb, lt-ltb}
use Rattle.base.proofs.Choice.{took, left}
use Rattle.spans.specs.declared.Cursor.{Cursor}
use Rattle.tokens.specs.declared.Token.TheVariants.{Digits}
use Rattle.sums.specs.Sums.{delta_step, delta0_step}

module _ (n d : ℕ) (c : Cursor) where
  pub sum_fits : n + d < 2 ^ 32 → Ok (Some (Digits (n + d), c)) ≡ delta_step n (Some (d, c))
  unfolding delta_step
  sum_fits h = took _ _ (lt-ltb _ _ h) refl

  pub sum_long : 2 ^ 32 ≤ n + d → Err reason.BadNumber ≡ delta_step n (Some (d, c))
  unfolding delta_step
  sum_long h = left _ _ (le-ltb _ _ h) refl

  pub sum0_long : (w : ℕ) → 2 ^ 32 ≤ n + d → Err reason.BadNumber ≡ delta0_step n w (Some (d, c))
  unfolding delta0_step
  sum0_long w h = left _ _ (le-ltb _ _ h) refl
