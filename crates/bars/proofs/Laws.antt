-- What is not barred: any type before the last position, and END and what isn't in the table anywhere.
use Prim.Native.Nat.{ℕ, ◌<◌}
use mathlib.Core.Path.{◌≡◌, refl}
use mathlib.Core.Bool.{Bool, false}
use native.Mathlib.Omega.{arith}
use borrow.Author.Tests.{ne_eqb}
use Rattle.base.proofs.Choice.{pick_either, both_left}
use Rattle.numbering.specs.declared.TokenType.{TokenType}
use Rattle.numbering.specs.declared.TokenType.TheVariants as type
use Rattle.bars.specs.Bars.{carries, barred}

pub unbarred_before : (p : ℕ) (t : TokenType) → p < 128 → barred p t ≡ false
unfolding barred
unbarred_before p t h = both_left _ (ne_eqb p 128 (λ (w : p ≡ 128). omega arith))

pub unbarred_end : (p : ℕ) → barred p type.End ≡ false
unfolding barred carries
unbarred_end p = pick_either (λ (x : Bool). x ≡ false) _ _ _ refl refl

-- 3 is judged before 7; by a tactic, so that 7 before 3 is refused at this law
pub unbarred_other : (p : ℕ) → barred p type.Other ≡ false
unfolding barred carries
unbarred_other p = pick_either (λ (x : Bool). x ≡ false) _ _ _ (search) refl
