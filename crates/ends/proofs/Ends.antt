-- What END answers, in a contract's direction.
use Prim.Native.Nat.{ℕ}
use Rattle.std.specs.Prelude.{Ok, Err}
use Rattle.refusals.specs.declared.Reason.TheVariants as reason
use mathlib.Core.Path.{◌≡◌, refl}
use mathlib.Core.Bool.{Bool, true, false}
use lib.Dec.{eqb}
use Rattle.base.proofs.Choice.{took, left}
use Rattle.ends.specs.Ends.{ended_of}

pub kept_ends : {keeping : Bool} (n len : ℕ) → keeping ≡ true → Ok (record { rows = n; length = len }) ≡ ended_of keeping n len
unfolding ended_of
kept_ends n len k = took _ _ k refl

pub empty_ends : {keeping : Bool} (n len : ℕ) → keeping ≡ false → eqb len 0 ≡ true → Err reason.BadName ≡ ended_of keeping n len
unfolding ended_of
empty_ends n len k z = left _ _ k (took _ _ z refl)

pub judged_ends : {keeping : Bool} (n len : ℕ) → keeping ≡ false → eqb len 0 ≡ false → Ok (record { rows = n; length = len }) ≡ ended_of keeping n len
unfolding ended_of
judged_ends n len k z = left _ _ k (left _ _ z refl)
