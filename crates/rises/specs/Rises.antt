-- The writing rule, deltas: how far a number is above the earlier row's.
use Rattle.std.specs.Prelude.{ℕ, ◌-◌, ltb, eqb}
use Rattle.base.specs.Choice.{pick}
use Rattle.rises.specs.declared.Rise.{Rise}
use Rattle.rises.specs.declared.Rise.TheVariants as rise

-- equal, 1 to 255 above, or neither
unfoldable pub rise_of : ℕ → ℕ → Rise
rise_of old new =
    pick (eqb new old) rise.Same
    (pick (ltb new old) rise.Other
    (pick (ltb 255 (new - old)) rise.Other
    (rise.Up (new - old))))
