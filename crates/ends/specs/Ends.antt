-- What END makes of a name.
use Rattle.std.specs.Prelude.{ℕ, Bool, eqb, Ok, Err}
use Rattle.names.specs.Names.{Judged}
use Rattle.refusals.specs.declared.Reason.TheVariants as reason
use Rattle.base.specs.Choice.{pick}

-- what END makes of a name of so many rows and bytes
unfoldable pub ended_of : Bool → ℕ → ℕ → Judged
ended_of keeping n len = pick keeping (Ok (record { rows = n; length = len })) (pick (eqb len 0) (Err reason.BadName) (Ok (record { rows = n; length = len })))
