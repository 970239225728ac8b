use Rattle.earlier.proofs.Leaning.{fits_none, fits_earlier, said_none, said_entry, back_said, back_outside}
use Rattle.std.specs.Prelude.{Ok}
use mathlib.Core.Path.{sym, ap, ◌∙◌}
use native.Mathlib.Omega.{arith}
use Rattle.earlier.proofs.leans.Goals as goal

pub returns-then-d-eq0 : goal.returns-then-d-eq0
returns-then-d-eq0 c = ap Ok (said_none _ _ _ (omega (arith, c.if-d-eq0.true))) ∙ back_said _ _ (sym (fits_none _ _ (omega (arith, c.if-d-eq0.true))))

pub earlier_fits-requires : goal.earlier_fits-requires
earlier_fits-requires c =
    (omega (arith, c.if-d-eq0.false, c.requires.names_in_bounds, c.requires.distance_le_names), c.requires.names_in_bounds.1)

pub returns-then-earlier_fits : goal.returns-then-earlier_fits
returns-then-earlier_fits c =
    let n = c.if-d-eq0.false in
    ap Ok (said_entry _ _ _ n _ c.rows_of.ensures (omega arith)) ∙ back_said _ _ (sym (fits_earlier _ _ n _ c.earlier_fits.ensures (omega arith)) ∙ c.if-earlier_fits.true)

pub returns-else-earlier_fits : goal.returns-else-earlier_fits
returns-else-earlier_fits c =
    back_outside _ _ (sym (fits_earlier _ _ c.if-d-eq0.false _ c.earlier_fits.ensures (omega arith)) ∙ c.if-earlier_fits.false)
