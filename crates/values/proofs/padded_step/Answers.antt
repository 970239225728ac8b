use mathlib.Core.Path.{sym, ◌∙◌}
use Rattle.base.specs.Choice.{pick}
use Rattle.values.specs.Values.{padded_step}
use Rattle.values.proofs.padded_step.Goals as goal

pub returns-then-not-fits_width : goal.returns-then-not-fits_width
unfolding padded_step pick
returns-then-not-fits_width c = rw (sym c.fits_width.ensures ∙ c.if-not-fits_width.true)

pub returns : goal.returns
unfolding padded_step pick
returns c = rw (sym c.fits_width.ensures ∙ c.if-not-fits_width.false)
