use mathlib.Core.Path.{ap, ◌∙◌}
use mir.Val.{bool_byte}
use Rattle.leaves.proofs.Laws.{bit}
use Rattle.leaves.proofs.leaf_fits.Goals as goal

pub returns : goal.returns
returns c = ap bool_byte c.fits_width.ensures ∙ bit _
