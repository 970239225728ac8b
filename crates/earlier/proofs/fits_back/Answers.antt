use mathlib.Core.Path.{sym, ◌∙◌}
use Rattle.earlier.proofs.fits_back.Goals as goal

pub returns-then-known : goal.returns-then-known
returns-then-known c = c.if-known.true ∙ sym (c.requires.back_value c.if-known.true)
