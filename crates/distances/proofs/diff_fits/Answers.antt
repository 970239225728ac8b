use mathlib.Core.Path.{refl}
use Rattle.distances.proofs.diff_fits.Goals as goal

-- by `rw`, so that where it fails it says which comparison isn't which
pub returns : goal.returns
returns c = rw (refl {a = c.args.n})
