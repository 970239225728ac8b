use Rattle.base.proofs.Choice.{took, left}
use borrow.Author.Tests.{le-leb, lt-leb}
use mathlib.Core.Path.{refl, ◌∙◌}
use native.Mathlib.Omega.{arith}
use Rattle.distances.proofs.dup_fits.Goals as goal

pub returns-then-d-ge1 : goal.returns-then-d-ge1
returns-then-d-ge1 c =
    took _ _ (le-leb 1 c.args.d.0 (omega (arith, c.if-d-ge1.true))) refl

pub returns-else-d-ge1 : goal.returns-else-d-ge1
returns-else-d-ge1 c = lt-leb _ _ c.if-d-ge1.false ∙ left _ _ (lt-leb _ _ c.if-d-ge1.false) refl
