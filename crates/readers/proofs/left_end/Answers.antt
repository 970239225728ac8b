use borrow.Author.Tests.{le-leb, lt-leb}
use mathlib.Core.Path.{refl}
use Rattle.base.proofs.Choice.{took, left}
use Rattle.readers.specs.Readers.{left_end}
use Rattle.readers.proofs.left_end.Goals as goal

pub returns-then-left-le4294967295 : goal.returns-then-left-le4294967295
unfolding left_end
returns-then-left-le4294967295 c = took _ _ (le-leb _ _ c.if-left-le4294967295.true) refl

pub returns : goal.returns
unfolding left_end
returns c = left _ _ (lt-leb _ _ c.if-left-le4294967295.false) refl
