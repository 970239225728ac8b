use mathlib.Core.Path.{refl, sym, ap, ◌∙◌}
use Rattle.base.proofs.Choice.{took, left}
use borrow.Author.Tests.{le-leb, lt-leb}
use Rattle.leaves.specs.Leaves.{byte_number}
use Rattle.leaves.proofs.leaf_byte.Goals as goal

pub returns-then-bytes-end : goal.returns-then-bytes-end
returns-then-bytes-end c = left _ _ (lt-leb _ _ c.if-bytes-end.true) refl

pub returns-in-Some : goal.returns-in-Some
unfolding byte_number
returns-in-Some c = took _ _ (le-leb _ _ c.if-bytes-end.false) (sym (ap byte_number c.in-Some.is) ∙ ap byte_number c.next_byte.ensures)

pub returns-in-None : goal.returns-in-None
unfolding byte_number
returns-in-None c = took _ _ (le-leb _ _ c.if-bytes-end.false) (sym (ap byte_number c.in-None.is) ∙ ap byte_number c.next_byte.ensures)
