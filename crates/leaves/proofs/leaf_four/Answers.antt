use mathlib.Core.Path.{refl, sym, ap, ◌∙◌}
use Rattle.base.proofs.Choice.{took, left}
use borrow.Author.Tests.{le-leb, lt-leb}
use Rattle.leaves.specs.Leaves.{four_left}
use Rattle.leaves.proofs.leaf_four.Goals as goal

pub returns-then-bytes-end : goal.returns-then-bytes-end
returns-then-bytes-end c = left _ _ (lt-leb _ _ c.if-bytes-end.true) refl

pub returns-in-Some : goal.returns-in-Some
unfolding four_left
returns-in-Some c = took _ _ (le-leb _ _ c.if-bytes-end.false) (sym (ap (four_left _) c.in-Some.is) ∙ ap (four_left _) c.next_four.ensures)

pub returns-in-None : goal.returns-in-None
unfolding four_left
returns-in-None c = took _ _ (le-leb _ _ c.if-bytes-end.false) (sym (ap (four_left _) c.in-None.is) ∙ ap (four_left _) c.next_four.ensures)
