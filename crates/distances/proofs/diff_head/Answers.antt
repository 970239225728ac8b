use borrow.Author.Rules.{rules}
use mathlib.Core.Path.{◌≡◌, sym, ◌∙◌}
use Rattle.std.specs.Prelude.{Some}
use Rattle.distances.specs.Distances.{diff_head}
use Rattle.distances.proofs.Distances.{diff_near, diff_far}
use Rattle.distances.proofs.diff_head.Goals as goal
use Rattle.distances.proofs.diff_head.Goals.{In_ok-v}

found : (c : goal.In_ok-v) → c.args.found ≡ Some (c.in_ok-v.v, c.in_ok-v.field-0-1)
found c = search rules

pub returns-then-diff_fits : goal.returns-then-diff_fits
returns-then-diff_fits c = diff_near _ (found (goal.at.returns-then-diff_fits c).In_ok-v) (sym c.diff_fits.ensures ∙ c.if-diff_fits.true)

pub returns-else-diff_fits : goal.returns-else-diff_fits
returns-else-diff_fits c = diff_far _ (found (goal.at.returns-else-diff_fits c).In_ok-v) (sym c.diff_fits.ensures ∙ c.if-diff_fits.false)

pub returns-in_err-v : goal.returns-in_err-v
unfolding diff_head
returns-in_err-v c = search rules
