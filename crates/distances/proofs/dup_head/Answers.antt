use borrow.Author.Rules.{rules}
use mathlib.Core.Path.{◌≡◌, sym, ◌∙◌}
use Rattle.std.specs.Prelude.{Some}
use Rattle.distances.specs.Distances.{dup_head}
use Rattle.distances.proofs.Distances.{dup_near, dup_far}
use Rattle.distances.proofs.dup_head.Goals as goal
use Rattle.distances.proofs.dup_head.Goals.{In_ok-v}

found : (c : goal.In_ok-v) → c.args.found ≡ Some (c.in_ok-v.v, c.in_ok-v.field-0-1)
found c = search rules

pub returns-then-dup_fits : goal.returns-then-dup_fits
returns-then-dup_fits c = dup_near _ (found (goal.at.returns-then-dup_fits c).In_ok-v) (sym c.dup_fits.ensures ∙ c.if-dup_fits.true)

pub returns-else-dup_fits : goal.returns-else-dup_fits
returns-else-dup_fits c = dup_far _ (found (goal.at.returns-else-dup_fits c).In_ok-v) (sym c.dup_fits.ensures ∙ c.if-dup_fits.false)

pub returns-in_err-v : goal.returns-in_err-v
unfolding dup_head
returns-in_err-v c = search rules
