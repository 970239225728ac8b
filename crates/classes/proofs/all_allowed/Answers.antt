use mathlib.Core.Bool.{true, false}
use mathlib.Core.Path.{◌≡◌, sym, ap, ◌∙◌}
use native.Mathlib.Omega.{arith}
use borrow.Author.Rules.{rules}
use lib.ListN.{length, get_or}
use Rattle.base.proofs.Lists.{part_all}
use Rattle.classes.specs.Classes.{is_allowed, all_allowed}
use Rattle.classes.proofs.Laws.{barred_here, allowed_here, allowed_none}
use Rattle.classes.proofs.all_allowed.Goals as goal

pub loop-b-init : goal.loop-b-init
loop-b-init c = ap all_allowed (part_all c.args.bytes.now)

pub returns-then-not-is_allowed : goal.returns-then-not-is_allowed
returns-then-not-is_allowed c =
    let i = c.loop-b.b-index in
    let s = c.args.bytes.now in
    let e : is_allowed (get_or s i 0) ≡ false = search rules in
    sym (barred_here s i (length s) (omega arith) (omega arith) e) ∙ c.loop-b.invariant

pub loop-b-preserved : goal.loop-b-preserved
loop-b-preserved c =
    let i = c.loop-b.b-index in
    let s = c.args.bytes.now in
    let e : is_allowed (get_or s i 0) ≡ true = search rules in
    sym (allowed_here s i (length s) (omega arith) (omega arith) e) ∙ c.loop-b.invariant

pub returns : goal.returns
returns c =
    let s = c.args.bytes.now in
    sym (allowed_none s c.loop-b.b-index (length s) (omega arith)) ∙ c.loop-b.invariant
