use borrow.Author.Rules.{rules}
use mathlib.Core.Path.{◌≡◌, sym, ◌∙◌}
use Rattle.std.specs.Prelude.{Some}
use Rattle.sources.specs.Source.{source, earlier}
use Rattle.numbering.specs.Types.{rules_of}
use Rattle.tables.specs.Tables.{in_rows}
use Rattle.steps.specs.Steps.{typed_step}
use Rattle.steps.proofs.Ways.{typed_last, typed_value}
use Rattle.steps.proofs.typed_step.Goals as goal
use Rattle.steps.proofs.typed_step.Goals.{In_ok-b}

found : (c : goal.In_ok-b) → c.args.found ≡ Some (c.in_ok-b.b, c.in_ok-b.c)
found c = search rules

pub returns-then-is_last : goal.returns-then-is_last
returns-then-is_last c =
    let a = c.args in
    let s = source (rules_of a.set) a.bytes.now a.dir.now a.cursors.now in
    let e = earlier a.text.now (in_rows a.rows.now) a.first a.count in
    let f = found (goal.at.returns-then-is_last c).In_ok-b in
    rw f
    (typed_last s e a.p.0 _ _ c.type_of.ensures (sym c.is_last.ensures ∙ c.if-is_last.true) (c.last_step.ensures s e a.p.0 _))

pub returns-else-is_last : goal.returns-else-is_last
returns-else-is_last c =
    let a = c.args in
    let s = source (rules_of a.set) a.bytes.now a.dir.now a.cursors.now in
    let e = earlier a.text.now (in_rows a.rows.now) a.first a.count in
    let f = found (goal.at.returns-else-is_last c).In_ok-b in
    rw f
    (typed_value s e a.p.0 _ _ c.type_of-t.ensures (sym c.is_last.ensures ∙ c.if-is_last.false) (c.value_step.ensures (rules_of a.set)))

pub returns-in_err-b : goal.returns-in_err-b
unfolding typed_step
returns-in_err-b c = search rules
