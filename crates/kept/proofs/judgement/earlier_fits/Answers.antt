use native.Mathlib.Omega.{arith}
use mathlib.Core.Path.{sym, ◌∙◌}
use Rattle.base.proofs.Choice.{and_true}
use Rattle.kept.proofs.Laws.{rows_inside}
use Rattle.kept.proofs.Steps.{earlier_taken, earlier_left}
use Rattle.kept.proofs.judgement.earlier_fits.Goals as goal

pub rows_fit-requires : goal.rows_fit-requires
rows_fit-requires c =
    let a = c.args in
    let e = c.entry_at-e.result in
    let t = and_true c.entry_text.result c.entry_rows.result c.if-entry_text-entry_rows.true in
    let r = rows_inside a.s e (sym c.entry_rows.ensures ∙ t.1) in
    let g = c.well_formed.0 in
    omega arith

pub returns-then-entry_text-entry_rows : goal.returns-then-entry_text-entry_rows
returns-then-entry_text-entry_rows c =
    earlier_taken _ _ c.entry_at-e.ensures c.entry_text.ensures c.entry_rows.ensures c.if-entry_text-entry_rows.true c.rows_fit.ensures

pub returns-else-entry_text-entry_rows : goal.returns-else-entry_text-entry_rows
returns-else-entry_text-entry_rows c =
    earlier_left _ _ c.entry_at-e.ensures c.entry_text.ensures c.entry_rows.ensures c.if-entry_text-entry_rows.false
