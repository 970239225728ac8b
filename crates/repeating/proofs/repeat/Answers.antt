use native.Mathlib.Omega.{arith}
use Prim.Native.Nat.{◌+◌, ◌-◌, ◌≤◌}
use Rattle.tables.specs.Tables.{in_rows}
use Rattle.repeating.proofs.Repeating.{repeat_ends, repeat_fits, repeat_put_law}
use Rattle.repeating.proofs.repeat.Goals as goal

-- the run's text ends below the place that it is copied to
pub copy_within-requires : goal.copy_within-requires
copy_within-requires c =
    let a = c.args in let r = c.requires in
    let e : c.row_in-lead.result.start + a.w ≤ a.at =
    rw c.row_in-lead.ensures (repeat_ends a.text.now (in_rows a.rows.now) a.first a.p.0 a.q.0 a.w a.at r.rows r.rows_spelt (omega (arith, r.cursors_len)) (omega (arith, r.cursors_len)) r.w_value) in
    (omega arith, (e, omega (arith, r.w_in_bounds.0)))

pub copy_rows-requires-clause-by_index_2 : goal.copy_rows-requires-clause-by_index_2
copy_rows-requires-clause-by_index_2 c =
    let a = c.args in let r = c.requires in let z = r.cursors_len.1 in
    repeat_fits a.text.now (in_rows a.rows.now) a.first a.p.0 a.q.0 a.w a.at r.rows r.rows_spelt (omega arith) (omega arith) r.w_value r.w_in_bounds.1

pub returns : goal.returns
returns c =
    let a = c.args in let z = c.requires.cursors_len.1 in
    repeat_put_law a.text.now (in_rows a.rows.now) a.cursors.now (a.first + (a.p.0 - 1)) (a.first + (a.q.0 - 1) - (a.first + (a.p.0 - 1))) (a.q.0 - a.p.0) a.w a.at (a.row + (a.p.0 - 1)) a.p.0 a.q.0
    (omega arith) c.row_in-lead.ensures c.copy_within.ensures c.copy_rows.ensures c.move_types.ensures
