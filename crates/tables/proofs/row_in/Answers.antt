use mathlib.Core.Path.{refl}
use Rattle.tables.specs.Tables.{row_at}
use Rattle.tables.proofs.Rows.{row_reach}
use borrow.Author.Rules.{rules}
use Rattle.tables.proofs.row_in.Goals as goal

pub overflow_mul-at : goal.overflow_mul-at
overflow_mul-at c = let h = row_reach c.args.rows.now c.args.i c.requires in search rules

pub offset_bounds-rows-at : goal.offset_bounds-rows-at
offset_bounds-rows-at c = let h = row_reach c.args.rows.now c.args.i c.requires in search rules

pub bounds-rows-at : goal.bounds-rows-at
bounds-rows-at c = let h = row_reach c.args.rows.now c.args.i c.requires in search rules

pub overflow_add-result : goal.overflow_add-result
overflow_add-result c = let h = row_reach c.args.rows.now c.args.i c.requires in search rules

pub offset_bounds-rows-at-2 : goal.offset_bounds-rows-at-2
offset_bounds-rows-at-2 c = let h = row_reach c.args.rows.now c.args.i c.requires in search rules

pub bounds-rows-at-2 : goal.bounds-rows-at-2
bounds-rows-at-2 c = let h = row_reach c.args.rows.now c.args.i c.requires in search rules

pub overflow_add-result-2 : goal.overflow_add-result-2
overflow_add-result-2 c = let h = row_reach c.args.rows.now c.args.i c.requires in search rules

pub offset_bounds-rows-at-3 : goal.offset_bounds-rows-at-3
offset_bounds-rows-at-3 c = let h = row_reach c.args.rows.now c.args.i c.requires in search rules

pub bounds-rows-at-3 : goal.bounds-rows-at-3
bounds-rows-at-3 c = let h = row_reach c.args.rows.now c.args.i c.requires in search rules

pub overflow_add-result-3 : goal.overflow_add-result-3
overflow_add-result-3 c = let h = row_reach c.args.rows.now c.args.i c.requires in search rules

pub offset_bounds-rows-at-4 : goal.offset_bounds-rows-at-4
offset_bounds-rows-at-4 c = let h = row_reach c.args.rows.now c.args.i c.requires in search rules

pub bounds-rows-at-4 : goal.bounds-rows-at-4
bounds-rows-at-4 c = let h = row_reach c.args.rows.now c.args.i c.requires in search rules

pub overflow_add-result-4 : goal.overflow_add-result-4
overflow_add-result-4 c = let h = row_reach c.args.rows.now c.args.i c.requires in search rules

pub offset_bounds-rows-at-5 : goal.offset_bounds-rows-at-5
offset_bounds-rows-at-5 c = let h = row_reach c.args.rows.now c.args.i c.requires in search rules

pub bounds-rows-at-5 : goal.bounds-rows-at-5
bounds-rows-at-5 c = let h = row_reach c.args.rows.now c.args.i c.requires in search rules

pub returns : goal.returns
unfolding row_at
returns c = refl
