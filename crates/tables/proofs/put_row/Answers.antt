use Rattle.tables.proofs.Rows.{row_reach, row_put}
use borrow.Author.Rules.{rules}
use Rattle.tables.proofs.put_row.Goals as goal

pub overflow_mul-i : goal.overflow_mul-i
overflow_mul-i c = let h = row_reach c.args.rows.now c.args.i c.requires in search rules

pub put_five-requires : goal.put_five-requires
put_five-requires c = let h = row_reach c.args.rows.now c.args.i c.requires in search rules

pub returns : goal.returns
returns c = row_put _ _ _ c.put_five.ensures
