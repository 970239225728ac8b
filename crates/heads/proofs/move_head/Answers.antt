use Rattle.block.proofs.Laws.{stream_below}
use Rattle.heads.proofs.Heads.{head_kept, head_moved}
use native.Mathlib.Omega.{arith}
use borrow.Author.Rules.{rules}
use Rattle.heads.proofs.move_head.Goals as goal

-- the cursors stand behind this name's bytes
pub returns : goal.returns
returns c =
    head_moved _ _ c.move_on.ensures c.move_on-2.ensures (omega arith) (omega arith)

pub move_on-requires-2 : goal.move_on-requires-2
move_on-requires-2 c =
    let p = c.requires in
    let k = head_kept _ _ _ _ c.move_on.ensures p.cursors_len.1 (stream_below c.args.stream) in record {
      cursors_len = (search rules, search rules);
      n_bound = omega (arith, k, p.passable.four);
    }
