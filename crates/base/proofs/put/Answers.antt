use Rattle.base.proofs.Memory.{one_written}
use borrow.Author.Rules.{rules}
use Rattle.base.proofs.put.Goals as goal

pub returns : goal.returns
returns g c = rw (one_written c.args.buf.now c.args.at c.args.x (search rules))
