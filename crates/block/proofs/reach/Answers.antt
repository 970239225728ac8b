use native.Mathlib.Omega.{arith}
use mathlib.Core.Path.{sym, ◌∙◌}
use lib.ListN.{length}
use borrow.Author.Tests.{le-leb}
use Rattle.block.proofs.reach.Goals as goal

pub returns-else-n-lt4294967295 : goal.returns-else-n-lt4294967295
returns-else-n-lt4294967295 c =
    let n = length c.args.bytes.now in
    λ end h. le-leb end 4294967295 (omega arith) ∙ sym (le-leb end n (omega (arith, c.if-n-lt4294967295.false)))
