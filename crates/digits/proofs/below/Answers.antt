use borrow.Author.Rules.{rules}
use mathlib.Core.Path.{sym}
use native.Mathlib.Nat.{mod-eq_of_lt}
use Rattle.digits.proofs.below.Goals as goal

pub returns-then-n-t : goal.returns-then-n-t
returns-then-n-t c = sym (mod-eq_of_lt (search rules))
