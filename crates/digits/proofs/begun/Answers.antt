use borrow.Author.Rules.{rules}
use native.Mathlib.Omega.{arith}
use Rattle.digits.proofs.begun.Goals as goal

pub returns-then-w-eq10 : goal.returns-then-w-eq10
returns-then-w-eq10 c = let f = c.fraction.ensures in record { parts = f.0; digits = λ l. f.1; zeros = λ l. absurd (omega arith) }

pub returns-else-w-eq10 : goal.returns-else-w-eq10
returns-else-w-eq10 c = c.requires (search rules)
