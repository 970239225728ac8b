use native.Mathlib.Omega.{arith}
use mathlib.Core.Path.{refl}
use Rattle.base.proofs.Choice.{took, left}
use Rattle.runs.proofs.last.Goals as goal

pub returns-then-not-known : goal.returns-then-not-known
returns-then-not-known c = left _ _ c.if-not-known.true (omega arith)

pub returns : goal.returns
returns c = took _ _ c.if-not-known.false refl
