use mathlib.Core.Path.{ap}
use Prim.Native.Nat.{ℕ, ◌+◌, ◌*◌}
use Rattle.block.specs.Block.{span_of}
use Rattle.block.proofs.span_of.Goals as goal

pub returns : goal.returns
unfolding span_of
returns c = ap (λ (s : ℕ). 10 * c.args.p.0 + s) c.number.ensures
