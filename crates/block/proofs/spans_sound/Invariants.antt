use Prim.Native.Nat.{◌-◌}
use mathlib.Core.Path.{◌≡◌}
use Rattle.base.specs.Choice.{both}
use Rattle.block.specs.Block.{sound_from}
use Rattle.block.proofs.spans_sound.Given as goal

abbrev pub invariant-loop-i : goal.invariant-loop-i
invariant-loop-i l = both l.ok (sound_from l.n l.dir l.i (1290 - l.i)) ≡ sound_from l.n l.dir 0 1290
