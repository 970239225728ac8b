use mathlib.Core.Path.{ap, ◌∙◌}
use mathlib.Core.List.{List}
use Prim.Native.Nat.{ℕ}
use Rattle.block.specs.Block.{span_of}
use Rattle.block.specs.Streams.{dzlen_stream}
use Rattle.moving.specs.Moves.{past}
use Rattle.moving.proofs.Moves.{padded_fits}
use borrow.Author.Rules.{rules}
use native.Mathlib.Omega.{arith}
use Rattle.moving.proofs.move_padded.Goals as goal

pub move_on-requires : goal.move_on-requires
move_on-requires c =
    let f = padded_fits _ _ _ _ c.move_to.ensures c.requires.dzlen_stream_bound in record {
      cursors_len = (search rules, search rules);
      n_bound = omega arith;
    }

pub returns : goal.returns
returns c =
    c.move_on.ensures ∙ ap (λ (x : List ℕ). past x (span_of c.args.p.0 dzlen_stream) 1) c.move_to.ensures
