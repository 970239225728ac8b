use mathlib.Core.Path.{ap, ◌∙◌}
use mathlib.Core.List.{List}
use Prim.Native.Nat.{ℕ}
use Rattle.moving.specs.Moves.{value_past}
use Rattle.moving.proofs.Moves.{typed_movable}
use borrow.Author.Rules.{rules}
use Rattle.moving.proofs.advance.Goals as goal

pub move_value-requires : goal.move_value-requires
move_value-requires c = record {
  cursors_len = (search rules, search rules);
  movable = typed_movable _ _ _ _ c.move_on.ensures c.requires.movable;
}

pub returns : goal.returns
returns c =
    c.move_value.ensures ∙ ap (λ (x : List ℕ). value_past c.args.t c.args.p.0 c.args.c.0 x) c.move_on.ensures
