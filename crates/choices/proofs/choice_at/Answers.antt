use mathlib.Core.Path.{ap}
use borrow.Author.Tests.{lt-ltb, le-ltb}
use Rattle.base.proofs.Choice.{took, left}
use Rattle.choices.specs.declared.Choice.TheVariants.{Itself}
use Rattle.choices.specs.Choices.{choice_at}
use Rattle.pieces.proofs.Pieces.{piece_within}
use Rattle.choices.proofs.choice_at.Goals as goal

pub returns-then-before-b : goal.returns-then-before-b
unfolding choice_at
returns-then-before-b c = left _ _ (le-ltb _ _ c.if-before-b.true) (ap Itself c.piece_at-t.ensures)

pub lean-requires : goal.lean-requires
lean-requires c =
    let a = c.args in record {
      within = rw c.piece_at-t.ensures (piece_within a.name.now a.p.0 a.a c.requires.a_in_bounds.0);
      within_2 = rw c.piece_at-u.ensures (piece_within a.before.now a.p.0 a.b c.if-before-b.false);
    }

pub returns : goal.returns
unfolding choice_at
returns c =
    took _ _ (lt-ltb _ _ c.if-before-b.false) (rw (← c.piece_at-t.ensures, ← c.piece_at-u.ensures) c.lean.ensures)
