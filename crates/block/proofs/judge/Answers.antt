use mathlib.Core.Path.{refl, ap, ◌∙◌}
use mathlib.Core.Bool.{Bool}
use native.Mathlib.Omega.{arith}
use lib.ListN.{length}
use Rattle.base.proofs.Choice.{left}
use Rattle.block.specs.Block.{all_inside, verdict, verdict_of}
use Rattle.block.proofs.Laws.{not_directory, not_table, sound_is, sound_reach}
use Rattle.block.proofs.judge.Goals as goal

pub returns-then-dir-ne-DIRECTORY : goal.returns-then-dir-ne-DIRECTORY
unfolding verdict_of
returns-then-dir-ne-DIRECTORY c = left _ _ (not_directory _ _ _ c.if-dir-ne-DIRECTORY.true) refl

pub returns-then-cursors-ne-SPANS : goal.returns-then-cursors-ne-SPANS
unfolding verdict_of
returns-then-cursors-ne-SPANS c = left _ _ (not_table _ _ _ c.if-dir-ne-DIRECTORY.false c.if-cursors-ne-SPANS.true) refl

pub returns : goal.returns
unfolding verdict_of
returns c =
    let a = c.args in
    c.judge_spans.ensures
    ∙ ap (λ (b : Bool). verdict b (all_inside a.dir.now a.cursors.now))
    (sound_reach _ (length a.bytes.now) a.dir.now (λ i. omega (arith, c.type_inv.dir i)) c.reach.ensures
    ∙ sound_is _ _ _ c.if-dir-ne-DIRECTORY.false c.if-cursors-ne-SPANS.false)
