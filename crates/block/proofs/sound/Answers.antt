use mathlib.Core.Path.{sym, ◌∙◌}
use native.Mathlib.Omega.{arith}
use lib.ListN.{length}
use Rattle.block.proofs.Laws.{not_directory, not_table, sound_is, sound_reach}
use Rattle.block.proofs.sound.Goals as goal

pub returns-then-dir-ne-DIRECTORY : goal.returns-then-dir-ne-DIRECTORY
returns-then-dir-ne-DIRECTORY c = sym (not_directory _ _ _ c.if-dir-ne-DIRECTORY.true)

pub returns-then-cursors-ne-SPANS : goal.returns-then-cursors-ne-SPANS
returns-then-cursors-ne-SPANS c = sym (not_table _ _ _ c.if-dir-ne-DIRECTORY.false c.if-cursors-ne-SPANS.true)

pub returns : goal.returns
returns c =
    let a = c.args in
    c.spans_sound.ensures
    ∙ sound_reach _ (length a.bytes.now) a.dir.now (λ i. omega (arith, c.type_inv.dir i)) c.reach.ensures
    ∙ sound_is _ _ _ c.if-dir-ne-DIRECTORY.false c.if-cursors-ne-SPANS.false
