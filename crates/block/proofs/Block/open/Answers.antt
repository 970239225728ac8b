use native.Mathlib.Omega.{arith}
use mathlib.Core.Path.{sym, ap, ◌∙◌}
use Rattle.block.specs.Block.{opening}
use Rattle.block.proofs.Laws.{sound_directory, sound_table, opens_unsound, opens_many, opens_fresh}
use Rattle.block.proofs.Block.open.Goals as goal

pub returns-then-not-sound : goal.returns-then-not-sound
returns-then-not-sound c = opens_unsound _ _ _ _ (sym c.sound.ensures ∙ c.if-not-sound.true)

pub returns-then-count-gt-NAMES : goal.returns-then-count-gt-NAMES
returns-then-count-gt-NAMES c =
    opens_many _ _ _ _ (sym c.sound.ensures ∙ c.if-not-sound.false) (omega arith)

pub set_starts-requires : goal.set_starts-requires
set_starts-requires c =
    let t = sym c.sound.ensures ∙ c.if-not-sound.false in
    (sound_directory _ _ _ t, sound_table _ _ _ t)

pub returns : goal.returns
returns c =
    ap (opening _) c.set_starts.ensures
    ∙ opens_fresh _ _ _ _ (sym c.sound.ensures ∙ c.if-not-sound.false) (omega arith)
