use native.Mathlib.Omega.{arith}
use Prim.Native.Nat.{◌-◌, ◌+◌}
use mathlib.Core.Path.{◌≡◌, sym, ◌∙◌}
use mathlib.Core.Bool.{true}
use Rattle.base.specs.Choice.{pick}
use Rattle.block.specs.Block.{start_of, end_of, cursor_of, inside, sound_from}
use Rattle.base.proofs.Choice.{both_none, and_both, both_both, never, fails}
use Rattle.base.proofs.Every.{every_turn, every_done}
use Rattle.block.proofs.Laws.{fine, all_fine, fine_sound, fine_inside, both_fine}
use Rattle.block.proofs.judge_spans.Goals as goal

pub loop-i-init : goal.loop-i-init
loop-i-init c = both_none _

pub loop-i-preserved : goal.loop-i-preserved
unfolding fine inside start_of end_of cursor_of
loop-i-preserved c =
    let l = c.loop-i in
    let a = c.args in
    every_turn (fine a.n a.dir.now a.cursors.now) l.i (1290 - l.i) l.fine _ l.invariant (1290 - (l.i + 1)) (omega arith) (simp (and_both, both_both))

pub returns-then-fine : goal.returns-then-fine
unfolding pick
returns-then-fine c =
    let a = c.args in
    let all : all_fine a.n a.dir.now a.cursors.now ≡ _ = sym (every_done _ _ _ _ _ c.loop-i.invariant (omega arith)) ∙ c.if-fine.true in
    rw (fine_sound _ _ _ all, fine_inside _ _ _ all)

pub returns-then-spans_sound : goal.returns-then-spans_sound
unfolding pick
returns-then-spans_sound c =
    let a = c.args in
    let none : all_fine a.n a.dir.now a.cursors.now ≡ _ = sym (every_done _ _ _ _ _ c.loop-i.invariant (omega arith)) ∙ c.if-fine.false in
    let sound : sound_from a.n a.dir.now 0 1290 ≡ true = rw (sym c.spans_sound.ensures) c.if-spans_sound.true in
    rw (sound, fails (λ t. never (sym none ∙ both_fine _ _ _ sound t)))

pub returns-else-spans_sound : goal.returns-else-spans_sound
unfolding pick
returns-else-spans_sound c =
    rw (sym c.spans_sound.ensures ∙ c.if-spans_sound.false)
