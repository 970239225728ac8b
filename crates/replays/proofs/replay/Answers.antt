use Prim.Native.Nat.{ℕ, ◌≤◌}
use mathlib.Core.Path.{◌≡◌, sym, ap, subst, ◌∙◌}
use native.Mathlib.Omega.{arith}
use mathlib.Core.List.{List}
use lib.ListN.{length, take}
use lib.Seq.{length-take-le}
use Rattle.model.specs.declared.Model.{Model}
use Rattle.model.specs.Model.{model, started}
use Rattle.model.specs.Sound.{Sound}
use Rattle.replays.specs.Replays.{replay_from}
use Rattle.replays.proofs.Always.{sound_started, by_length}
use Rattle.replays.proofs.Laws.{none_sized, over_sized, fresh_is, replay_left}
use Rattle.replays.proofs.replay.Goals as goal
use Rattle.replays.proofs.replay.Goals.{then-size-eq0-via-then-size-eq0, then-size-eq0-via-else-size-eq0+then-size-gt-PLACES}

pub returns-then-size-eq0 : goal.returns-then-size-eq0
returns-then-size-eq0 c =
    let a = c.args in
    elim c.then-size-eq0.branch [
      | then-size-eq0-via-then-size-eq0 w ↦ none_sized a.size a.trace.now (model a.symbols.now a.frequencies.now a.total.now) (omega arith)
      | then-size-eq0-via-else-size-eq0+then-size-gt-PLACES w ↦ over_sized a.size a.trace.now (model a.symbols.now a.frequencies.now a.total.now) (omega arith) (omega arith)
    ]

-- as many places as are lent are started
fresh : (n : ℕ) (l s f : List ℕ) → n ≤ length l → model s f (length (take n l)) ≡ started (length (take n l)) → model s f n ≡ started n
fresh n l s f h e = subst (λ (k : ℕ). model s f k ≡ started k) (length-take-le n l h) e

pub follow-answer-requires : goal.follow-answer-requires
follow-answer-requires c = by_length c.args.size _ (subst (Sound c.args.size) (sym (fresh c.args.size c.args.symbols.now _ _ (omega arith) c.start.ensures)) (sound_started c.args.size (omega arith)))

pub returns : goal.returns
returns c =
    let a = c.args in
    let f = c.follow-answer in
    replay_left a.size a.trace.now (model a.symbols.now a.frequencies.now a.total.now) f.result f.new.symbols f.new.frequencies f.new.total (omega arith) (omega arith)
    (f.ensures ∙ ap (λ (m : Model). replay_from m a.trace.now) (fresh a.size a.symbols.now _ _ (omega arith) c.start.ensures) ∙ sym (fresh_is a.size a.trace.now))
    (omega (arith, f.auto.symbols, c.start.auto.symbols, length-take-le a.size a.symbols.now (omega arith)))
    (omega (arith, f.auto.frequencies, c.start.auto.frequencies, length-take-le a.size a.frequencies.now (omega arith)))
