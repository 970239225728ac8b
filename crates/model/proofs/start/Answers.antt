use Prim.Native.Nat.{ℕ}
use mathlib.Core.Path.{sym, ap, ap₂, ◌∙◌}
use mathlib.Core.List.{List}
use native.Mathlib.Omega.{arith}
use lib.ListN.{length, replicate}
use Rattle.base.specs.Every.{numbers}
use Rattle.base.proofs.Every.{numbers_length, numbers_at}
use Rattle.base.proofs.Fills.{fill_turn, fill_done}
use Rattle.model.specs.Model.{model, started}
use Rattle.model.proofs.start.Goals as goal

pub loop-at-preserved : goal.loop-at-preserved
loop-at-preserved c =
    let l = c.loop-at in
    let s = c.args.symbols.now in
    let n : List ℕ = numbers 0 (length s) in
    rw l.invariant (fill_turn s n (numbers_length (length s) 0) l.at l.at (omega arith) (sym (numbers_at (length s) 0 l.at (omega arith) ∙ omega arith)))

pub returns : goal.returns
unfolding started
returns c =
    let l = c.loop-at in
    let s = c.args.symbols.now in
    ap₂ (λ (x y : List ℕ). model x y (length s))
    (l.invariant ∙ fill_done s (numbers 0 (length s)) (numbers_length (length s) 0) l.at (omega arith))
    (c.fill.ensures.after (λ y e. e) ∙ ap (λ (n : ℕ). replicate n 1) c.requires.1)
