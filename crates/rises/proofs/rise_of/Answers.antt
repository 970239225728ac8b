use Prim.Native.Nat.{◌-◌, ◌≤◌, ◌<◌}
use mathlib.Core.Path.{refl}
use native.Mathlib.Omega.{arith}
use borrow.Author.Tests.{eq-eqb, ne_eqb, lt-ltb, le-ltb}
use Rattle.base.proofs.Choice.{took, left}
use Rattle.rises.specs.Rises.{rise_of}
use Rattle.rises.proofs.rise_of.Goals as goal

pub returns-then-new-old : goal.returns-then-new-old
unfolding rise_of
returns-then-new-old c = took _ _ (eq-eqb _ _ c.if-new-old.true) refl

pub returns-then-new-old-2 : goal.returns-then-new-old-2
unfolding rise_of
returns-then-new-old-2 c =
    let a = c.args in
    let down : a.new < a.old = omega arith in
    left _ _ (ne_eqb _ _ c.if-new-old.false) (took _ _ (lt-ltb _ _ down) refl)

pub returns-then-d-gt255 : goal.returns-then-d-gt255
unfolding rise_of
returns-then-d-gt255 c =
    let a = c.args in
    let up : a.old ≤ a.new = omega arith in
    let far : 255 < a.new - a.old = omega arith in
    left _ _ (ne_eqb _ _ c.if-new-old.false) (left _ _ (le-ltb _ _ up) (took _ _ (lt-ltb _ _ far) refl))

pub returns : goal.returns
unfolding rise_of
returns c =
    let a = c.args in
    let up : a.old ≤ a.new = omega arith in
    let near : a.new - a.old ≤ 255 = omega arith in
    left _ _ (ne_eqb _ _ c.if-new-old.false) (left _ _ (le-ltb _ _ up) (left _ _ (le-ltb _ _ near) refl))
