use borrow.Author.Rules.{rules}
use native.Mathlib.Omega.{arith}
use Prim.Native.Nat.{ℕ, ◌+◌, ◌-◌}
use mathlib.Core.Path.{◌≡◌, refl}
use Rattle.digits.proofs.Fractions.{begins_more, begins_rest}
use Rattle.digits.proofs.Steps.{digit_first, digits_done}
use Rattle.digits.proofs.put_wide.Goals as goal

pub loop-place-init : goal.loop-place-init
loop-place-init c =
    let a = c.args in
    let z : a.at + a.w - a.at ≡ a.w = omega arith in
    record {
      begins = λ _. record { parts = omega arith; digits = λ l. absurd (omega arith); zeros = λ l. refl };
      others = rw z refl;
    }

pub begun-f-requires : goal.begun-f-requires
begun-f-requires c = c.loop-place.invariant.begins

pub lead-d-requires : goal.lead-d-requires
lead-d-requires c = c.begun-f.ensures.parts

pub loop-place-preserved : goal.loop-place-preserved
loop-place-preserved c =
    let l = c.loop-place in
    let a = c.args in
    let f = c.begun-f in
    let d = c.lead-d.ensures in
    let end : ℕ = a.at + a.w in
    record {
      begins = begins_rest a.n f.result (end - l.place) (end - (l.place + 1)) (omega arith) (search rules) f.ensures (omega (arith, d.1));
      others = digit_first _ _ l.place l.buf _ (search rules) (begins_more a.n f.result (end - l.place) (end - (l.place + 1)) (omega arith) (search rules) f.ensures) (omega (arith, d.0)) l.invariant.others;
    }

pub returns : goal.returns
returns c = let l = c.loop-place in digits_done _ _ l.place l.buf _ (omega arith) l.invariant.others
