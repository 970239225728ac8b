use Prim.Native.Nat.{ℕ, ◌+◌, ◌-◌, ◌*◌}
use mathlib.Core.List.{List}
use mathlib.Core.Path.{◌≡◌, refl, sym, ap, ◌∙◌}
use native.Mathlib.Omega.{arith}
use lib.ListN.{set, get_or}
use Rattle.block.specs.Block.{end_of}
use Rattle.laying.specs.Passes.{offset_in}
use Rattle.laying.proofs.Tables.{laid, laid_none, laid_read, laid_more, laid_all, offset_more, offset_grows}
use Rattle.laying.proofs.lay_out.Goals as goal

pub loop-i-init : goal.loop-i-init
unfolding offset_in
loop-i-init c = record { at = refl; laid = sym (laid_none _) }

pub overflow_add-at : goal.overflow_add-at
overflow_add-at c =
    let l = c.loop-i in
    let d = c.args.directory.now in
    let n : l.i + 1 + (1290 - (l.i + 1)) ≡ 1290 = omega arith in
    let r : get_or l.directory (2 * l.i + 1) 0 ≡ end_of d l.i = ap (λ (x : List ℕ). get_or x (2 * l.i + 1) 0) l.invariant.laid ∙ laid_read d l.i (omega arith) in
    omega (arith, r, offset_more d l.i, offset_grows d (1290 - (l.i + 1)) (l.i + 1), ap (offset_in d) n)

pub loop-i-preserved : goal.loop-i-preserved
loop-i-preserved c =
    let l = c.loop-i in
    let d = c.args.directory.now in
    let r : get_or l.directory (2 * l.i + 1) 0 ≡ end_of d l.i = ap (λ (x : List ℕ). get_or x (2 * l.i + 1) 0) l.invariant.laid ∙ laid_read d l.i (omega arith) in
    record {
      at = omega (arith, r, offset_more d l.i);
      laid = ap (λ (x : List ℕ). set (set x (2 * l.i) l.at) (2 * l.i + 1) l.at) l.invariant.laid ∙ laid_more d l.i (omega arith) l.at l.invariant.at;
    }

pub returns : goal.returns
returns c =
    let l = c.loop-i in
    let d = c.args.directory.now in
    let e : l.i ≡ 1290 = omega arith in
    l.invariant.laid ∙ ap (laid d) e ∙ laid_all d c.requires.0
