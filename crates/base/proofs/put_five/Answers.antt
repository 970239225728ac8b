use borrow.Author.Rules.{rules}
use native.Mathlib.Omega.{arith}
use native.Mathlib.Numerals.{add-one}
use Prim.Native.Nat.{ℕ, ◌+◌, ◌<◌}
use mathlib.Core.Path.{◌≡◌, ◌∙◌}
use mathlib.Core.List.{List}
use lib.ListN.{length, set, get_or}
use lib.Seq.{paste, paste-zero, paste-suc}
use Rattle.base.proofs.Memory.{pasted}
use Rattle.base.proofs.put_five.Goals as goal

put_more : (d s t : List ℕ) (at i n : ℕ) → t ≡ paste d at s i → n ≡ get_or s i 0 → at + i < length d → i < length s → set t (at + i) n ≡ paste d at s (i + 1)
put_more d s t at i n e q h k = rw (e, q, add-one) (paste-suc d at s i 0 h k)

pub loop-i-init : goal.loop-i-init
loop-i-init c = let a = c.args in paste-zero a.table.now a.at a.numbers

pub loop-i-preserved : goal.loop-i-preserved
loop-i-preserved c =
    let l = c.loop-i in
    let a = c.args in
    put_more a.table.now a.numbers l.table a.at l.i _ l.invariant (search rules) (omega arith) (omega arith)

pub returns : goal.returns
returns c =
    let l = c.loop-i in
    let a = c.args in
    l.invariant ∙ pasted a.table.now a.at a.numbers l.i (omega arith)
