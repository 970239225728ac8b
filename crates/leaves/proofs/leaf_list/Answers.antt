use Prim.Native.Nat.{◌+◌, ◌≤◌}
use lib.ListN.{length}
use mathlib.Core.Path.{refl}
use native.Mathlib.Omega.{arith}
use borrow.Author.Tests.{le-leb, lt-leb}
use Rattle.listed.specs.Listing.{listed_of}
use Rattle.listed.proofs.Bounds.{listed_short}
use Rattle.leaves.proofs.Laws.{stands, may_not}
use Rattle.leaves.proofs.leaf_list.Goals as goal

pub returns-then-out-lt131072 : goal.returns-then-out-lt131072
returns-then-out-lt131072 c = may_not _ _ _ (lt-leb _ _ c.if-out-lt131072.true)

pub returns : goal.returns
returns c =
    let a = c.args in
    let h : 0 + length (listed_of a.input.now) ≤ length a.out.now = omega (arith, listed_short a.input.now, c.if-out-lt131072.false) in
    stands (listed_of a.input.now) 0 a.out.now (length (listed_of a.input.now)) refl (le-leb _ _ c.if-out-lt131072.false) (le-leb _ _ h) c.list.ensures.0 c.list.ensures.1
