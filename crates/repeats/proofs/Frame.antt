-- Which memory what a row repeats depends on: the kept text below where its own ends.
use Prim.Native.Nat.{ℕ, ◌+◌, ◌≤◌}
use mathlib.Core.Path.{◌≡◌, refl, ap}
use mathlib.Core.Bool.{true}
use mathlib.Core.List.{List}
use native.Mathlib.Omega.{arith}
use borrow.Author.Tests.{eqb-true}
use lib.Dec.{eqb}
use lib.ListN.{take}
use Rattle.base.specs.Choice.{pick}
use Rattle.base.proofs.Choice.{pick_same}
use Rattle.tokens.specs.declared.Token.TheVariants.{String, Char}
use Rattle.base.proofs.Below.{same_at}
use Rattle.tables.specs.declared.Row.{Row}
use Rattle.kept.specs.Inside.{RowInside}
use Rattle.repeats.specs.Repeats.{token_of}

pub token_same : (text other : List ℕ) (used : ℕ) (r : Row) → take used text ≡ take used other → RowInside used r → token_of text r ≡ token_of other r
unfolding token_of
token_same text other used r e i =
    ap (pick (eqb r.kind 1) (String (record { kept = true; start = r.start; end = r.start + r.length })))
    (pick_same (eqb r.kind 2) _ _ _ _
    (λ h.
    let l : r.length ≡ 1 = i.kind.char (eqb-true _ _ h) in
    let m : r.start + r.length ≤ used = i.ends in
    ap Char (same_at text other used e r.start (omega arith)))
    (λ h. refl))
