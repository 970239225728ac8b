use Prim.Native.Nat.{◌<◌}
use native.Mathlib.Omega.{arith}
use Rattle.block.proofs.Laws.{span_inside}
use Rattle.sources.specs.Source.{four_in}
use borrow.Author.Rules.{rules}
use Rattle.sources.proofs.four_in.Goals as goal

pub cursor_of-c-requires : goal.cursor_of-c-requires
cursor_of-c-requires c =
    (c.requires.fact.table, omega (arith, span_inside c.args.p.0 c.args.stream (omega arith)))

pub end_of-end-requires : goal.end_of-end-requires
end_of-end-requires c =
    (c.requires.fact.directory, omega (arith, span_inside c.args.p.0 c.args.stream (omega arith)))

pub four_in-requires : goal.four_in-requires
four_in-requires c =
    let i = c.span_of-span.result.0 in
    let h = span_inside c.args.p.0 c.args.stream (omega arith) in
    let l : i < 1290 = omega (arith, c.span_of-span.ensures) in
    (omega (arith, c.requires.fact.unpassed i l, c.cursor_of-c.ensures, c.end_of-end.ensures), omega (arith, c.requires.fact.within i l, c.end_of-end.ensures))

pub returns : goal.returns
unfolding four_in
returns c =
    λ rules.
    rw (← c.span_of-span.ensures, ← c.cursor_of-c.ensures, ← c.end_of-end.ensures) c.four_in.ensures
