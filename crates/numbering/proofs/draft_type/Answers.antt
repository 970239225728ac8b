use Rattle.base.specs.Choice.{pick}
use borrow.Author.Tests.{ne_eqb}
use Rattle.numbering.specs.Types.{type_of}
use Rattle.numbering.proofs.draft_type.Goals as goal

pub returns-in-1 : goal.returns-in-1
unfolding type_of pick
returns-in-1 c = rw c.in-1.is

pub returns-in-2 : goal.returns-in-2
unfolding type_of pick
returns-in-2 c = rw c.in-2.is

pub returns-in-4 : goal.returns-in-4
unfolding type_of pick
returns-in-4 c = rw c.in-4.is

pub returns-in-7 : goal.returns-in-7
unfolding type_of pick
returns-in-7 c = rw c.in-7.is

pub returns-in-11 : goal.returns-in-11
unfolding type_of pick
returns-in-11 c = rw c.in-11.is

pub returns-in-12 : goal.returns-in-12
unfolding type_of pick
returns-in-12 c = rw c.in-12.is

pub returns-in-13 : goal.returns-in-13
unfolding type_of pick
returns-in-13 c = rw c.in-13.is

pub returns-in-14 : goal.returns-in-14
unfolding type_of pick
returns-in-14 c = rw c.in-14.is

pub returns-in_default : goal.returns-in_default
unfolding type_of pick
returns-in_default c =
    let r = c.in_default.in_default-own.rest in
    rw (ne_eqb _ _ r.0.0.0.0.0.0.0.1, ne_eqb _ _ r.0.0.0.0.0.0.1, ne_eqb _ _ r.0.0.0.0.0.1, ne_eqb _ _ r.0.0.0.0.1, ne_eqb _ _ r.0.0.0.1, ne_eqb _ _ r.0.0.1, ne_eqb _ _ r.0.1, ne_eqb _ _ r.1)
