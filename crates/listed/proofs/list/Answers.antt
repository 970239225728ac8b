use Rattle.listed.proofs.Bounds.{listed_short}
use Rattle.pages.proofs.Pages.{said_out, said_at}
use Rattle.pages.specs.Page.{page}
use Rattle.listed.specs.Listing.{listed_of}
use native.Mathlib.Omega.{arith}
use Rattle.listed.proofs.list.Goals as goal

pub put_listed-requires : goal.put_listed-requires
put_listed-requires c =
    let a = c.args in
    omega (arith, listed_short a.input.now)

pub returns : goal.returns
returns c =
    let a = c.args in
    let w = page a.out.now 0 in
    let e = c.put_listed.ensures in
    (omega (arith, said_at (listed_of a.input.now) w e), said_out (listed_of a.input.now) w e)
