use Rattle.pages.proofs.Pages.{said_by}
use Rattle.digits.specs.Digits.{printed}
use Prim.Native.Nat.{ℕ, ◌+◌}
use mathlib.Core.Path.{ap}
use Rattle.pages.proofs.put_number.Goals as goal

pub returns : goal.returns
returns c =
    let a = c.args in
    said_by a.out.now a.at (printed a.n) c.print-w.ensures.1 (ap (λ (k : ℕ). a.at + k) c.print-w.ensures.0)
