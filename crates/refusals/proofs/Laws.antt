-- A number has one reason: the number of a reason leads back to it, so two reasons with one number are the same.
use Prim.Native.Nat.{◌≤◌}
use native.Mathlib.Omega.{arith}
use mathlib.Core.Path.{◌≡◌, refl, sym, ap, ◌∙◌}
use Rattle.std.specs.Prelude.{Some}
use Rattle.refusals.specs.declared.Reason.{Reason}
use Rattle.refusals.specs.declared.Reason.TheVariants as reason
use Rattle.refusals.specs.Refusals.{number_of, among, reason_of}

pub reason_back : (r : Reason) → reason_of (number_of r) ≡ Some r
unfolding among reason_of
reason_back reason.Unsound = refl
reason_back reason.Short = refl
reason_back reason.UnknownType = refl
reason_back reason.BadDistance = refl
reason_back reason.NoRow = refl
reason_back reason.BadNumber = refl
reason_back reason.NotEnd = refl
reason_back reason.BadName = refl
reason_back reason.NoRoom = refl
reason_back reason.Unread = refl
reason_back reason.NoSuchName = refl
reason_back reason.BadCount = refl
reason_back reason.Outside = refl
reason_back reason.BadSize = refl
reason_back reason.BadSymbol = refl

pub one_reason : (r t : Reason) → number_of r ≡ number_of t → r ≡ t
one_reason r t e = let both : Some r ≡ Some t = sym (reason_back r) ∙ ap reason_of e ∙ reason_back t in cc

-- each is from 1 to 18
pub number_between : (r : Reason) → (1 ≤ number_of r) × (number_of r ≤ 18)
number_between reason.Unsound = (omega arith, omega arith)
number_between reason.Short = (omega arith, omega arith)
number_between reason.UnknownType = (omega arith, omega arith)
number_between reason.BadDistance = (omega arith, omega arith)
number_between reason.NoRow = (omega arith, omega arith)
number_between reason.BadNumber = (omega arith, omega arith)
number_between reason.NotEnd = (omega arith, omega arith)
number_between reason.BadName = (omega arith, omega arith)
number_between reason.NoRoom = (omega arith, omega arith)
number_between reason.Unread = (omega arith, omega arith)
number_between reason.NoSuchName = (omega arith, omega arith)
number_between reason.BadCount = (omega arith, omega arith)
number_between reason.Outside = (omega arith, omega arith)
number_between reason.BadSize = (omega arith, omega arith)
number_between reason.BadSymbol = (omega arith, omega arith)
