-- The paper's number of each reason to refuse, and the reason that has a number.
use Rattle.std.specs.Prelude.{ℕ, List, [], ◌∷◌, Option, Some, None, eqb, cond}
use Rattle.refusals.specs.declared.Reason.{Reason}
use Rattle.refusals.specs.declared.Reason.TheVariants as reason

abbrev pub number_of : Reason → ℕ
number_of reason.Unsound = 1
number_of reason.Short = 2
number_of reason.UnknownType = 3
number_of reason.BadDistance = 4
number_of reason.NoRow = 5
number_of reason.BadNumber = 6
number_of reason.NotEnd = 7
number_of reason.BadName = 8
number_of reason.NoRoom = 9
number_of reason.Unread = 10
number_of reason.NoSuchName = 11
number_of reason.BadCount = 12
number_of reason.Outside = 13
number_of reason.BadSize = 17
number_of reason.BadSymbol = 18

-- back from the number: the first of these reasons that has it
unfoldable pub among : List Reason → ℕ → Option Reason
among [] n = None
among (r ∷ rs) n = cond (eqb n (number_of r)) (Some r) (among rs n)

-- none has another number than these
unfoldable pub reason_of : ℕ → Option Reason
reason_of = among (
    reason.Unsound ∷ reason.Short ∷ reason.UnknownType ∷ reason.BadDistance ∷ reason.NoRow ∷ reason.BadNumber ∷ reason.NotEnd ∷ reason.BadName ∷ reason.NoRoom
    ∷ reason.Unread ∷ reason.NoSuchName ∷ reason.BadCount ∷ reason.Outside ∷ reason.BadSize ∷ reason.BadSymbol ∷ []
    )
