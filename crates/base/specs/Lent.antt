-- A lent buffer as a contract sees it: the list that it holds, when the call is made (`x.old`, or `x.now` where it is only read) or once the call has returned (`x.new`).
use Rattle.std.specs.Prelude.{ℕ, List}

abbrev pub Buffer : Type 0
Buffer = List ℕ
