-- What an inner read goes by instead of judging: every kept name's entry and rows point inside, and its rows are spelt.
use Rattle.std.specs.Prelude.{ℕ, ◌<◌, ◌≡◌, Bool, true}
use Rattle.tables.specs.Tables.{Kept, entry_at}
use Rattle.kept.specs.Judgement.{earlier_fits}
use Rattle.repeating.specs.Repeats.{RowsSpelt}
use Rattle.earlier.specs.Back.{rows_of}

abbrev pub AllFit : Kept → Type 0
AllFit m = (i : ℕ) → i < m.state.names → earlier_fits m i ≡ true

-- of every kept name, the rows' texts are what their tokens print and lie one behind the other
abbrev pub AllSpelt : Kept → Type 0
AllSpelt m = (i : ℕ) → i < m.state.names → RowsSpelt (rows_of m (entry_at m.names i))

-- where it is known, as it is from opening on; the public read knows nothing of what it is lent
abbrev pub Known : Bool → Kept → Type 0
Known known m = known ≡ true → AllFit m × AllSpelt m
