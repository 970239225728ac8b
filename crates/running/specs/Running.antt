-- A run of MATCHes in one go: how far it may go, what it comes to, and what it puts down.
use Rattle.std.specs.Prelude.{ℕ, ◌+◌, ◌-◌, ◌≤◌, ◌≡◌, Bool, List, leb, ltb, length, Result, Ok, Err}
use Rattle.refusals.specs.declared.Reason.{Reason}
use Rattle.refusals.specs.declared.Reason.TheVariants as reason
use Rattle.base.specs.Choice.{pick, both}
use Rattle.base.specs.Lent.{Buffer}
use Rattle.spans.specs.declared.Position.{Position}
use Rattle.block.specs.declared.Setting.{Setting}
use Rattle.numbering.specs.Types.{rules_of}
use Rattle.sources.specs.Source.{Source, source, Earlier, earlier}
use Rattle.tables.specs.Tables.{Table, in_rows, row_room}
use Rattle.names.specs.Keeps.{Memory}
use Rattle.runs.specs.Runs.{run_end, text_length}
use Rattle.repeating.specs.Repeats.{RowsSpelt}
use Rattle.repeating.specs.Repeating.{repeat_put}

-- behind a run of MATCHes: the next position and the length so far, or that the name is too long
abbrev pub Ran : Type 0
Ran = Result (Position × ℕ) Reason

-- as far as a run may go: over rows that there are, and only where they are spelt
abbrev pub Reaches : ℕ → Earlier → Type 0
Reaches end e = (2 ≤ end → RowsSpelt e) × ((end ≤ e.count + 1) × (end ≤ 128))

-- a name of so many bytes goes on at a position
abbrev pub on_at : ℕ → ℕ → Ran
on_at p len = Ok (record { 0 = p }, len)

-- where a name of so many bytes goes on behind a run from position p up to q, or that it gets too long
unfoldable pub run_to : Earlier → ℕ → ℕ → ℕ → Ran
run_to e p q len =
    pick (leb q p) (on_at p len)
    (pick (leb (len + text_length e.rows (e.first + (p - 1)) (e.first + (q - 1))) 254)
    (on_at q (len + text_length e.rows (e.first + (p - 1)) (e.first + (q - 1))))
    (Err reason.BadName))

unfoldable pub run_of : Source → Earlier → ℕ → ℕ → ℕ → Ran
run_of s e end p len = run_to e p (run_end s p (end - p)) len

-- the same of the block and of the earlier name's rows that a call is lent
abbrev pub run_lent : Setting → Buffer → Buffer → Buffer → Buffer → Buffer → ℕ → ℕ → Position → Position → ℕ → Ran
run_lent set bytes dir cursors text rows first count end p len =
    run_of (source (rules_of set) bytes dir cursors) (earlier text (in_rows rows) first count) end.0 p.0 len

-- room for the name as far as the run takes it
abbrev pub RunRoom : Ran → ℕ → ℕ → List ℕ → Table → Type 0
RunRoom r used row text rows = (q l : ℕ) → r ≡ on_at q l → (used + l ≤ length text) × (row + (q - 1) ≤ row_room rows)

-- what the run puts down, where the name is being kept
unfoldable pub run_put : Bool → Earlier → ℕ → ℕ → ℕ → ℕ → Ran → Memory → Memory
run_put keeping e used row p len (Ok (q, l)) m = pick (both keeping (ltb p q.0))
    (repeat_put e.first p q.0 (l - len) (used + len) row m)
    m
run_put keeping e used row p len (Err r) m = m
