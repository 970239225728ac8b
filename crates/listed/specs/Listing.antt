-- What the program prints for an input.
use Rattle.std.specs.Prelude.{ℕ, ◌≤◌, ◌≡◌, true, List, ◌++◌, ltb, length, Some, None, Ok, Err}
use Rattle.refusals.specs.declared.Reason.TheVariants as reason
use Rattle.base.specs.Choice.{pick}
use Rattle.refusals.specs.declared.Refusal.TheVariants.{Plain, At}
use Rattle.numbering.specs.Types.{draft_plain, Rules, rules_of}
use Rattle.laying.specs.Puts.{total_of}
use Rattle.inputs.specs.Inputs.{Judged, names_of, ended, judged_from}
use Rattle.nameputs.specs.NamePuts.{puts_of}
use Rattle.writing.specs.Writes.{WriteAnswer, countable, write_of}
use Rattle.lines.specs.Lines.{lines_of}
use Rattle.closing.specs.Closing.{refusal_text, totals_text}

-- what is said of names to which the writer gave an answer
unfoldable pub answer_text : List (List ℕ) → WriteAnswer → List ℕ
answer_text names (Ok w) = lines_of names ++ totals_text w.names w.bytes
answer_text names (Err r) = refusal_text r

-- the writer's answer where there is room for the bytes
unfoldable pub judged_answer : Rules → Judged → List (List ℕ) → WriteAnswer
judged_answer rules None names = Ok (record { names = length names; bytes = total_of (puts_of rules names) })
judged_answer rules (Some n) names = Err (At reason.BadName n)

unfoldable pub answer_of : Rules → List ℕ → WriteAnswer
answer_of rules input = pick (countable input) (judged_answer rules (judged_from 0 (names_of input)) (names_of input)) (Err (Plain reason.BadCount))

-- the listing of an input
unfoldable pub listing_of : Rules → List ℕ → List ℕ
listing_of rules input = answer_text (names_of input) (answer_of rules input)

-- "at most 4,096 bytes (more prints "refused 9")"; it lists what the draft's plain setting writes
unfoldable pub listed_of : List ℕ → List ℕ
listed_of input = pick (ltb 4096 (length input)) (refusal_text (Plain reason.NoRoom)) (listing_of (rules_of draft_plain) input)

-- an input of good names
pub record Good (input : List ℕ) : Type 0 where
  pub ends : ended input ≡ true
  pub few : length (names_of input) ≤ 65536
  pub fine : judged_from 0 (names_of input) ≡ None

-- "Its own room always suffices"
abbrev pub ListedShort : Type 0
ListedShort = (input : List ℕ) → length (listed_of input) ≤ 131072

-- a listing is what is said of the writer's answer, where the directory has its length and there is room
abbrev pub ListingWritten : Type 0
ListingWritten = (rules : Rules) (input dir bytes : List ℕ) → length dir ≡ 2580 → total_of (puts_of rules (names_of input)) ≤ length bytes
    → listing_of rules input ≡ answer_text (names_of input) (write_of rules input dir bytes).answer
