-- A claim: 13 for the counts, 11, 13 for that entry's text, then yes or no.
use Rattle.std.specs.Prelude.{ℕ, ◌+◌, List, ltb, length, Result, Ok, Err}
use Rattle.refusals.specs.declared.Refusal.{Refusal}
use Rattle.claims.specs.declared.Verdict.{Verdict}
use Rattle.refusals.specs.declared.Reason.TheVariants as reason
use Rattle.claims.specs.declared.Verdict.TheVariants as verdict
use Rattle.base.specs.Choice.{pick}
use Rattle.comparing.specs.Same.{same}
use Rattle.base.specs.Memory.{part}
use Rattle.block.specs.declared.State.{State}
use Rattle.refusals.specs.declared.Refusal.TheVariants as refusal
use Rattle.tables.specs.declared.Entry.{Entry}
use Rattle.tables.specs.Tables.{entry_size, room, entry_at}
use Rattle.kept.specs.Judgement.{text_counts, entry_text}

-- the answer of a claim
abbrev pub Claimed : Type 0
Claimed = Result Verdict Refusal

-- the name that an entry keeps
unfoldable pub name_text : List ℕ → Entry → List ℕ
name_text text e = part text e.start (e.start + e.length)

-- confirmed if its bytes are all of that name's bytes and nothing else, denied otherwise
unfoldable pub claim_of : ℕ → List ℕ → State → List ℕ → List ℕ → Claimed
claim_of number claim s text names =
    pick (text_counts s (length text) (room entry_size names))
    (pick (ltb number s.names)
    (pick (entry_text s (entry_at names number))
    (pick (same claim (name_text text (entry_at names number))) (Ok verdict.Confirmed) (Ok verdict.Denied))
    (Err (refusal.At reason.Outside number)))
    (Err (refusal.At reason.NoSuchName number)))
    (Err (refusal.Plain reason.Outside))
