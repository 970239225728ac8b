-- What a read keeps or answers, and what the words say is next.
use Rattle.std.specs.Prelude.{ℕ, ◌≡◌, List, ◌∷◌, Some, None, Ok}
use Rattle.refusals.specs.declared.Reason.{Reason}
use Rattle.refusals.specs.declared.Reason.TheVariants as reason
use Rattle.base.specs.Choice.{pick}
use Rattle.block.specs.Open.{Open}
use Rattle.tables.specs.Tables.{Kept}
use Rattle.kept.specs.Inside.{Counted}
use Rattle.numbering.specs.Types.{Rules}
use Rattle.sources.specs.Source.{source}
use Rattle.outcomes.specs.Outcomes.{Outcome, outcome, plain, at_name}
use Rattle.earlier.specs.Fits.{AllFit}
use Rattle.inner.specs.Next.{next_of}
use Rattle.words.specs.Fronts.{Spans, Said, said, refused}
use Rattle.words.specs.Values.{Name}
use Rattle.words.specs.Words.{next, all_empty}
use Rattle.standing.specs.Stands.{Tells}

-- a read and what the words say is next
pub data ReadSaid (rules : Rules) (bytes dir cur : List ℕ) (m : Kept) (before : List Name) : Outcome → Said Name → Type 0 where
  gives : (r : Reason) → ReadSaid rules bytes dir cur m before (at_name (source rules bytes dir cur) m r) (refused r)
  full : (n : Name) (spans : Spans) → ReadSaid rules bytes dir cur m before (at_name (source rules bytes dir cur) m reason.NoRoom) (said n spans)
  keeps : (o : Outcome) (n : Name) (spans : Spans) → o.answer ≡ Ok (Some m.state.names) → Tells bytes dir o.cur o.kept (n ∷ before) spans
      → ReadSaid rules bytes dir cur m before o (said n spans)

-- where the names of the words are those that are kept, a read keeps the one that the words say is next, or gives their refusal, or 9
abbrev pub NextSaid : Type 0
NextSaid = (rules : Rules) (bytes dir cur : List ℕ) (m : Kept) (before : List Name) (spans : Spans) → Open bytes dir cur → Counted m → AllFit m → Tells bytes dir cur m before spans
    → (m.state.names ≡ m.state.count → ⊥) → ReadSaid rules bytes dir cur m before (next_of (source rules bytes dir cur) m) (next rules before spans)

-- and with all names read it is "done" where the words say that every span is at its end, else 10
abbrev pub EndsSaid : Type 0
EndsSaid = (rules : Rules) (bytes dir cur : List ℕ) (m : Kept) (before : List Name) (spans : Spans) → Open bytes dir cur → Counted m → AllFit m → Tells bytes dir cur m before spans
    → m.state.names ≡ m.state.count → next_of (source rules bytes dir cur) m ≡ pick (all_empty spans) (outcome (Ok None) cur m) (plain (source rules bytes dir cur) m reason.Unread)
