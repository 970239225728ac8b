-- What is kept, by the words alone: the first of the names that the block's bytes, directory and count say (words/specs/Words), whatever memory was lent.
use Rattle.std.specs.Prelude.{ℕ, ◌≤◌, ◌<◌, ◌≡◌, List, ◌⊎◌, ltb, length, get_or, Some, None, Ok, Err}
use Rattle.entries.specs.Entries.{Answer}
use Rattle.refusals.specs.declared.Reason.{Reason}
use Rattle.refusals.specs.declared.Reason.TheVariants as reason
use Rattle.base.specs.Choice.{pick}
use Rattle.refusals.specs.declared.Refusal.{Refusal}
use Rattle.refusals.specs.declared.Refusal.TheVariants as refusal
use Rattle.words.specs.Values.{Name, nobody}
use Rattle.words.specs.Words.{Ending, done, unread, stopped, Telling, telling}
use Rattle.standing.specs.Stands.{Stands}
use Rattle.demands.specs.Runs.{Lent, read, Fresh, Call, run, name_at}
use Rattle.numbering.specs.Types.{Rules}

-- what the ending answers with k names kept
unfoldable pub ends_with : ℕ → Ending → Answer
ends_with k done = Ok None
ends_with k unread = Err (refusal.Plain reason.Unread)
ends_with k (stopped r) = Err (refusal.At r k)

-- what the words answer to a read with k names kept: the next name, or the ending
unfoldable pub answer_at : Telling → ℕ → Answer
answer_at b k = pick (ltb k (length b.names)) (Ok (Some k)) (ends_with k b.ending)

-- what is kept in z, of a block that says b
pub record ByWords (rules : Rules) (bytes dir : List ℕ) (b : Telling) (z : Lent) : Type 0 where
  -- no more names than the block says
  pub few : z.kept.state.names ≤ length b.names
  -- name i is the i-th of them: its text, its distance, and each of its rows
  pub each : (i : ℕ) → i < z.kept.state.names → Stands z.kept i (get_or b.names i nobody)
  -- a read answers as the words do; or 9, there being a name to keep
  pub answers : ((read rules bytes dir z).answer ≡ answer_at b z.kept.state.names)
      ⊎ ((z.kept.state.names < length b.names) × ((read rules bytes dir z).answer ≡ Err (refusal.At reason.NoRoom z.kept.state.names)))

-- what is kept at any time is what the words say of the block
abbrev pub AlwaysTold : Type 0
AlwaysTold =
    (rules : Rules) (bytes dir : List ℕ) (count : ℕ) (l : Lent) → Fresh bytes dir count l
    → (calls : List Call) → ByWords rules bytes dir (telling rules bytes dir count) (run rules bytes dir l calls)

-- a refusal r that carries name n is how the block ends: all of its names are kept, and the next is refused with r
pub record EndsAt (b : Telling) (z : Lent) (r : Reason) (n : ℕ) : Type 0 where
  pub all : z.kept.state.names ≡ length b.names
  pub number : n ≡ length b.names
  pub ending : b.ending ≡ stopped r

-- how a read's refusal other than 9 is the block's own ending: with all names kept, bytes are left over (10), or the next name is refused
pub data Ends (b : Telling) (z : Lent) : Refusal → Type 0 where
  over : z.kept.state.names ≡ length b.names → b.ending ≡ unread → Ends b z (refusal.Plain reason.Unread)
  at : (r : Reason) (n : ℕ) → EndsAt b z r n → Ends b z (refusal.At r n)

-- after any calls from a fresh start, a read that is refused otherwise than with 9 is refused as the words say that the block ends
abbrev pub RefusedTold : Type 0
RefusedTold =
    (rules : Rules) (bytes dir : List ℕ) (count : ℕ) (l : Lent) → Fresh bytes dir count l → (calls : List Call) (q : Refusal) → ((n : ℕ) → q ≡ refusal.At reason.NoRoom n → ⊥)
    → (read rules bytes dir (run rules bytes dir l calls)).answer ≡ Err q → Ends (telling rules bytes dir count) (run rules bytes dir l calls) q

-- two memories hold one name
pub record SameName (z w : Lent) (i : ℕ) : Type 0 where
  pub name : Name
  pub one : Stands z.kept i name
  pub other : Stands w.kept i name
  pub bytes : name_at z i ≡ name_at w i

-- two fresh starts on one block keep the same names, whatever each was lent and whatever was called
abbrev pub SameNames : Type 0
SameNames =
    (rules : Rules) (bytes dir : List ℕ) (count : ℕ) (l w : Lent) → Fresh bytes dir count l → Fresh bytes dir count w → (calls others : List Call) (i : ℕ)
    → i < (run rules bytes dir l calls).kept.state.names → i < (run rules bytes dir w others).kept.state.names → SameName (run rules bytes dir l calls) (run rules bytes dir w others) i
