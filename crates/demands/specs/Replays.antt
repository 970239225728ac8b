-- C-22, demand 1 of a replay: what it can come to, each case with its cause, and what holds of the table after any trace.
-- 18 is the one refusal of a single call that leaves changed memory: "the table keeps what the symbols before it did, which demand 1 then allows".
use Rattle.std.specs.Prelude.{ℕ, ⊤, ◌≤◌, ◌<◌, ◌≡◌, Bool, true, List, [], ◌∷◌, ◌++◌, ◌⊎◌, Option, Some, Result, Ok, Err, option_map, ltb, eqb}
use Rattle.base.specs.Choice.{pick}
use Rattle.base.specs.Every.{every}
use Rattle.refusals.specs.declared.Reason.TheVariants.{BadSize, BadSymbol}
use Rattle.refusals.specs.declared.Refusal.{Refusal}
use Rattle.refusals.specs.declared.Refusal.TheVariants.{Plain}
use Rattle.model.specs.declared.Model.{Model}
use Rattle.model.specs.Model.{places, started, place_of, step_at}
use Rattle.model.specs.Sound.{Sound}
use Rattle.replays.specs.Replays.{Replaying, replaying, replay_fresh, with_table, in_place, replay_of}
use Rattle.codes.specs.Codes.{packed, no_name}
use Rattle.modelcalls.specs.Calls.{Replays, replays, replay_call}
use Rattle.demands.specs.OnlyOne.{OneOutcome}
use Rattle.demands.specs.Boundary.{NumberTells, told_refusal, ToldApart, NeverDone}

-- a step for each symbol, one after another
unfoldable pub seen : Model → List ℕ → Model
seen m [] = m
seen m (s ∷ rest) = seen (step_at m (place_of m.symbols s)) rest

-- every symbol of a trace is one of a table of n: below n
abbrev pub known : ℕ → List ℕ → Bool
known n trace = every (λ s. ltb s n) trace

-- another size than 1 to 256: 17, whatever the trace, and all memory is as it was.
-- A symbol outside the table: 18, and the table is started and has the steps of the symbols before it, and of none behind it.
-- No such symbol: the steps of all.
pub data ReplayCase (n : ℕ) (trace : List ℕ) (m : Model) : Replaying → Type 0 where
  replays_17 : (n ≡ 0) ⊎ (places < n) → ReplayCase n trace m (replaying (Err (Plain BadSize)) m)
  replays_18 : 1 ≤ n → n ≤ places → (before : List ℕ) (s : ℕ) (rest : List ℕ) → trace ≡ before ++ s ∷ rest → known n before ≡ true → n ≤ s
      → ReplayCase n trace m (in_place m (replaying (Err (Plain BadSymbol)) (seen (started n) before)))
  replays_all : 1 ≤ n → n ≤ places → known n trace ≡ true → ReplayCase n trace m (in_place m (replaying (Ok tt) (seen (started n) trace)))

-- what a replay comes to has its cause
abbrev pub ReplayHasCase : Type 0
ReplayHasCase = (n : ℕ) (trace : List ℕ) (m : Model) → ReplayCase n trace m (replay_of n trace m)

-- and the cause gives what a replay comes to
abbrev pub CaseReplays : Type 0
CaseReplays = (n : ℕ) (trace : List ℕ) (m : Model) (r : Replaying) → ReplayCase n trace m r → r ≡ replay_of n trace m

-- 17 leaves the record, whatever the trace
abbrev pub Replay17 : Type 0
Replay17 = (n : ℕ) (trace : List ℕ) (m : Model) → (n ≡ 0) ⊎ (places < n) → replay_of n trace m ≡ replaying (Err (Plain BadSize)) m

-- after any symbols of the table it is sound
abbrev pub AlwaysSound : Type 0
AlwaysSound = (n : ℕ) → n ≤ places → (trace : List ℕ) → known n trace ≡ true → Sound n (seen (started n) trace)

-- the table that a trace leaves: size and trace alone give it, and not what a record held
abbrev pub table_after : ℕ → List ℕ → Model
table_after n trace = (replay_fresh n trace).model

-- it is sound, and stands in the first places of the record, with its total; the places behind it are as they were
pub record TableLeft (n : ℕ) (trace : List ℕ) (before after : Model) : Type 0 where
  pub sound : Sound n (table_after n trace)
  pub stands : after ≡ with_table before (table_after n trace)

-- after any trace, at 18 too: the total is the sum of the frequencies and at most 65,504, no frequency is 0, every symbol stands in the table once
abbrev pub ReplayEndsSound : Type 0
ReplayEndsSound = (n : ℕ) (trace : List ℕ) (m : Model) → 1 ≤ n → n ≤ places → TableLeft n trace m (replay_of n trace m).model

-- size and trace alone give the answer, too
abbrev pub ReplayAlone : Type 0
ReplayAlone = (n : ℕ) (trace : List ℕ) (m other : Model) → (replay_of n trace m).answer ≡ (replay_of n trace other).answer

-- The same of the code: of whatever meets a replay's contract

abbrev pub ReplayedHasCase : Type 0
ReplayedHasCase = (n : ℕ) (trace : List ℕ) (m : Model) (r : Replaying) → r ≡ replay_of n trace m → ReplayCase n trace m r

abbrev pub ReplayedEndsSound : Type 0
ReplayedEndsSound = (n : ℕ) (trace : List ℕ) (m : Model) (r : Replaying) → r ≡ replay_of n trace m → 1 ≤ n → n ≤ places → TableLeft n trace m r.model

-- one outcome only
abbrev pub OneReplay : Type 0
OneReplay = (n : ℕ) (trace : List ℕ) (m : Model) (x y : Replaying) → OneOutcome (replay_of n trace m) x y

-- the number of the exported call: code 0 with value 0, or 17 or 18, neither with a name
pub data ReplaySays : ℕ → Type 0 where
  says_replayed : ReplaySays (packed 0 0)
  says_17 : ReplaySays (packed 17 no_name)
  says_18 : ReplaySays (packed 18 no_name)

abbrev pub ReplayCallSays : Type 0
ReplayCallSays = (n : ℕ) (trace : List ℕ) (m : Model) → ReplaySays (replay_call n trace m).number

-- another size alters nothing; at a symbol outside the table the steps before it stay; else all are made
abbrev pub ReplayCall17 : Type 0
ReplayCall17 = (n : ℕ) (trace : List ℕ) (m : Model) → (n ≡ 0) ⊎ (places < n) → replay_call n trace m ≡ replays (packed 17 no_name) m

abbrev pub ReplayCall18 : Type 0
ReplayCall18 =
    (n : ℕ) (trace : List ℕ) (m : Model) → 1 ≤ n → n ≤ places → (before : List ℕ) (s : ℕ) (rest : List ℕ) → trace ≡ before ++ s ∷ rest → known n before ≡ true → n ≤ s
    → replay_call n trace m ≡ replays (packed 18 no_name) (with_table m (seen (started n) before))

abbrev pub ReplayCallAll : Type 0
ReplayCallAll =
    (n : ℕ) (trace : List ℕ) (m : Model) → 1 ≤ n → n ≤ places → known n trace ≡ true
    → replay_call n trace m ≡ replays (packed 0 0) (with_table m (seen (started n) trace))

-- any of these but the first leaves a sound table
abbrev pub ReplayCallEnds : Type 0
ReplayCallEnds = (n : ℕ) (trace : List ℕ) (m : Model) → 1 ≤ n → n ≤ places → TableLeft n trace m (replay_call n trace m).model

-- a call's number, too, is a function of size and trace alone
abbrev pub ReplayCallAlone : Type 0
ReplayCallAlone = (n : ℕ) (trace : List ℕ) (m other : Model) → (replay_call n trace m).number ≡ (replay_call n trace other).number

abbrev pub OneReplayCall : Type 0
OneReplayCall = (n : ℕ) (trace : List ℕ) (m : Model) (x y : Replays) → OneOutcome (replay_call n trace m) x y

-- what a code and a value tell of a replay
unfoldable pub told_replay : ℕ → ℕ → Option (Result ⊤ Refusal)
told_replay code value = pick (eqb code 0) (Some (Ok tt)) (option_map Err (told_refusal code value))

-- its answers are told apart, and 256 tells none
abbrev pub ReplayApart : Type 0
ReplayApart = ToldApart told_replay × NeverDone told_replay

abbrev pub ReplayTold : Type 0
ReplayTold = (n : ℕ) (trace : List ℕ) (m : Model) → NumberTells (replay_call n trace m).number told_replay (replay_of n trace m).answer
