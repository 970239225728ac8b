-- What a claim is answered, and when: each answer with its cause.
use Rattle.std.specs.Prelude.{ℕ, ◌≤◌, ◌<◌, ◌≡◌, List, Ok, Err}
use Rattle.refusals.specs.declared.Reason.TheVariants as reason
use Rattle.claims.specs.declared.Verdict.TheVariants as verdict
use Rattle.block.specs.declared.State.{State}
use Rattle.refusals.specs.declared.Refusal.TheVariants as refusal
use Rattle.tables.specs.Tables.{entry_at}
use Rattle.kept.specs.Inside.{TextCounted, TextInside}
use Rattle.claims.specs.Claims.{Claimed, name_text, claim_of}

-- the counts fit, the name is kept, and its text lies inside
pub record Answerable (number : ℕ) (s : State) (text names : List ℕ) : Type 0 where
  pub counts : TextCounted s text names
  pub below : number < s.names
  pub inside : TextInside s (entry_at names number)

-- all of the bytes of the name claimed
abbrev pub whole_name : ℕ → List ℕ → List ℕ → List ℕ
whole_name number text names = name_text text (entry_at names number)

-- an answer with its cause
pub data Cause (number : ℕ) (claim : List ℕ) (s : State) (text names : List ℕ) : Claimed → Type 0 where
  counts_outside : (TextCounted s text names → ⊥) → Cause number claim s text names (Err (refusal.Plain reason.Outside))
  not_kept : TextCounted s text names → s.names ≤ number → Cause number claim s text names (Err (refusal.At reason.NoSuchName number))
  text_outside : TextCounted s text names → number < s.names → (TextInside s (entry_at names number) → ⊥) → Cause number claim s text names (Err (refusal.At reason.Outside number))
  differs : Answerable number s text names → (claim ≡ whole_name number text names → ⊥) → Cause number claim s text names (Ok verdict.Denied)
  agrees : Answerable number s text names → claim ≡ whole_name number text names → Cause number claim s text names (Ok verdict.Confirmed)

-- every claim has an answer with its cause
abbrev pub HasCause : Type 0
HasCause = (number : ℕ) (claim : List ℕ) (s : State) (text names : List ℕ) → Cause number claim s text names (claim_of number claim s text names)

-- and each cause has its answer: "confirmed if its bytes are all of that name's bytes and nothing else, denied otherwise"
abbrev pub ConfirmedOf : Type 0
ConfirmedOf = (number : ℕ) (claim : List ℕ) (s : State) (text names : List ℕ)
    → Answerable number s text names → claim ≡ whole_name number text names → claim_of number claim s text names ≡ Ok verdict.Confirmed

abbrev pub DeniedOf : Type 0
DeniedOf = (number : ℕ) (claim : List ℕ) (s : State) (text names : List ℕ)
    → Answerable number s text names → (claim ≡ whole_name number text names → ⊥) → claim_of number claim s text names ≡ Ok verdict.Denied

-- 11, a number that isn't below k
abbrev pub ElevenOf : Type 0
ElevenOf = (number : ℕ) (claim : List ℕ) (s : State) (text names : List ℕ)
    → TextCounted s text names → s.names ≤ number → claim_of number claim s text names ≡ Err (refusal.At reason.NoSuchName number)

-- 13 for that entry's text
abbrev pub ThirteenAtOf : Type 0
ThirteenAtOf = (number : ℕ) (claim : List ℕ) (s : State) (text names : List ℕ)
    → TextCounted s text names → number < s.names → (TextInside s (entry_at names number) → ⊥) → claim_of number claim s text names ≡ Err (refusal.At reason.Outside number)

-- 13 for the counts
abbrev pub ThirteenOf : Type 0
ThirteenOf = (number : ℕ) (claim : List ℕ) (s : State) (text names : List ℕ)
    → (TextCounted s text names → ⊥) → claim_of number claim s text names ≡ Err (refusal.Plain reason.Outside)
