-- From the verdict on a claim to what its export answers.
use Prim.Native.Nat.{ℕ}
use mathlib.Core.Path.{◌≡◌, ap, ◌∙◌}
use mathlib.Core.List.{List}
use Rattle.block.specs.declared.State.{State}
use Rattle.claims.specs.Claims.{Claimed, claim_of}
use Rattle.codes.specs.Codes.{state_in}
use Rattle.answers.specs.Answers.{verdict_number}
use Rattle.claimcalls.specs.Calls.{claim_call}

pub claim_call_law : (number : ℕ) (claim text names state : List ℕ) (k : State) {v : Claimed} {n : ℕ} → k ≡ state_in state → v ≡ claim_of number claim k text names
    → n ≡ verdict_number v → n ≡ claim_call number claim text names state
unfolding claim_call
claim_call_law number claim text names state k e f g = g ∙ ap verdict_number (f ∙ ap (λ (s : State). claim_of number claim s text names) e)
