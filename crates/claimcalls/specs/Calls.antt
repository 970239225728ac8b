-- What an exported claim answers.
use Rattle.std.specs.Prelude.{ℕ, List}
use Rattle.claims.specs.Claims.{claim_of}
use Rattle.codes.specs.Codes.{state_in}
use Rattle.answers.specs.Answers.{verdict_number}

-- a claim leaves all as it was: nothing is lent to it to be written
unfoldable pub claim_call : ℕ → List ℕ → List ℕ → List ℕ → List ℕ → ℕ
claim_call number claim text names state = verdict_number (claim_of number claim (state_in state) text names)
