-- The number of a verdict is the number by what its refusals are numbered as.
use mathlib.Core.Path.{◌≡◌, refl}
use Rattle.std.specs.Prelude.{Ok, Err}
use Rattle.claims.specs.Claims.{Claimed}
use Rattle.claims.specs.declared.Verdict.TheVariants as verdict
use Rattle.codes.specs.Codes.{refusal_number}
use Rattle.answers.specs.Answers.{verdict_number, verdict_by}

pub verdict_is : (v : Claimed) → verdict_by refusal_number v ≡ verdict_number v
unfolding verdict_number verdict_by
verdict_is (Ok verdict.Confirmed) = refl
verdict_is (Ok verdict.Denied) = refl
verdict_is (Err r) = refl
