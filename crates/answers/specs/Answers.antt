-- The numbering of the answers of reads and claims: what each case is at the C boundary.
use Rattle.std.specs.Prelude.{ℕ, Some, None, Result, Ok, Err}
use Rattle.entries.specs.Entries.{Answer}
use Rattle.claims.specs.Claims.{Claimed}
use Rattle.claims.specs.declared.Verdict.{Verdict}
use Rattle.claims.specs.declared.Verdict.TheVariants as verdict
use Rattle.answers.specs.declared.Coded.{Coded}
use Rattle.codes.specs.Codes.{packed, refusal_number}

-- "done" carries k
unfoldable pub read_number : ℕ → Answer → ℕ
read_number k (Ok (Some n)) = packed 0 n
read_number k (Ok None) = packed 256 k
read_number k (Err r) = refusal_number r

unfoldable pub verdict_number : Claimed → ℕ
verdict_number (Ok verdict.Confirmed) = packed 0 1
verdict_number (Ok verdict.Denied) = packed 0 0
verdict_number (Err r) = refusal_number r

-- a refusal by its code and its name's number
abbrev pub coded_number : Coded → ℕ
coded_number c = packed c.code c.name

-- a verdict, whatever numbers its refusals have
unfoldable pub verdict_by : {R : Type 0} → (R → ℕ) → Result Verdict R → ℕ
verdict_by number (Ok verdict.Confirmed) = packed 0 1
verdict_by number (Ok verdict.Denied) = packed 0 0
verdict_by number (Err r) = number r
