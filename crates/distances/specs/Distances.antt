-- Which distances DUP and DIFF may have, and the head that each makes.
use Rattle.std.specs.Prelude.{ℕ, Bool, leb}
use Rattle.refusals.specs.declared.Reason.{Reason}
use Rattle.distances.specs.declared.Reference.{Reference}
use Rattle.std.specs.Prelude.{Result}
use Rattle.spans.specs.Spans.{Next}
use Rattle.std.specs.Prelude.{Some, None, Ok, Err}
use Rattle.refusals.specs.declared.Reason.TheVariants as reason
use Rattle.distances.specs.declared.Reference.TheVariants as reference
use Rattle.base.specs.Choice.{pick, both}

-- what position 0 says of a name, or why it is refused
abbrev pub Head : Type 0
Head = Result Reference Reason

-- rule 2: DUP needs a distance from 1 to n
abbrev pub dup_fits : ℕ → ℕ → Bool
dup_fits d n = both (leb 1 d) (leb d n)

-- DIFF needs a distance from 0 to n, 0 meaning no earlier name (C-11)
abbrev pub diff_fits : ℕ → ℕ → Bool
diff_fits d n = leb d n

unfoldable pub dup_head : ℕ → Next → Head
dup_head n (Some (d, c)) = pick (dup_fits d n) (Ok (reference.Dup (record { 0 = d }))) (Err reason.BadDistance)
dup_head n None = Err reason.Short

unfoldable pub diff_head : ℕ → Next → Head
diff_head n (Some (d, c)) = pick (diff_fits d n) (Ok (reference.Diff (record { 0 = d }))) (Err reason.BadDistance)
diff_head n None = Err reason.Short
