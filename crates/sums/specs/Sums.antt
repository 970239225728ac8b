-- Rule 4, the deltas: one byte added to a number of the earlier name. 2 is judged before 6.
use Rattle.std.specs.Prelude.{ℕ, ◌+◌, ◌^◌, ltb}
use Rattle.spans.specs.Spans.{Next}
use Rattle.values.specs.Values.{Step}
use Rattle.std.specs.Prelude.{Some, None, Ok, Err}
use Rattle.refusals.specs.declared.Reason.TheVariants as reason
use Rattle.base.specs.Choice.{pick}
use Rattle.tokens.specs.declared.Token.TheVariants.{Digits}
use Rattle.values.specs.Values.{padded_step}

-- 11 DDELTA: one byte added to the earlier name's DIGITS row at this position; result is DIGITS, below 2^32
unfoldable pub delta_step : ℕ → Next → Step
delta_step n (Some (d, c)) = pick (ltb (n + d) (2 ^ 32)) (Ok (Some (Digits (n + d), c))) (Err reason.BadNumber)
delta_step n None = Err reason.Short

-- 12 DDELTA0: the same for a DIGITS0 row; width kept, result must fit it
unfoldable pub delta0_step : ℕ → ℕ → Next → Step
delta0_step n w (Some (d, c)) = pick (ltb (n + d) (2 ^ 32)) (padded_step (n + d) w c) (Err reason.BadNumber)
delta0_step n w None = Err reason.Short
