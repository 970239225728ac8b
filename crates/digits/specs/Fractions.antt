-- Fractions that numbers are printed from. They stand between the printers' own functions: no contract that a caller sees
-- speaks of them.
use Rattle.std.specs.Prelude.{ℕ, ◌*◌, ◌/◌, ◌%◌, ◌^◌, ◌≤◌, ◌<◌, ◌≡◌}

-- the parts that a whole has
abbrev pub whole : ℕ
whole = 2 ^ 60

-- the number that the first w digits of a fraction of f parts say
abbrev pub leading : ℕ → ℕ → ℕ
leading f w = f * 10 ^ w / whole

-- where w digits of n are left, f parts begin with what comes next: with these digits if they are ten or fewer, else with 0
pub record Begins (n w f : ℕ) : Type 0 where
  pub parts : f < whole
  pub digits : w ≤ 10 → leading f w ≡ n % 10 ^ w
  pub zeros : 10 < w → f ≡ 0
