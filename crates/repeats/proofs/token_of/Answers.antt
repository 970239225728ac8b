use native.Mathlib.Omega.{arith}
use Rattle.repeats.proofs.Ways.{repeats_string, repeats_char, repeats_padded, repeats_digits}
use Rattle.repeats.proofs.token_of.Goals as goal

pub bounds-text-i : goal.bounds-text-i
bounds-text-i c = omega (arith, c.requires.ends, c.requires.kind.char c.in-2.is)

pub returns-in-1 : goal.returns-in-1
returns-in-1 c = repeats_string _ _ c.in-1.is

pub returns-in-2 : goal.returns-in-2
returns-in-2 c = repeats_char _ _ c.in-2.is

pub returns-in-4 : goal.returns-in-4
returns-in-4 c = repeats_padded _ _ c.in-4.is

pub returns-in_default : goal.returns-in_default
returns-in_default c = let r = c.in_default.in_default-own.rest in repeats_digits _ _ r.0.0.1 r.0.1 r.1
