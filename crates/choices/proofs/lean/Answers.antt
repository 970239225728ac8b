use Rattle.choices.specs.Choices.{lean}
use Rattle.choices.proofs.lean.Goals as goal

pub lean_string-requires : goal.lean_string-requires
lean_string-requires c =
    let w = rw c.in-String.is at c.requires.within in record {
      a_le_e = w;
      within = c.requires.within_2;
    }

pub returns-in-String : goal.returns-in-String
unfolding lean
returns-in-String c = rw c.in-String.is c.lean_string.ensures

pub returns-in-Char : goal.returns-in-Char
unfolding lean
returns-in-Char c = rw c.in-Char.is c.lean_char.ensures

pub returns-in-Digits : goal.returns-in-Digits
unfolding lean
returns-in-Digits c = rw c.in-Digits.is c.lean_digits.ensures

pub returns-in-Digits0 : goal.returns-in-Digits0
unfolding lean
returns-in-Digits0 c = rw c.in-Digits0.is c.lean_digits0.ensures
