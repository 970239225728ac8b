use mathlib.Core.Path.{refl}
use Rattle.moving.specs.Moves.{value_past}
use Rattle.moving.proofs.move_value.Goals as goal

pub move_padded-requires : goal.move_padded-requires
move_padded-requires c = record {
  cursors_len = c.requires.cursors_len;
  dzlen_stream_bound = c.requires.movable c.in-Digits0.is;
}

pub returns-in-String : goal.returns-in-String
unfolding value_past
returns-in-String c = rw c.in-String.is c.move_to.ensures

pub returns-in-Char : goal.returns-in-Char
unfolding value_past
returns-in-Char c = rw c.in-Char.is c.move_to-in-Char.ensures

pub returns-in-Digits : goal.returns-in-Digits
unfolding value_past
returns-in-Digits c = rw c.in-Digits.is c.move_to-in-Digits.ensures

pub returns-in-Digits0 : goal.returns-in-Digits0
unfolding value_past
returns-in-Digits0 c = rw c.in-Digits0.is c.move_padded.ensures

pub returns-in-Delta : goal.returns-in-Delta
unfolding value_past
returns-in-Delta c = rw c.in-Delta.is c.move_to-in-Delta.ensures

pub returns-in-Delta0 : goal.returns-in-Delta0
unfolding value_past
returns-in-Delta0 c = rw c.in-Delta0.is c.move_to-in-Delta0.ensures

pub returns-in-Match : goal.returns-in-Match
unfolding value_past
returns-in-Match c = rw c.in-Match.is refl

pub returns-in-End : goal.returns-in-End
unfolding value_past
returns-in-End c = rw c.in-End.is refl

pub returns-in-Other : goal.returns-in-Other
unfolding value_past
returns-in-Other c = rw c.in-Other.is refl
