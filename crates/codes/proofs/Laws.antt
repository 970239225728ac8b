-- A number has one code and one value.
use native.Mathlib.Omega.{arith}
use Rattle.codes.specs.Codes.{packed, PackedOne}

pub packed_one : PackedOne
unfolding packed
packed_one c v d w h k e = omega (arith, e)
