-- Rule 4 at the last position, which takes END alone.
use Rattle.std.specs.Prelude.{ℕ, Bool, true, false, eqb}
use Rattle.base.specs.Choice.{both}
use Rattle.numbering.specs.declared.TokenType.{TokenType}
use Rattle.numbering.specs.declared.TokenType.TheVariants as type

-- a type in the table other than END
unfoldable pub carries : TokenType → Bool
carries type.String = true
carries type.Char = true
carries type.Digits = true
carries type.Digits0 = true
carries type.Delta = true
carries type.Delta0 = true
carries type.Match = true
carries type.End = false
carries type.Other = false

-- 128 is the last position
abbrev pub is_last : ℕ → Bool
is_last p = eqb p 128

-- 7: at the last position, a type in the table other than END
unfoldable pub barred : ℕ → TokenType → Bool
barred p t = both (is_last p) (carries t)
