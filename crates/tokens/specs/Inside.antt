-- What is known of a token that a step gave: where its bytes lie, and how large its numbers are.
use Rattle.std.specs.Prelude.{ℕ, ◌^◌, ◌≤◌, ◌<◌, ◌≡◌, true, List, length}
use Rattle.base.specs.Choice.{pick}
use Rattle.digits.specs.Digits.{fits_width}
use Rattle.tokens.specs.declared.Token.{Token}
use Rattle.tokens.specs.declared.Token.TheVariants.{String, Char, Digits, Digits0}

-- a STRING lies inside the bytes, or inside the kept text; a number has 32 bits, and fits its width if it has one
abbrev pub Inside : List ℕ → List ℕ → Token → Type 0
Inside bytes text (String t) = (t.start ≤ t.end) × (t.end ≤ length (pick t.kept text bytes))
Inside bytes text (Char b) = b < 256
Inside bytes text (Digits n) = n < 2 ^ 32
Inside bytes text (Digits0 p) = (p.number < 2 ^ 32) × ((fits_width p.number p.width ≡ true) × (p.width ≤ 255))

-- a STRING of the kept text ends at or below a place of it
abbrev pub KeptBelow : ℕ → Token → Type 0
KeptBelow u (String t) = t.kept ≡ true → t.end ≤ u
KeptBelow u (Char b) = Unit
KeptBelow u (Digits n) = Unit
KeptBelow u (Digits0 p) = Unit
