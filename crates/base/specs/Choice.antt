-- Choosing by a test, as the definitions of the format do. Its laws are in proofs/Choice: proofs use them and leave it shut.
use Rattle.std.specs.Prelude.{Bool, true, false}

-- the first where the test holds, else the second
unfoldable pub pick : {A : Type 0} → Bool → A → A → A
pick true a b = a
pick false a b = b

-- both tests hold
abbrev pub both : Bool → Bool → Bool
both a b = pick a b false

-- one of two tests holds
abbrev pub either : Bool → Bool → Bool
either a b = pick a true b
