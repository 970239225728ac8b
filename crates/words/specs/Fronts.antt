-- What is left of a block's spans, and what is taken from the front of one.
use Rattle.std.specs.Prelude.{ℕ, ◌+◌, ◌*◌, List, [], ◌∷◌, eqb}
use Rattle.refusals.specs.declared.Reason.{Reason}
use Rattle.refusals.specs.declared.Reason.TheVariants as reason
use Rattle.base.specs.Choice.{pick}

-- the bytes left to each span
abbrev pub Spans : Type 0
Spans = ℕ → List ℕ

-- span i with other bytes left, the rest as it is
unfoldable pub leave : Spans → ℕ → List ℕ → Spans
leave spans i bytes j = pick (eqb j i) bytes (spans j)

-- what is at the front of a span, and the bytes behind it; or the span ends before
pub data Front (A : Type 0) : Type 0 where
  front : A → List ℕ → Front A
  short : Front A

-- one byte
unfoldable pub byte : List ℕ → Front ℕ
byte [] = short
byte (b ∷ l) = front b l

-- four bytes as a number, the low byte first
unfoldable pub four : List ℕ → Front ℕ
four [] = short
four (a ∷ []) = short
four (a ∷ b ∷ []) = short
four (a ∷ b ∷ c ∷ []) = short
four (a ∷ b ∷ c ∷ d ∷ l) = front (a + 256 * b + 65536 * c + 16777216 * d) l

-- the text up to a zero byte, which is dropped
unfoldable pub longer : ℕ → Front (List ℕ) → Front (List ℕ)
longer b (front t l) = front (b ∷ t) l
longer b short = short

unfoldable pub text : List ℕ → Front (List ℕ)
text [] = short
text (b ∷ l) = pick (eqb b 0) (front [] l) (longer b (text l))

-- what reading something gives: the thing and what is then left of the spans, or a refusal
pub data Said (A : Type 0) : Type 0 where
  said : A → Spans → Said A
  refused : Reason → Said A

-- and then, with that thing and those spans
unfoldable pub then : {A B : Type 0} → Said A → (A → Spans → Said B) → Said B
then (said a spans) next = next a spans
then (refused r) next = refused r

-- 2: a span ends before what is wanted
unfoldable pub taken : {A : Type 0} → Spans → ℕ → Front A → Said A
taken spans i (front a l) = said a (leave spans i l)
taken spans i short = refused reason.Short

-- a byte, four bytes or a text from span i
abbrev pub from : {A : Type 0} → (List ℕ → Front A) → Spans → ℕ → Said A
from want spans i = taken spans i (want (spans i))
