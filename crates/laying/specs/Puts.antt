-- "Spans lie one after another in directory order with no gaps": what was put into each span, and the directory and bytes that it makes.
use Rattle.std.specs.Prelude.{ℕ, zero, suc, ◌+◌, List, [], ◌∷◌, ◌++◌, eqb, length}
use Rattle.base.specs.Choice.{pick}
use Rattle.base.specs.Memory.{written}

-- some bytes, put into a span
pub record Put : Type 0 where
  pub span : ℕ
  pub bytes : List ℕ

abbrev pub put : ℕ → List ℕ → Put
put k xs = record { span = k; bytes = xs }

-- what one put adds to span i
unfoldable pub share : Put → ℕ → List ℕ
share p i = pick (eqb i p.span) p.bytes []

-- what span i has: all that is put there, in order
unfoldable pub content_of : List Put → ℕ → List ℕ
content_of [] i = []
content_of (p ∷ ps) i = share p i ++ content_of ps i

-- the contents of n spans from span i on, one after another
unfoldable pub joined : (ℕ → List ℕ) → ℕ → ℕ → List ℕ
joined f i zero = []
joined f i (suc n) = f i ++ joined f (i + 1) n

-- where span i starts: behind all that the spans before it have
unfoldable pub start_in : List Put → ℕ → ℕ
start_in ps i = length (joined (content_of ps) 0 i)

-- a start and an end for each of the 1,290 spans
unfoldable pub table_of : (ℕ → ℕ) → (ℕ → ℕ) → List ℕ
table_of a b = joined (λ i. a i ∷ b i ∷ []) 0 1290

-- the end of a span is the start of the next
unfoldable pub directory_of : List Put → List ℕ
directory_of ps = table_of (start_in ps) (λ i. start_in ps (i + 1))

-- the total is the end of the last span
unfoldable pub total_of : List Put → ℕ
total_of ps = start_in ps 1290

-- the bytes up to the total, and no more
unfoldable pub bytes_of : List Put → List ℕ → List ℕ
bytes_of ps bytes = written bytes 0 (joined (content_of ps) 0 1290)
