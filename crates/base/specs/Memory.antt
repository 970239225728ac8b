-- Lent memory as lists: a part of it, and what a write leaves.
use Rattle.std.specs.Prelude.{ℕ, ◌+◌, ◌-◌, List, ◌++◌, length, take, drop}

-- the elements from one place up to another
unfoldable pub part : List ℕ → ℕ → ℕ → List ℕ
part s from to = take (to - from) (drop from s)

-- s in the place of what stood from at on
unfoldable pub written : {A : Type 0} → List A → ℕ → List A → List A
written d at s = take at d ++ s ++ drop (at + length s) d
