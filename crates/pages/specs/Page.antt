-- A page: a lent buffer, and how far it is written.
use Rattle.std.specs.Prelude.{ℕ, ◌+◌, ◌≤◌, List, length}
use Rattle.base.specs.Memory.{written}

pub record Page : Type 0 where
  pub out : List ℕ
  pub at : ℕ

abbrev pub page : List ℕ → ℕ → Page
page out at = record { out = out; at = at }

-- a text behind what is written
unfoldable pub said : List ℕ → Page → Page
said text w = page (written w.out w.at text) (w.at + length text)

-- there is room for a text
abbrev pub HasRoom : List ℕ → Page → Type 0
HasRoom text w = w.at + length text ≤ length w.out
