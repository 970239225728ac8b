-- How the names of a block stand in the kept tables.
use Rattle.std.specs.Prelude.{ℕ, ◌+◌, ◌-◌, ◌≤◌, ◌<◌, ◌≡◌, List, length, get_or, take}
use Rattle.base.specs.Memory.{part}
use Rattle.block.specs.Block.{end_of, cursor_of}
use Rattle.tables.specs.Tables.{Kept, entry_at, row_at}
use Rattle.words.specs.Fronts.{Spans}
use Rattle.words.specs.Values.{char, spelt, row_for, Name, nobody}

-- name i: its text is its tokens printed end to end, its distance the name's, and its rows are its tokens, each whole (kind, number, width,
-- and where its printed bytes stand and how many there are), one behind the other where the used text has the same bytes: the name's own text,
-- or that of the name it is a copy of
pub record Stands (m : Kept) (i : ℕ) (n : Name) : Type 0 where
  pub text : part m.text (entry_at m.names i).start ((entry_at m.names i).start + (entry_at m.names i).length) ≡ spelt n.tokens
  pub long : (entry_at m.names i).length ≡ length (spelt n.tokens)
  pub distance : (entry_at m.names i).distance ≡ n.distance
  pub many : (entry_at m.names i).rows ≡ length n.tokens
  pub home : ℕ
  pub inside : home + length (spelt n.tokens) ≤ m.state.text
  pub there : part m.text home (home + length (spelt n.tokens)) ≡ spelt n.tokens
  pub rows : (j : ℕ) → j < length n.tokens
      → row_at m.rows ((entry_at m.names i).first + j) ≡ row_for (get_or n.tokens j (char 0)) (home + length (spelt (take j n.tokens)))

-- the bytes left to each span are those from its cursor to its end
abbrev pub Left : List ℕ → List ℕ → List ℕ → Spans → Type 0
Left bytes dir cur left = (j : ℕ) → j < 1290 → left j ≡ part bytes (cursor_of cur j) (end_of dir j)

-- the names read so far, the newest first, are those that are kept
pub record Tells (bytes dir cur : List ℕ) (m : Kept) (before : List Name) (spans : Spans) : Type 0 where
  pub many : length before ≡ m.state.names
  pub each : (i : ℕ) → i < m.state.names → Stands m i (get_or before (m.state.names - 1 - i) nobody)
  pub left : Left bytes dir cur spans
