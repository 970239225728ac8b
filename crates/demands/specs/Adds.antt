-- What a read that keeps a name adds, and that it alters nothing else.
use Rattle.std.specs.Prelude.{ℕ, ◌+◌, ◌*◌, ◌≤◌, ◌<◌, ◌≡◌, ◌⊎◌, List, length, get_or, Some, Ok}
use Rattle.base.specs.Memory.{part}
use Rattle.block.specs.Block.{cursor_of, state}
use Rattle.block.specs.Open.{Open}
use Rattle.block.specs.Streams.{dup_stream, diff_stream}
use Rattle.tables.specs.declared.Entry.{Entry}
use Rattle.tables.specs.Tables.{Table, entry_size, Kept, entry_at, row_room, row_at, unused_part}
use Rattle.sources.specs.Source.{Source}
use Rattle.outcomes.specs.Outcomes.{Outcome}
use Rattle.earlier.specs.Back.{entry_back}
use Rattle.reads.specs.Reads.{read_of}
use Rattle.claims.specs.Claims.{name_text}
use Rattle.demands.specs.Takes.{takes_from, head_takes}
use Rattle.demands.specs.Refusals.{Back}
use Rattle.demands.specs.Right.{Refers}

-- before a place, or from another one on
abbrev pub Outside : ℕ → ℕ → ℕ → Type 0
Outside a b j = (j < a) ⊎ (b ≤ j)

-- a table as it was but for the places from one to another
pub record Alike (before after : List ℕ) (from to : ℕ) : Type 0 where
  pub lengths : length after ≡ length before
  pub others : (j : ℕ) → Outside from to j → get_or after j 0 ≡ get_or before j 0

-- a table of rows as it was but for the rows from one to another: the room, the other rows, and what is too short for a row
pub record RowsAlike (before after : Table) (from to : ℕ) : Type 0 where
  pub room : row_room after ≡ row_room before
  pub others : (j : ℕ) → Outside from to j → row_at after j ≡ row_at before j
  pub unused : unused_part after ≡ unused_part before

-- the two kinds of names: the bytes of each, the rows it adds, what it takes from each span, and its entry.
-- A DUP has a distance from 1 to n, is the earlier name, adds no row, takes its type and distance, and has the earlier name's rows;
-- a DIFF has the rows that it adds, and takes its type and distance and its positions up to END, which are one more than its rows
pub data Kind (s : Source) (m : Kept) : List ℕ → ℕ → (ℕ → ℕ) → Entry → Type 0 where
  by_dup : (e : Entry) → Back m.state.names e.distance → e.first ≡ (entry_back m e.distance).first → e.rows ≡ (entry_back m e.distance).rows
      → Kind s m (name_text m.text (entry_back m e.distance)) 0 (head_takes dup_stream) e
  by_diff : (name : List ℕ) (rows : ℕ) (e : Entry) → e.first ≡ m.state.rows → e.rows ≡ rows
      → Kind s m name rows (λ j. head_takes diff_stream j + takes_from s 1 (rows + 1) j) e

pub record Adds (s : Source) (m : Kept) (number : ℕ) (o : Outcome) : Type 0 where
  -- the name's bytes, and how many rows it adds
  pub name : List ℕ
  pub rows : ℕ
  -- how many bytes it takes from each span
  pub taken : ℕ → ℕ
  -- its number is the old k; k grows by one, the count stays
  pub next : number ≡ m.state.names
  pub counts : o.kept.state ≡ state m.state.count (m.state.names + 1) (m.state.text + length name + 1) (m.state.rows + rows)
  -- the name and byte 10 stand where the used text ended
  pub text : Alike m.text o.kept.text m.state.text (m.state.text + length name + 1)
  pub written : part o.kept.text m.state.text (m.state.text + length name) ≡ name
  pub ended : get_or o.kept.text (m.state.text + length name) 0 ≡ 10
  -- its entry, and no other number of that table
  pub names : Alike m.names o.kept.names (entry_size * m.state.names) (entry_size * m.state.names + entry_size)
  pub starts : (entry_at o.kept.names number).start ≡ m.state.text
  pub long : (entry_at o.kept.names number).length ≡ length name
  pub refers : Refers number (entry_at o.kept.names number).distance
  -- its rows, and nothing else of that table
  pub table : RowsAlike m.rows o.kept.rows m.state.rows (m.state.rows + rows)
  -- each cursor moves by the bytes that the name took from its span, and stays inside it
  pub kind : Kind s m name rows taken (entry_at o.kept.names number)
  pub moves : (j : ℕ) → cursor_of o.cur j ≡ cursor_of s.cur j + taken j
  pub opened : Open s.bytes s.dir o.cur

-- a read that keeps a name adds it and alters nothing else
abbrev pub ReadAdds : Type 0
ReadAdds = (s : Source) (m : Kept) (i : ℕ) → (read_of s m).answer ≡ Ok (Some i) → Adds s m i (read_of s m)
