-- "done", and 10: what a read with k equal to the count finds.
use Rattle.std.specs.Prelude.{ℕ, ◌<◌, ◌≡◌, true, List, length, None, Ok, Err}
use Rattle.refusals.specs.declared.Reason.TheVariants as reason
use Rattle.refusals.specs.declared.Refusal.TheVariants as refusal
use Rattle.block.specs.Block.{sound, start_of, end_of, cursor_of, starts, state}
use Rattle.tables.specs.Tables.{Kept, keeping}
use Rattle.sources.specs.Source.{Source}
use Rattle.outcomes.specs.Outcomes.{outcome}
use Rattle.reads.specs.Reads.{read_of}
use Rattle.reading.specs.Blocks.{block_of}
use Rattle.demands.specs.Refusals.{Ready}

-- every cursor is at its end
abbrev pub AtEnd : List ℕ → List ℕ → Type 0
AtEnd dir cur = (j : ℕ) → j < 1290 → cursor_of cur j ≡ end_of dir j

-- "done" means that all names are read and every cursor is at its end
abbrev pub DoneMeans : Type 0
DoneMeans = (s : Source) (m : Kept) → (read_of s m).answer ≡ Ok None → (m.state.names ≡ m.state.count) × AtEnd s.dir s.cur

-- all names read and every cursor at its end: "done"
abbrev pub DoneWhen : Type 0
DoneWhen = (s : Source) (m : Kept) → Ready s m → m.state.names ≡ m.state.count → AtEnd s.dir s.cur → read_of s m ≡ outcome (Ok None) s.cur m

-- all names read while a cursor is short of its end: 10
abbrev pub TenWhen : Type 0
TenWhen =
    (s : Source) (m : Kept) → Ready s m → m.state.names ≡ m.state.count
    → (j : ℕ) → j < 1290 → (cursor_of s.cur j ≡ end_of s.dir j → ⊥) → read_of s m ≡ outcome (Err (refusal.Plain reason.Unread)) s.cur m

-- what is kept once a block of no names has opened
abbrev pub no_names : Kept → Kept
no_names m = keeping (state 0 0 0 0) m.text m.names m.rows

-- reading count 0 with empty spans is "done"
abbrev pub EmptyBlock : Type 0
EmptyBlock =
    (s : Source) (m : Kept) → sound (length s.bytes) s.dir s.cur ≡ true → ((j : ℕ) → j < 1290 → start_of s.dir j ≡ end_of s.dir j)
    → block_of s m 0 ≡ outcome (Ok None) (starts s.dir) (no_names m)

-- and with a span that isn't empty it is 10
abbrev pub UnreadBlock : Type 0
UnreadBlock =
    (s : Source) (m : Kept) → sound (length s.bytes) s.dir s.cur ≡ true → (j : ℕ) → j < 1290 → (start_of s.dir j ≡ end_of s.dir j → ⊥)
    → block_of s m 0 ≡ outcome (Err (refusal.Plain reason.Unread)) (starts s.dir) (no_names m)
