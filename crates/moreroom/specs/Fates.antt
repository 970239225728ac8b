-- All that room decides, over names of both kinds. Once a name's tokens are read, a read gives the refusal that they met; else it keeps the name, if there is
-- room for it; else 9 comes last. C-18 of one name is said of this, so that a doubter can alter it and see that fall (must-fail/); that rules 3 and 4, as they
-- stand, end in it is `NamesSo`, `CopiesSo`.
use Rattle.std.specs.Prelude.{ℕ, ◌+◌, ◌≡◌, Bool, List, [], length}
use Rattle.refusals.specs.declared.Reason.TheVariants as reason
use Rattle.base.specs.Choice.{pick}
use Rattle.base.specs.Memory.{part}
use Rattle.block.specs.Streams.{dup_stream}
use Rattle.tables.specs.declared.Entry.{Entry}
use Rattle.tables.specs.Tables.{Kept}
use Rattle.kept.specs.Inside.{Counted}
use Rattle.sources.specs.Source.{Source}
use Rattle.names.specs.Names.{Draft, draft, Named, named, refused}
use Rattle.entries.specs.Entries.{room_of}
use Rattle.outcomes.specs.Outcomes.{Outcome, at_name}
use Rattle.outcomes.specs.Keeping.{kept}
use Rattle.heads.specs.Heads.{head_past}
use Rattle.copying.specs.Copies.{dup_of}
use Rattle.naming.specs.Naming.{named_of}
use Rattle.moreroom.specs.Runs.{Larger, SameUsed, Further}

-- room for the bytes of a name, its entry and the rows that it adds
unfoldable pub fits : Kept → Draft → Bool
fits m x = room_of m (length x.text) x.count

unfoldable pub fate_of : Source → Kept → Named → ℕ → ℕ → ℕ → Outcome
fate_of s m (refused r) first rows distance = at_name s m r
fate_of s m (named x) first rows distance = pick (fits m x) (kept m x first rows distance) (at_name s m reason.NoRoom)

-- how many rows a name adds
unfoldable pub count_of : Named → ℕ
count_of (named x) = x.count
count_of (refused r) = 0

-- rule 4 ends in the fate of the name that is read
abbrev pub NamesSo : Type 0
NamesSo = (s : Source) (m : Kept) (d : ℕ) (n : Named) → named_of s m d n ≡ fate_of s m n m.state.rows (count_of n) d

-- the name that a DUP copies
abbrev pub copy_of : Source → List ℕ → Entry → Named
copy_of s text e = named (draft (part text e.start (e.start + e.length)) [] 0 (head_past s.cur dup_stream))

-- rule 3 ends in the fate of the copy
abbrev pub CopiesSo : Type 0
CopiesSo = (s : Source) (m : Kept) (d : ℕ) (e : Entry) → dup_of s m d e ≡ fate_of s m (copy_of s m.text e) e.first e.rows d

-- C-18 of one name, which has a row for each that it counts: over two memories in which the same is used, the second with at least as much room,
-- its fate is the same; or 9 in the first, and in the second it is kept
abbrev pub FateFurther : Type 0
FateFurther =
    (s : Source) (m w : Kept) (n : Named) (first rows distance : ℕ) → Counted m → Counted w → ((x : Draft) → n ≡ named x → length x.rows ≡ x.count)
    → SameUsed m w → Larger m w → Further (fate_of s m n first rows distance) (fate_of s w n first rows distance)
