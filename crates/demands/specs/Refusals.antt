-- What opening, writing and a read come to, each case with its cause. The causes leave none out, and no two that come to different outcomes hold together:
-- of each table it is said below it that the outcome has its cause, and that the cause gives the outcome.
use Rattle.std.specs.Prelude.{ℕ, ◌-◌, ◌+◌, ◌≤◌, ◌<◌, ◌≡◌, true, false, List, [], length, get_or, Some, None, Ok, Err}
use Rattle.refusals.specs.Refusals.{number_of}
use Rattle.refusals.specs.declared.Reason.{Reason}
use Rattle.refusals.specs.declared.Reason.TheVariants as reason
use Rattle.base.specs.Memory.{part}
use Rattle.spans.specs.declared.Cursor.{Cursor}
use Rattle.refusals.specs.declared.Refusal.{Refusal}
use Rattle.refusals.specs.declared.Refusal.TheVariants as refusal
use Rattle.block.specs.Block.{Opening, opening, open_of, sound, starts, state, all_inside, all_at_end}
use Rattle.block.specs.Open.{Open}
use Rattle.block.specs.Streams.{type_stream, dup_stream, diff_stream}
use Rattle.tables.specs.Tables.{Kept}
use Rattle.kept.specs.Judgement.{counts, earlier_fits}
use Rattle.kept.specs.Inside.{Counted, EntryInside}
use Rattle.numbering.specs.Types.{Rules}
use Rattle.sources.specs.Source.{Source, Earlier, byte_in, four_in}
use Rattle.names.specs.Names.{Draft, draft, named, name_of}
use Rattle.outcomes.specs.Outcomes.{Outcome, outcome}
use Rattle.outcomes.specs.Keeping.{room_for, kept}
use Rattle.heads.specs.Heads.{head_past}
use Rattle.earlier.specs.Back.{rows_of, none, entry_back}
use Rattle.reads.specs.Reads.{read_of}
use Rattle.laying.specs.Puts.{total_of, directory_of, bytes_of}
use Rattle.inputs.specs.Inputs.{names_of, ended, good_name}
use Rattle.nameputs.specs.NamePuts.{puts_of}
use Rattle.writing.specs.Writes.{Writing, writing, write_of}
use Rattle.demands.specs.Stops.{Reached, Stop}

-- opening: 1, 12
pub data OpenCase (len : ℕ) (dir : List ℕ) (count : ℕ) (cur : List ℕ) : Opening → Type 0 where
  opens_1 : sound len dir cur ≡ false → OpenCase len dir count cur (opening (Err (refusal.Plain reason.Unsound)) cur)
  opens_12 : sound len dir cur ≡ true → 65536 < count → OpenCase len dir count cur (opening (Err (refusal.Plain reason.BadCount)) cur)
  opens : sound len dir cur ≡ true → count ≤ 65536 → OpenCase len dir count cur (opening (Ok (state count 0 0 0)) (starts dir))

-- what opening comes to has its cause
abbrev pub OpenHasCase : Type 0
OpenHasCase = (len : ℕ) (dir : List ℕ) (count : ℕ) (cur : List ℕ) → OpenCase len dir count cur (open_of len dir count cur)

-- and the cause gives what opening comes to
abbrev pub CaseOpens : Type 0
CaseOpens = (len : ℕ) (dir : List ℕ) (count : ℕ) (cur : List ℕ) (o : Opening) → OpenCase len dir count cur o → open_of len dir count cur ≡ o

-- no more names than 65,536, the last one with its byte 10
abbrev pub Countable : List ℕ → Type 0
Countable input = (ended input ≡ true) × (length (names_of input) ≤ 65536)

-- name n is the first bad one
pub record FirstBad (names : List (List ℕ)) (n : ℕ) : Type 0 where
  pub there : n < length names
  pub bad : good_name (get_or names n []) ≡ false
  pub before : (i : ℕ) → i < n → good_name (get_or names i []) ≡ true

-- no name is bad
abbrev pub AllGood : List (List ℕ) → Type 0
AllGood names = (i : ℕ) → i < length names → good_name (get_or names i []) ≡ true

-- writing: wrong directory length 1, then 12, the first bad name's 8, then 9
pub data WriteCase (rules : Rules) (input dir bytes : List ℕ) : Writing → Type 0 where
  writes_1 : (length dir ≡ 2580 → ⊥) → WriteCase rules input dir bytes (writing (Err (refusal.Plain reason.Unsound)) dir bytes)
  writes_12 : length dir ≡ 2580 → (Countable input → ⊥) → WriteCase rules input dir bytes (writing (Err (refusal.Plain reason.BadCount)) dir bytes)
  writes_8 : (n : ℕ) → length dir ≡ 2580 → Countable input → FirstBad (names_of input) n → WriteCase rules input dir bytes (writing (Err (refusal.At reason.BadName n)) dir bytes)
  writes_9 : length dir ≡ 2580 → Countable input → AllGood (names_of input) → length bytes < total_of (puts_of rules (names_of input))
      → WriteCase rules input dir bytes (writing (Err (refusal.Plain reason.NoRoom)) dir bytes)
  writes : length dir ≡ 2580 → Countable input → AllGood (names_of input) → total_of (puts_of rules (names_of input)) ≤ length bytes
      → WriteCase rules input dir bytes
      (writing (Ok (record { names = length (names_of input); bytes = total_of (puts_of rules (names_of input)) })) (directory_of (puts_of rules (names_of input))) (bytes_of (puts_of rules (names_of input)) bytes))

-- what writing comes to has its cause
abbrev pub WriteHasCase : Type 0
WriteHasCase = (rules : Rules) (input dir bytes : List ℕ) → WriteCase rules input dir bytes (write_of rules input dir bytes)

-- and the cause gives what writing comes to
abbrev pub CaseWrites : Type 0
CaseWrites = (rules : Rules) (input dir bytes : List ℕ) (w : Writing) → WriteCase rules input dir bytes w → write_of rules input dir bytes ≡ w

-- spans, counts and cursors are sound
pub record Ready (s : Source) (m : Kept) : Type 0 where
  pub opened : Open s.bytes s.dir s.cur
  pub counts : Counted m

-- DUP's number in a block, and DIFF's
abbrev pub dup_in : Source → ℕ
dup_in s = s.rules.numbers.dup

abbrev pub diff_in : Source → ℕ
diff_in s = s.rules.numbers.diff

-- DUP and DIFF, and the streams of their distances
pub data IsHead (s : Source) : ℕ → ℕ → Type 0 where
  is_dup : IsHead s (dup_in s) dup_stream
  is_diff : IsHead s (diff_in s) diff_stream

-- position 0 gives this type, and its stream this distance
pub record Heads (s : Source) (t i d : ℕ) : Type 0 where
  pub past : Cursor
  pub behind : Cursor
  pub type : byte_in s 0 type_stream ≡ Some (t, past)
  pub distance : four_in s 0 i ≡ Some (d, behind)

-- rule 2 for DUP, and for DIFF with an earlier name
abbrev pub Back : ℕ → ℕ → Type 0
Back n d = (1 ≤ d) × (d ≤ n)

-- rule 2: which distances name n may have with which type; DIFF 0 of every name by C-11
pub data Rule2 (s : Source) (n t d : ℕ) : Type 0 where
  dup_back : t ≡ dup_in s → Back n d → Rule2 s n t d
  diff_none : t ≡ diff_in s → d ≡ 0 → Rule2 s n t d
  diff_back : t ≡ diff_in s → Back n d → Rule2 s n t d

-- what position 0 is refused for: no type, another type, no distance, or one outside rule 2
pub data HeadStop (s : Source) (n : ℕ) : Reason → Type 0 where
  no_type : byte_in s 0 type_stream ≡ None → HeadStop s n reason.Short
  no_head : (t : ℕ) (c : Cursor) → byte_in s 0 type_stream ≡ Some (t, c) → (t ≡ dup_in s → ⊥) → (t ≡ diff_in s → ⊥) → HeadStop s n reason.UnknownType
  no_distance : (t i : ℕ) (c : Cursor) → byte_in s 0 type_stream ≡ Some (t, c) → IsHead s t i → four_in s 0 i ≡ None → HeadStop s n reason.Short
  off_rule : (t i d : ℕ) → Heads s t i d → IsHead s t i → (Rule2 s n t d → ⊥) → HeadStop s n reason.BadDistance

-- the rows that a DIFF goes by: none where its distance is 0 (C-11), else those of the name so far back, whose entry and rows all point inside
pub data Leans (s : Source) (m : Kept) : ℕ → Earlier → Type 0 where
  on_none : Heads s (diff_in s) diff_stream 0 → Leans s m 0 (none m)
  on_earlier : (d : ℕ) → Heads s (diff_in s) diff_stream d → Back m.state.names d → EntryInside m.state m.rows (entry_back m d) → Leans s m d (rows_of m (entry_back m d))

-- how a name comes about, by rule 3 or 4: its text, rows and cursors, its first row, number of rows and distance
pub data Origin (s : Source) (m : Kept) : Draft → ℕ → ℕ → ℕ → Type 0 where
  copied : (d : ℕ) → Heads s (dup_in s) dup_stream d → Back m.state.names d → EntryInside m.state m.rows (entry_back m d)
      → Origin s m (draft (part m.text (entry_back m d).start ((entry_back m d).start + (entry_back m d).length)) [] 0 (head_past s.cur dup_stream)) (entry_back m d).first (entry_back m d).rows d
  walked : (x : Draft) (d : ℕ) (e : Earlier) → Leans s m d e → name_of s e m.state.text (head_past s.cur diff_stream) ≡ named x → Origin s m x m.state.rows x.count d

-- why the name being read is refused: its head; 13, after 4, for the earlier name's entry or rows, for DUP too;
-- where its tokens stop and why (2, 3, 5 to 8, specs/Stops); and last, the name itself being fine, 9
pub data NameRefused (s : Source) (m : Kept) : Reason → Type 0 where
  by_head : (r : Reason) → HeadStop s m.state.names r → NameRefused s m r
  by_memory : (t i d : ℕ) → Heads s t i d → IsHead s t i → Back m.state.names d → earlier_fits m (m.state.names - d) ≡ false → NameRefused s m reason.Outside
  by_token : (r : Reason) (d p len : ℕ) (e : Earlier) → Leans s m d e → Reached s e p len → Stop s e p len r → NameRefused s m r
  by_room : (x : Draft) (first rows d : ℕ) → Origin s m x first rows d → room_for m x ≡ false → NameRefused s m reason.NoRoom

-- why a read is refused: 1; 13 for the counts and cursors; 10; then the name
pub data Why (s : Source) (m : Kept) : Refusal → Type 0 where
  unsound : sound (length s.bytes) s.dir s.cur ≡ false → Why s m (refusal.Plain reason.Unsound)
  uncounted : sound (length s.bytes) s.dir s.cur ≡ true → counts m ≡ false → Why s m (refusal.Plain reason.Outside)
  outside : sound (length s.bytes) s.dir s.cur ≡ true → counts m ≡ true → all_inside s.dir s.cur ≡ false → Why s m (refusal.Plain reason.Outside)
  unread : Ready s m → m.state.names ≡ m.state.count → all_at_end s.dir s.cur ≡ false → Why s m (refusal.Plain reason.Unread)
  unnamed : (r : Reason) → Ready s m → (m.state.names ≡ m.state.count → ⊥) → NameRefused s m r → Why s m (refusal.At r m.state.names)

-- a read
pub data ReadCase (s : Source) (m : Kept) : Outcome → Type 0 where
  refuses : (r : Refusal) → Why s m r → ReadCase s m (outcome (Err r) s.cur m)
  ends : Ready s m → m.state.names ≡ m.state.count → all_at_end s.dir s.cur ≡ true → ReadCase s m (outcome (Ok None) s.cur m)
  keeps : (x : Draft) (first rows d : ℕ) → Ready s m → (m.state.names ≡ m.state.count → ⊥) → Origin s m x first rows d → room_for m x ≡ true
      → ReadCase s m (kept m x first rows d)

-- what a read comes to has its cause
abbrev pub ReadHasCase : Type 0
ReadHasCase = (s : Source) (m : Kept) → ReadCase s m (read_of s m)

-- and the cause gives what a read comes to
abbrev pub CaseReads : Type 0
CaseReads = (s : Source) (m : Kept) (o : Outcome) → ReadCase s m o → read_of s m ≡ o

-- the number that goes with a read's refusal is that of the name being read
abbrev pub CarriesNumber : Type 0
CarriesNumber = (s : Source) (m : Kept) (r : Reason) (n : ℕ) → (read_of s m).answer ≡ Err (refusal.At r n) → n ≡ m.state.names

-- the reasons that the walk over a name's tokens can refuse for: 2, 3 and 5 to 8
abbrev pub ByToken : Reason → Type 0
ByToken r = (2 ≤ number_of r) × ((number_of r ≤ 8) × (number_of r ≡ 4 → ⊥))

-- the reasons that the rules and the room can refuse for: 2 to 9
abbrev pub ByRule : Reason → Type 0
ByRule r = (2 ≤ number_of r) × (number_of r ≤ 9)
