-- C-11: any name may start afresh, by DIFF with distance 0, and then has no earlier name.
use Rattle.std.specs.Prelude.{ℕ, ◌≤◌, ◌<◌, ◌≡◌, Bool, true, false, List, ◌⊎◌, eqb, Some, Ok, Err}
use Rattle.refusals.specs.declared.Reason.TheVariants as reason
use Rattle.base.specs.Choice.{pick}
use Rattle.spans.specs.declared.Cursor.{Cursor}
use Rattle.refusals.specs.declared.Refusal.TheVariants as refusal
use Rattle.block.specs.Streams.{type_stream, diff_stream}
use Rattle.tables.specs.Tables.{Kept, entry_at, Table}
use Rattle.numbering.specs.declared.TokenType.{TokenType}
use Rattle.numbering.specs.declared.TokenType.TheVariants as type
use Rattle.numbering.specs.Types.{type_of}
use Rattle.sources.specs.Source.{Source, earlier, byte_in}
use Rattle.steps.specs.Steps.{step_at}
use Rattle.names.specs.Names.{name_of}
use Rattle.distances.specs.Distances.{dup_fits, diff_fits}
use Rattle.heads.specs.Heads.{head_past}
use Rattle.earlier.specs.Back.{none}
use Rattle.naming.specs.Naming.{diff_of}
use Rattle.reads.specs.Reads.{read_of}
use Rattle.distances.specs.declared.Reference.TheVariants.{Dup, Diff}
use Rattle.references.specs.References.{reference_of}
use Rattle.demands.specs.Refusals.{Ready, Heads, diff_in}

-- rule 2 for DIFF as document 01 has it: 0 for name 0, and what DUP needs for every later name
abbrev pub diff_fitted : ℕ → ℕ → Bool
diff_fitted d n = pick (eqb n 0) (eqb d 0) (dup_fits d n)

-- of rule 2 for DIFF nothing has moved but distance 0 of a later name
pub record OnlyAfresh : Type 0 where
  pub allowed : (n : ℕ) → 1 ≤ n → (diff_fits 0 n ≡ true) × (diff_fitted 0 n ≡ false)
  pub stays : (d n : ℕ) → (d ≡ 0 → n ≡ 0) → diff_fits d n ≡ diff_fitted d n

-- the writer never makes it: a later name is DUP 1 or DIFF 1
abbrev pub NeverWritten : Type 0
NeverWritten = (n : ℕ) (before s : List ℕ) → 1 ≤ n → (reference_of n before s ≡ Dup (record { 0 = 1 })) ⊎ (reference_of n before s ≡ Diff (record { 0 = 1 }))

-- the types that lean on an earlier name's row
pub data Leaning : TokenType → Type 0 where
  match : Leaning type.Match
  delta : Leaning type.Delta
  delta0 : Leaning type.Delta0

-- what a read comes to, there being a name to read, if that name starts afresh
pub record ReadsAfresh (s : Source) (m : Kept) : Type 0 where
  -- it is read by rule 4 with no earlier name
  pub reads : read_of s m ≡ diff_of s m 0 (none m)
  -- whose tokens are the same whatever is kept
  pub alike : (text : List ℕ) (rows : Table)
      → name_of s (none m) m.state.text (head_past s.cur diff_stream) ≡ name_of s (earlier text rows 0 0) m.state.text (head_past s.cur diff_stream)
  -- a step at MATCH, DDELTA or DDELTA0 is refused with 5, whether or not a delta's byte is there; at position 128 it is 7 as in every name
  pub fives : (p b : ℕ) (c : Cursor) → 1 ≤ p → p < 128 → byte_in s p type_stream ≡ Some (b, c) → Leaning (type_of s.rules.numbers b) → step_at s (none m) p ≡ Err reason.NoRow
  -- 4 isn't given, nor 13 for a name that is kept
  pub never_4 : (read_of s m).answer ≡ Err (refusal.At reason.BadDistance m.state.names) → ⊥
  pub never_13 : (read_of s m).answer ≡ Err (refusal.At reason.Outside m.state.names) → ⊥
  -- kept, it has none of these types among its tokens, and distance 0
  pub plain : (i : ℕ) → (read_of s m).answer ≡ Ok (Some i) → (p b : ℕ) (c : Cursor) → 1 ≤ p → p ≤ (entry_at (read_of s m).kept.names i).rows
      → byte_in s p type_stream ≡ Some (b, c) → Leaning (type_of s.rules.numbers b) → ⊥
  pub distance : (i : ℕ) → (read_of s m).answer ≡ Ok (Some i) → (entry_at (read_of s m).kept.names i).distance ≡ 0

abbrev pub StartsAfresh : Type 0
StartsAfresh =
    (s : Source) (m : Kept) → Ready s m → (m.state.names ≡ m.state.count → ⊥)
    → Heads s (diff_in s) diff_stream 0 → ReadsAfresh s m
