-- One token taken, judged or kept: what it asks for, and what a turn answers at a step.
use Rattle.std.specs.Prelude.{ℕ, ◌+◌, ◌-◌, ◌^◌, ◌≤◌, ◌<◌, Bool, List, ◌≡◌, length, Result, Option, Some, None, Ok, Err}
use Rattle.refusals.specs.declared.Reason.{Reason}
use Rattle.values.specs.Values.{Step}
use Rattle.refusals.specs.declared.Reason.TheVariants as reason
use Rattle.base.specs.Choice.{pick, either}
use Rattle.spans.specs.declared.Cursor.{Cursor}
use Rattle.block.specs.Block.{span_of, cursor_of}
use Rattle.block.specs.Streams.{type_stream}
use Rattle.tables.specs.Tables.{Table, row_room}
use Rattle.numbering.specs.declared.TokenType.{TokenType}
use Rattle.tokens.specs.declared.Token.{Token}
use Rattle.tokens.specs.Tokens.{bytes_of, length_of}
use Rattle.tokens.specs.Inside.{KeptBelow}
use Rattle.moving.specs.Moves.{Movable}
use Rattle.names.specs.Names.{printable}
use Rattle.names.specs.Keeps.{Memory, put_token}
use Rattle.taking.specs.declared.Place.{Place}

-- what a turn makes of a name: so many bytes longer, nothing at its END, or why it is refused
abbrev pub Turn : Type 0
Turn = Result (Option ℕ) Reason

-- where a turn stands: its position, the length so far, and where the text and the rows of the name begin
abbrev pub place_of : ℕ → ℕ → ℕ → ℕ → Place
place_of p len used row = record { p = record { 0 = p }; len = len; used = used; row = row }

-- its numbers within the limits
abbrev pub Placed : Place → Type 0
Placed at = ((1 ≤ at.p.0) × (at.p.0 ≤ 128)) × ((at.len ≤ 254) × ((at.used < 2 ^ 31) × (at.row < 2 ^ 31)))

-- a token that is kept was judged before
unfoldable pub taken : Bool → List ℕ → List ℕ → Token → ℕ → Bool
taken keeping bytes text t len = either keeping (printable (bytes_of bytes text t) len)

-- what a turn answers at a step: how many bytes the name is longer, its END, or the refusal
unfoldable pub turn_of : Bool → List ℕ → List ℕ → ℕ → Step → Turn
turn_of keeping bytes text len (Ok (Some (t, c))) = pick (taken keeping bytes text t len) (Ok (Some (length_of t))) (Err reason.BadName)
turn_of keeping bytes text len (Ok None) = Ok None
turn_of keeping bytes text len (Err r) = Err r

-- a token that can be kept: there is room for it, and a cursor has 32 bits
pub record Keepable (t : Token) (ty : TokenType) (p at row : ℕ) (cur text : List ℕ) (rows : Table) : Type 0 where
  pub below : KeptBelow at t
  pub bytes : at + length_of t ≤ length text
  pub table : row < row_room rows
  pub spans : length cur ≡ 1290
  pub typed : cursor_of cur (span_of p type_stream) + 1 < 2 ^ 32
  pub movable : Movable ty p cur

-- where a turn stands: behind the name's text and rows so far
abbrev pub KeepableAt : Place → Token → TokenType → List ℕ → List ℕ → Table → Type 0
KeepableAt at t ty cur text rows = Keepable t ty at.p.0 (at.used + at.len) (at.row + (at.p.0 - 1)) cur text rows

-- what a token puts down there, where the name is being kept
abbrev pub take_put : Bool → List ℕ → Token → TokenType → Cursor → Place → Memory → Memory
take_put keeping bytes t ty c at m = pick keeping (put_token bytes m t ty at.p.0 c.0 (at.used + at.len) (at.row + (at.p.0 - 1))) m
