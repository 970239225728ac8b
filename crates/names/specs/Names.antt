-- "How one name is read", rule 4: position after position, with 8 judged at each token.
use Rattle.std.specs.Prelude.{ℕ, zero, suc, ◌+◌, Bool, List, [], ◌∷◌, ◌++◌, leb, eqb, length, Result, Some, None, Ok, Err}
use Rattle.refusals.specs.declared.Reason.{Reason}
use Rattle.names.specs.declared.Size.{Size}
use Rattle.spans.specs.Spans.{Next}
use Rattle.values.specs.Values.{Step}
use Rattle.refusals.specs.declared.Reason.TheVariants as reason
use Rattle.base.specs.Choice.{pick, both}
use Rattle.classes.specs.Classes.{all_allowed}
use Rattle.block.specs.Block.{span_of}
use Rattle.block.specs.Streams.{type_stream}
use Rattle.tables.specs.declared.Row.{Row}
use Rattle.numbering.specs.declared.TokenType.{TokenType}
use Rattle.numbering.specs.declared.TokenType.TheVariants as type
use Rattle.tokens.specs.declared.Token.{Token}
use Rattle.numbering.specs.Types.{Numbers, type_of}
use Rattle.tokens.specs.Tokens.{bytes_of, row_of}
use Rattle.sources.specs.Source.{Source, Earlier, byte_in}
use Rattle.steps.specs.Steps.{step_at}
use Rattle.moving.specs.Moves.{past, value_past}

-- what is judged of a name: how many rows and bytes it has, or why it is refused
abbrev pub Judged : Type 0
Judged = Result Size Reason

-- a name as far as it is read, `used` bytes of text being kept before it: its text, its rows and how many, and the cursors moved past its bytes
pub record Draft : Type 0 where
  pub text : List ℕ
  pub rows : List Row
  pub count : ℕ
  pub cur : List ℕ

abbrev pub draft : List ℕ → List Row → ℕ → List ℕ → Draft
draft t r n c = record { text = t; rows = r; count = n; cur = c }

-- a name read to its END, or the first refusal on the way
pub data Named : Type 0 where
  named : Draft → Named
  refused : Reason → Named

-- the type at a position
unfoldable pub type_in : Numbers → Next → TokenType
type_in n (Some (b, c)) = type_of n b
type_in n None = type.Other

abbrev pub type_at : Source → ℕ → TokenType
type_at s p = type_in s.rules.numbers (byte_in s p type_stream)

-- with one token more
unfoldable pub grown : Source → Earlier → ℕ → ℕ → Token → ℕ → Draft → Draft
grown s e used p t c d = draft
    (d.text ++ bytes_of s.bytes e.text t)
    (d.rows ++ (row_of t (used + length d.text) ∷ []))
    (d.count + 1)
    (value_past (type_at s p) p c (past d.cur (span_of p type_stream) 1))

-- with its END
unfoldable pub ended : ℕ → Draft → Draft
ended p d = draft d.text d.rows d.count (past d.cur (span_of p type_stream) 1)

-- 8: a byte SAM doesn't allow, a running length above 254
unfoldable pub printable : List ℕ → ℕ → Bool
printable bytes before = both (all_allowed bytes) (leb (before + length bytes) 254)

-- what a step makes of the name so far; `rest` goes on from the next position
unfoldable pub onward : Source → Earlier → ℕ → ℕ → Draft → Step → (Draft → Named) → Named
onward s e used p d (Ok (Some (t, c))) rest =
    pick (printable (bytes_of s.bytes e.text t) (length d.text)) (rest (grown s e used p t c.0 d)) (refused reason.BadName)
onward s e used p d (Ok None) rest = pick (eqb (length d.text) 0) (refused reason.BadName) (named (ended p d))
onward s e used p d (Err r) rest = refused r

-- from position p on, f positions at most
unfoldable pub name_from : Source → Earlier → ℕ → ℕ → ℕ → Draft → Named
name_from s e used zero p d = refused reason.NotEnd
name_from s e used (suc f) p d = onward s e used p d (step_at s e p) (name_from s e used f (p + 1))

-- positions 1 to 128
unfoldable pub name_of : Source → Earlier → ℕ → List ℕ → Named
name_of s e used cur = name_from s e used 128 1 (draft [] [] 0 cur)
