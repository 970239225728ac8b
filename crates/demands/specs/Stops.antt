-- Why a name is refused inside (2, 3 and 5 to 8), each case a sentence: the position that its tokens came to, what stands there and what is missing.
-- The order of judgement is in what each asks for. 3 and 7 look at the type alone, and whatever looks at a row or a value asks for a position before 128;
-- 2 and 6 of a delta ask for the row that 5 misses, 6 for the values that 2 misses, and 8 for a token or END. So no two with different numbers hold together.
use Rattle.std.specs.Prelude.{ℕ, ◌+◌, ◌^◌, ◌≤◌, ◌<◌, ◌≡◌, true, false, List, ◌⊎◌, length, Some, None, Ok}
use Rattle.refusals.specs.declared.Reason.{Reason}
use Rattle.refusals.specs.declared.Reason.TheVariants as reason
use Rattle.classes.specs.Classes.{all_allowed}
use Rattle.spans.specs.declared.Cursor.{Cursor}
use Rattle.block.specs.Streams.{type_stream, string_stream, char_stream, digits0_stream, dzlen_stream, digits_stream, ddelta_stream, ddelta0_stream}
use Rattle.numbering.specs.declared.TokenType.{TokenType}
use Rattle.numbering.specs.declared.TokenType.TheVariants as type
use Rattle.tokens.specs.declared.Token.{Token}
use Rattle.numbering.specs.Types.{type_of}
use Rattle.tokens.specs.Tokens.{bytes_of}
use Rattle.sources.specs.Source.{Source, Earlier, byte_in, four_in, text_in}
use Rattle.repeats.specs.Repeats.{row_here}
use Rattle.steps.specs.Steps.{step_at}
use Rattle.names.specs.Names.{refused, name_of}

-- the type that stands at position p
pub record Typed (s : Source) (p : ℕ) (y : TokenType) : Type 0 where
  pub number : ℕ
  pub past : Cursor
  pub there : byte_in s p type_stream ≡ Some (number, past)
  pub is : type_of s.rules.numbers number ≡ y

-- the earlier name has a row of this kind (7 DIGITS, 4 DIGITS0) at position p; its rows count 0 where there is no earlier name
pub record Fitting (e : Earlier) (p kind : ℕ) : Type 0 where
  pub there : p ≤ e.count
  pub is : (row_here e p).kind ≡ kind

-- a width of 0, a number too long for its width
abbrev pub Misfit : ℕ → ℕ → Type 0
Misfit n w = (w ≡ 0) ⊎ (10 ^ w ≤ n)

-- the tokens came to position p with so many bytes printed: each position from 1 on before it gave one, its bytes allowed and the running length at most 254
pub data Reached (s : Source) (e : Earlier) : ℕ → ℕ → Type 0 where
  at_first : Reached s e 1 0
  at_next : (p len : ℕ) (t : Token) (c : Cursor) → Reached s e p len → step_at s e p ≡ Ok (Some (t, c))
      → all_allowed (bytes_of s.bytes e.text t) ≡ true → len + length (bytes_of s.bytes e.text t) ≤ 254
      → Reached s e (p + 1) (len + length (bytes_of s.bytes e.text t))

-- why they stop there
pub data Stop (s : Source) (e : Earlier) (p len : ℕ) : Reason → Type 0 where
  -- 2, a span ends before what is wanted: the type; the zero byte of STRING, the byte of CHAR, the four bytes of DIGITS, those of DIGITS0 or its width;
  -- the byte of a delta that has its row
  ends_type : byte_in s p type_stream ≡ None → Stop s e p len reason.Short
  ends_string : p < 128 → Typed s p type.String → text_in s p string_stream ≡ None → Stop s e p len reason.Short
  ends_char : p < 128 → Typed s p type.Char → byte_in s p char_stream ≡ None → Stop s e p len reason.Short
  ends_digits : p < 128 → Typed s p type.Digits → four_in s p digits_stream ≡ None → Stop s e p len reason.Short
  ends_digits0 : p < 128 → Typed s p type.Digits0 → four_in s p digits0_stream ≡ None → Stop s e p len reason.Short
  ends_dzlen : p < 128 → Typed s p type.Digits0 → byte_in s p dzlen_stream ≡ None → Stop s e p len reason.Short
  ends_ddelta : p < 128 → Typed s p type.Delta → Fitting e p 7 → byte_in s p ddelta_stream ≡ None → Stop s e p len reason.Short
  ends_ddelta0 : p < 128 → Typed s p type.Delta0 → Fitting e p 4 → byte_in s p ddelta0_stream ≡ None → Stop s e p len reason.Short
  -- 3, a type not in the table
  unknown : Typed s p type.Other → Stop s e p len reason.UnknownType
  -- 5, MATCH, DDELTA or DDELTA0 with no earlier name or no fitting row; the byte of a delta may be missing too
  no_row : p < 128 → Typed s p type.Match → e.count < p → Stop s e p len reason.NoRow
  no_digits : p < 128 → Typed s p type.Delta → (Fitting e p 7 → ⊥) → Stop s e p len reason.NoRow
  no_digits0 : p < 128 → Typed s p type.Delta0 → (Fitting e p 4 → ⊥) → Stop s e p len reason.NoRow
  -- 6, a sum of 2^32 or more, a width of 0, a number too long for its width
  large_sum : (d : ℕ) (c : Cursor) → p < 128 → Typed s p type.Delta → Fitting e p 7 → byte_in s p ddelta_stream ≡ Some (d, c)
      → 2 ^ 32 ≤ (row_here e p).number + d → Stop s e p len reason.BadNumber
  large_sum0 : (d : ℕ) (c : Cursor) → p < 128 → Typed s p type.Delta0 → Fitting e p 4 → byte_in s p ddelta0_stream ≡ Some (d, c)
      → 2 ^ 32 ≤ (row_here e p).number + d → Stop s e p len reason.BadNumber
  long_sum0 : (d : ℕ) (c : Cursor) → p < 128 → Typed s p type.Delta0 → Fitting e p 4 → byte_in s p ddelta0_stream ≡ Some (d, c)
      → Misfit ((row_here e p).number + d) (row_here e p).width → Stop s e p len reason.BadNumber
  long_digits0 : (n w : ℕ) (c k : Cursor) → p < 128 → Typed s p type.Digits0 → four_in s p digits0_stream ≡ Some (n, c) → byte_in s p dzlen_stream ≡ Some (w, k)
      → Misfit n w → Stop s e p len reason.BadNumber
  -- 7, at position 128 a type in the table other than END
  no_end : (y : TokenType) → p ≡ 128 → Typed s p y → (y ≡ type.Other → ⊥) → (y ≡ type.End → ⊥) → Stop s e p len reason.NotEnd
  -- 8, a byte SAM doesn't allow, a running length above 254, END with length 0
  not_allowed : (t : Token) (c : Cursor) → step_at s e p ≡ Ok (Some (t, c)) → all_allowed (bytes_of s.bytes e.text t) ≡ false → Stop s e p len reason.BadName
  too_long : (t : Token) (c : Cursor) → step_at s e p ≡ Ok (Some (t, c)) → 254 < len + length (bytes_of s.bytes e.text t) → Stop s e p len reason.BadName
  empty : Typed s p type.End → len ≡ 0 → Stop s e p len reason.BadName

-- where the tokens of a name stop, and why
pub record StopsAt (s : Source) (e : Earlier) (r : Reason) : Type 0 where
  pub position : ℕ
  pub printed : ℕ
  pub reached : Reached s e position printed
  pub stops : Stop s e position printed r

-- a name that is refused has its cause
abbrev pub NameStops : Type 0
NameStops = (s : Source) (e : Earlier) (used : ℕ) (cur : List ℕ) (r : Reason) → name_of s e used cur ≡ refused r → StopsAt s e r

-- and the cause gives the refusal
abbrev pub StopsName : Type 0
StopsName = (s : Source) (e : Earlier) (used : ℕ) (cur : List ℕ) (p len : ℕ) (r : Reason) → Reached s e p len → Stop s e p len r → name_of s e used cur ≡ refused r

-- so no two causes with different numbers hold together, whatever their positions
abbrev pub OneStop : Type 0
OneStop = (s : Source) (e : Earlier) (p a : ℕ) (r : Reason) (q b : ℕ) (t : Reason) → Reached s e p a → Stop s e p a r → Reached s e q b → Stop s e q b t → r ≡ t
