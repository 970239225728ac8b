-- What stands at a cursor of a span that ends at an end: the next byte, the next four as a number, the text up to a zero byte.
use Rattle.std.specs.Prelude.{ℕ, zero, suc, ◌+◌, ◌-◌, ◌*◌, ◌/◌, ◌%◌, List, [], ◌∷◌, get_or, ltb, leb, eqb}
use Rattle.spans.specs.declared.Bytes.{Bytes}
use Rattle.std.specs.Prelude.{Some, None, Option}
use Rattle.base.specs.Choice.{pick}
use Rattle.spans.specs.declared.Cursor.{Cursor}

-- a byte or a number, and the cursor behind it; none where the span ends before
abbrev pub Next : Type 0
Next = Option (ℕ × Cursor)

-- the cursor at a byte
abbrev pub cursor : ℕ → Cursor
cursor at = record { 0 = at }

-- the next byte
unfoldable pub byte_at : List ℕ → ℕ → ℕ → Next
byte_at bytes at end = pick (leb (at + 1) end) (Some (get_or bytes at 0, cursor (at + 1))) None

-- the four bytes from i on as a number with the low byte first
unfoldable pub four : List ℕ → ℕ → ℕ
four bytes i = get_or bytes i 0 + 256 * get_or bytes (i + 1) 0 + 65536 * get_or bytes (i + 2) 0 + 16777216 * get_or bytes (i + 3) 0

-- the next four as a number
unfoldable pub four_at : List ℕ → ℕ → ℕ → Next
four_at bytes at end = pick (leb (at + 4) end) (Some (four bytes at, cursor (at + 4))) None

-- a number as four bytes, the low byte first
unfoldable pub four_bytes : ℕ → List ℕ
four_bytes v = v % 256 ∷ v / 256 % 256 ∷ v / 65536 % 256 ∷ v / 16777216 % 256 ∷ []

-- the place of the first zero byte from i on, of n bytes looked at; i + n where there is none
unfoldable pub zero_from : List ℕ → ℕ → ℕ → ℕ
zero_from bytes i zero = i
zero_from bytes i (suc n) = pick (eqb (get_or bytes i 0) 0) i (zero_from bytes (i + 1) n)

-- where a text ends: at the first zero byte before the end
unfoldable pub text_end : List ℕ → ℕ → ℕ → ℕ
text_end bytes at end = zero_from bytes at (end - at)

-- the text up to a zero byte, which is dropped
unfoldable pub text_at : List ℕ → ℕ → ℕ → Option Bytes
text_at bytes at end =
    pick (ltb (text_end bytes at end) end)
    (Some (record { start = cursor at; end = cursor (text_end bytes at end); next = cursor (text_end bytes at end + 1) }))
    None
