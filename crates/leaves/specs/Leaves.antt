-- What each leaf answers at the C boundary: its value as one number, and the largest 64-bit number where there is none.
use Rattle.std.specs.Prelude.{ℕ, ◌+◌, ◌*◌, Bool, List, leb, length, set, Option, Some, None}
use Rattle.spans.specs.Spans.{Next}
use Rattle.spans.specs.declared.Bytes.{Bytes}
use Rattle.base.specs.Choice.{pick, both}
use Rattle.base.specs.Memory.{written}

abbrev pub nothing : ℕ
nothing = 18446744073709551615

-- a number and a buffer
pub record Left : Type 0 where
  pub answer : ℕ
  pub buffer : List ℕ

abbrev pub leaves : ℕ → List ℕ → Left
leaves a b = record { answer = a; buffer = b }

-- a run of bytes at a place, where there is room and it may stand there
unfoldable pub placed : Bool → List ℕ → ℕ → List ℕ → Left
placed may s at buf =
    pick (both may (leb (at + length s) (length buf))) (leaves (length s) (written buf at s)) (leaves nothing buf)

unfoldable pub byte_number : Next → ℕ
byte_number (Some (b, c)) = b + 4294967296 * c.0
byte_number None = nothing

unfoldable pub four_left : List ℕ → Next → Left
four_left next (Some (n, c)) = leaves n (set next 0 c.0)
four_left next None = leaves nothing next

unfoldable pub text_number : Option Bytes → ℕ
text_number (Some t) = t.end.0
text_number None = nothing
