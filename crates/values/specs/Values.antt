-- Rule 4, the tokens whose values stand in their own spans: 2 is judged before 6.
use Rattle.std.specs.Prelude.{ℕ, false}
use Rattle.refusals.specs.declared.Reason.{Reason}
use Rattle.tokens.specs.declared.Token.{Token}
use Rattle.std.specs.Prelude.{Result}
use Rattle.spans.specs.Spans.{Next}
use Rattle.spans.specs.declared.Bytes.{Bytes}
use Rattle.tokens.specs.declared.Padded.{Padded}
use Rattle.std.specs.Prelude.{Some, None, Ok, Err, Option}
use Rattle.refusals.specs.declared.Reason.TheVariants as reason
use Rattle.base.specs.Choice.{pick}
use Rattle.digits.specs.Digits.{fits_width}
use Rattle.spans.specs.declared.Cursor.{Cursor}
use Rattle.block.specs.Streams.{digits0_stream, dzlen_stream}
use Rattle.tokens.specs.declared.Token.TheVariants.{String, Char, Digits, Digits0}
use Rattle.sources.specs.Source.{Source, byte_in, four_in}

-- what a step gives: a token and the cursor behind it, nothing at END, or why it is refused
abbrev pub Step : Type 0
Step = Result (Option (Token × Cursor)) Reason

-- 1 STRING: bytes up to a zero byte, which is dropped; may be empty
unfoldable pub string_step : Option Bytes → Step
string_step (Some t) = Ok (Some (String (record { kept = false; start = t.start.0; end = t.end.0 }), t.next))
string_step None = Err reason.Short

-- 2 CHAR: one byte
unfoldable pub char_step : Next → Step
char_step (Some (b, c)) = Ok (Some (Char b, c))
char_step None = Err reason.Short

-- 7 DIGITS: four bytes
unfoldable pub digits_step : Next → Step
digits_step (Some (n, c)) = Ok (Some (Digits n, c))
digits_step None = Err reason.Short

-- a number that must fit its width: width at least 1 and number below ten to the width
unfoldable pub padded_step : ℕ → ℕ → Cursor → Step
padded_step n w c = pick (fits_width n w) (Ok (Some (Digits0 (record { number = n; width = w }), c))) (Err reason.BadNumber)

-- a padded number: four bytes, and a width from DZLEN
unfoldable pub with_width : ℕ → Cursor → Next → Option (Padded × Cursor)
with_width n c (Some (w, z)) = Some (record { number = n; width = w }, c)
with_width n c None = None

unfoldable pub padded_of : Next → Next → Option (Padded × Cursor)
padded_of (Some (n, c)) w = with_width n c w
padded_of None w = None

abbrev pub padded_in : Source → ℕ → Option (Padded × Cursor)
padded_in s p = padded_of (four_in s p digits0_stream) (byte_in s p dzlen_stream)

-- 4 DIGITS0: a padded number
unfoldable pub digits0_step : Option (Padded × Cursor) → Step
digits0_step (Some (x, c)) = padded_step x.number x.width c
digits0_step None = Err reason.Short
