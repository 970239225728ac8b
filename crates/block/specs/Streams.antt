-- The ten spans of a position, in the directory's order.
use Rattle.std.specs.Prelude.{ℕ}
use Rattle.block.specs.declared.Stream.{Stream}
use Rattle.block.specs.declared.Stream.TheVariants as stream

abbrev pub type_stream : ℕ
type_stream = 0

abbrev pub string_stream : ℕ
string_stream = 1

abbrev pub char_stream : ℕ
char_stream = 2

abbrev pub digits0_stream : ℕ
digits0_stream = 3

abbrev pub dzlen_stream : ℕ
dzlen_stream = 4

abbrev pub dup_stream : ℕ
dup_stream = 5

abbrev pub diff_stream : ℕ
diff_stream = 6

abbrev pub digits_stream : ℕ
digits_stream = 7

abbrev pub ddelta_stream : ℕ
ddelta_stream = 8

abbrev pub ddelta0_stream : ℕ
ddelta0_stream = 9

-- which it is in that order
abbrev pub stream_number : Stream → ℕ
stream_number stream.Type = type_stream
stream_number stream.String = string_stream
stream_number stream.Char = char_stream
stream_number stream.Digits0 = digits0_stream
stream_number stream.Dzlen = dzlen_stream
stream_number stream.Dup = dup_stream
stream_number stream.Diff = diff_stream
stream_number stream.Digits = digits_stream
stream_number stream.Ddelta = ddelta_stream
stream_number stream.Ddelta0 = ddelta0_stream
