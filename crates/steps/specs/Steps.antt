-- Rule 4: from position 1 on, read a type and resolve it. For each token 3, 7 and 5 are judged before its values are read, then 2 and 6.
use Rattle.std.specs.Prelude.{ℕ}
use Rattle.spans.specs.Spans.{Next}
use Rattle.values.specs.Values.{Step}
use Rattle.std.specs.Prelude.{Some, None, Ok, Err}
use Rattle.refusals.specs.declared.Reason.TheVariants as reason
use Rattle.base.specs.Choice.{pick}
use Rattle.spans.specs.declared.Cursor.{Cursor}
use Rattle.block.specs.Streams.{type_stream, string_stream, char_stream, digits_stream}
use Rattle.numbering.specs.declared.TokenType.{TokenType}
use Rattle.numbering.specs.declared.TokenType.TheVariants as type
use Rattle.numbering.specs.Types.{type_of}
use Rattle.sources.specs.Source.{Source, Earlier, byte_in, four_in, text_in}
use Rattle.values.specs.Values.{string_step, char_step, digits_step, padded_in, digits0_step}
use Rattle.repeats.specs.Repeats.{delta_at, delta0_at, match_at}
use Rattle.bars.specs.Bars.{barred}

-- what each type gives; c is the cursor past the type
unfoldable pub value_step : Source → Earlier → ℕ → Cursor → TokenType → Step
value_step s e p c type.String = string_step (text_in s p string_stream)
value_step s e p c type.Char = char_step (byte_in s p char_stream)
value_step s e p c type.Digits = digits_step (four_in s p digits_stream)
value_step s e p c type.Digits0 = digits0_step (padded_in s p)
value_step s e p c type.Delta = delta_at s e p
value_step s e p c type.Delta0 = delta0_at s e p
value_step s e p c type.Match = match_at e p c
value_step s e p c type.End = Ok None
value_step s e p c type.Other = Err reason.UnknownType

-- 3, 7 and 5 are judged before the values
unfoldable pub typed_step : Source → Earlier → ℕ → Next → Step
typed_step s e p (Some (b, c)) = pick (barred p (type_of s.rules.numbers b)) (Err reason.NotEnd) (value_step s e p c (type_of s.rules.numbers b))
typed_step s e p None = Err reason.Short

-- what stands at position p
unfoldable pub step_at : Source → Earlier → ℕ → Step
step_at s e p = typed_step s e p (byte_in s p type_stream)
