-- The bench cases of document 01 that are marked P: a line of its list is a case here, and each is a call, a block opened and read or names written.
use Rattle.std.specs.Prelude.{ℕ, ◌-◌, List, [], ◌∷◌, ◌++◌, replicate, Some, Ok, Err}
use Rattle.spans.specs.Spans.{four_bytes}
use Rattle.refusals.specs.declared.Reason.{Reason}
use Rattle.refusals.specs.declared.Refusal.TheVariants as refusal
use Rattle.refusals.specs.declared.Reason.TheVariants as reason
use Rattle.block.specs.Streams.{type_stream, string_stream, char_stream, digits0_stream, dzlen_stream, dup_stream, diff_stream, digits_stream, ddelta_stream, ddelta0_stream}
use Rattle.numbering.specs.declared.TokenType.{TokenType}
use Rattle.numbering.specs.declared.TokenType.TheVariants.{String, Char, Digits, Digits0, Delta, Delta0, Match, End}
use Rattle.demands.specs.Cases.{dup_number, diff_number, Case, Buffers, Stream, stream, types, bytes_in, Told, read_in, WrittenIn, write_in}

-- a block refused at a name, the text kept before it
abbrev pub refused_at : Reason → ℕ → List ℕ → Told
refused_at r n text = record { answer = Err (refusal.At r n); text = text }

-- a name kept, the last of this text
abbrev pub passes : ℕ → List ℕ → Told
passes n text = record { answer = Ok (Some n); text = text }

-- room for two names of ten digits, four entries and two rows
abbrev pub small : Buffers
small = record { text = 22; names = 20; rows = 10 }

abbrev pub read_over : ℕ → List Stream → Told
read_over n xs = read_in small n xs

-- name 0 with a type and a distance, and nothing after
abbrev pub headed : ℕ → ℕ → ℕ → List Stream
headed type i distance = stream 0 type_stream (type ∷ []) ∷ stream 0 i (four_bytes distance) ∷ []

-- name 0, DIFF 0, with the types and the values of position 1 and the types of position 2
abbrev pub alone : List TokenType → List Stream → List TokenType → List Stream
alone one values two = stream 0 type_stream (diff_number ∷ []) ∷ stream 0 diff_stream (four_bytes 0) ∷ types 1 one ∷ values ++ types 2 two ∷ []

-- the same of name 0, DIFF 0, and name 1, DIFF 1
abbrev pub leaning : List TokenType → List Stream → List TokenType → List Stream
leaning one values two =
    stream 0 type_stream (diff_number ∷ diff_number ∷ []) ∷ stream 0 diff_stream (four_bytes 0 ++ four_bytes 1) ∷ types 1 one ∷ values ++ types 2 two ∷ []

-- both of one token
abbrev pub pair : TokenType → TokenType → List Stream → List Stream
pair token next values = leaning (token ∷ next ∷ []) values (End ∷ End ∷ [])

-- DIGITS, then DDELTA
abbrev pub by_delta : ℕ → ℕ → List Stream
by_delta number d = pair Digits Delta (stream 1 digits_stream (four_bytes number) ∷ stream 1 ddelta_stream (d ∷ []) ∷ [])

-- DIGITS two times
abbrev pub by_digits : ℕ → ℕ → List Stream
by_digits number next = pair Digits Digits (stream 1 digits_stream (four_bytes number ++ four_bytes next) ∷ [])

-- the value of a DIGITS0 at position 1
abbrev pub padded : ℕ → ℕ → List Stream
padded number width = stream 1 digits0_stream (four_bytes number) ∷ stream 1 dzlen_stream (width ∷ []) ∷ []

-- name 0 of one DIGITS0
abbrev pub digits0 : ℕ → ℕ → Told
digits0 number width = read_over 0 (alone (Digits0 ∷ []) (padded number width) (End ∷ []))

-- name 0 of one DIGITS, then name 1 of one DDELTA; the same of one DIGITS0, then one DDELTA0
abbrev pub delta : ℕ → ℕ → Told
delta number d = read_over 1 (by_delta number d)

abbrev pub delta0 : ℕ → ℕ → ℕ → Told
delta0 number width d = read_over 1 (pair Digits0 Delta0 (padded number width ++ stream 1 ddelta0_stream (d ∷ []) ∷ []))

-- name 0 of one CHAR
abbrev pub char : ℕ → Told
char b = read_over 0 (alone (Char ∷ []) (stream 1 char_stream (b ∷ []) ∷ []) (End ∷ []))

-- A, then A by DUP 1 two times, then name 3 by DUP with a distance
abbrev pub fourth_dup : ℕ → Told
fourth_dup d =
    read_over 3 (stream 0 type_stream (diff_number ∷ dup_number ∷ dup_number ∷ dup_number ∷ [])
    ∷ stream 0 dup_stream (four_bytes 1 ++ four_bytes 1 ++ four_bytes d) ∷ stream 0 diff_stream (four_bytes 0)
    ∷ types 1 (Char ∷ []) ∷ stream 1 char_stream (65 ∷ []) ∷ types 2 (End ∷ []) ∷ [])

-- the same with name 3 by DIFF, MATCH
abbrev pub fourth_diff : ℕ → Told
fourth_diff d =
    read_over 3 (stream 0 type_stream (diff_number ∷ dup_number ∷ dup_number ∷ diff_number ∷ [])
    ∷ stream 0 dup_stream (four_bytes 1 ++ four_bytes 1) ∷ stream 0 diff_stream (four_bytes 0 ++ four_bytes d)
    ∷ types 1 (Char ∷ Match ∷ []) ∷ stream 1 char_stream (65 ∷ []) ∷ types 2 (End ∷ End ∷ []) ∷ [])

-- tokens
abbrev pub token_cases : List Case
token_cases =
    -- number 123, width 5 is "00123"
    record { kind = Told; given = digits0 123 5; said = passes 0 (48 ∷ 48 ∷ 49 ∷ 50 ∷ 51 ∷ 10 ∷ []) }
    -- number 0, width 1 is "0"; width 0 is 6
    ∷ record { kind = Told × Told; given = (digits0 0 1, digits0 0 0); said = (passes 0 (48 ∷ 10 ∷ []), refused_at reason.BadNumber 0 []) }
    -- 99, width 2 passes; 123, width 2 is 6
    ∷ record { kind = Told × Told; given = (digits0 99 2, digits0 123 2); said = (passes 0 (57 ∷ 57 ∷ 10 ∷ []), refused_at reason.BadNumber 0 []) }
    -- 4,294,967,295 plus 0 passes, plus 1 is 6
    ∷ record {
      kind = Told × Told;
      given = (delta 4294967295 0, delta 4294967295 1);
      said = (
        passes 1 (52 ∷ 50 ∷ 57 ∷ 52 ∷ 57 ∷ 54 ∷ 55 ∷ 50 ∷ 57 ∷ 53 ∷ 10 ∷ 52 ∷ 50 ∷ 57 ∷ 52 ∷ 57 ∷ 54 ∷ 55 ∷ 50 ∷ 57 ∷ 53 ∷ 10 ∷ []),
        refused_at reason.BadNumber 1 (52 ∷ 50 ∷ 57 ∷ 52 ∷ 57 ∷ 54 ∷ 55 ∷ 50 ∷ 57 ∷ 53 ∷ 10 ∷ []),
      );
    }
    -- 99 plus 1 at width 2 is 6; at width 3 it is "100"
    ∷ record {
      kind = Told × Told;
      given = (delta0 99 2 1, delta0 99 3 1);
      said = (refused_at reason.BadNumber 1 (57 ∷ 57 ∷ 10 ∷ []), passes 1 (48 ∷ 57 ∷ 57 ∷ 10 ∷ 49 ∷ 48 ∷ 48 ∷ 10 ∷ []));
    }
    ∷ []

-- blocks
abbrev pub block_cases : List Case
block_cases =
    -- name 0 with DUP, or with DIFF 1, is 4
    record {
      kind = Told × Told × Told;
      given = (read_over 0 (headed dup_number dup_stream 0), read_over 0 (headed dup_number dup_stream 1), read_over 0 (headed diff_number diff_stream 1));
      said = (refused_at reason.BadDistance 0 [], refused_at reason.BadDistance 0 [], refused_at reason.BadDistance 0 []);
    }
    -- name 0 with MATCH is 5
    ∷ record { kind = Told; given = read_over 0 (alone (Match ∷ []) [] []); said = refused_at reason.NoRow 0 [] }
    -- name 3 with distance 3 passes, 4 is 4
    ∷ record {
      kind = Told × Told × Told × Told;
      given = (fourth_dup 3, fourth_dup 4, fourth_diff 3, fourth_diff 4);
      said = (
        passes 3 (65 ∷ 10 ∷ 65 ∷ 10 ∷ 65 ∷ 10 ∷ 65 ∷ 10 ∷ []),
        refused_at reason.BadDistance 3 (65 ∷ 10 ∷ 65 ∷ 10 ∷ 65 ∷ 10 ∷ []),
        passes 3 (65 ∷ 10 ∷ 65 ∷ 10 ∷ 65 ∷ 10 ∷ 65 ∷ 10 ∷ []),
        refused_at reason.BadDistance 3 (65 ∷ 10 ∷ 65 ∷ 10 ∷ 65 ∷ 10 ∷ []),
      );
    }
    -- END at position 1 is 8
    ∷ record { kind = Told; given = read_over 0 (alone (End ∷ []) [] []); said = refused_at reason.BadName 0 [] }
    -- "?" and "A" pass, "@" and a space are 8
    ∷ record {
      kind = Told × Told × Told × Told;
      given = (char 63, char 65, char 64, char 32);
      said = (passes 0 (63 ∷ 10 ∷ []), passes 0 (65 ∷ 10 ∷ []), refused_at reason.BadName 0 [], refused_at reason.BadName 0 []);
    }
    ∷ []

-- names written: the spans that have bytes then, one after another, and behind their total what was there before
abbrev pub wrote : ℕ → ℕ → List Stream → WrittenIn
wrote names total xs = record { answer = Ok (record { names = names; bytes = total }); streams = xs; bytes = bytes_in xs ++ replicate (30 - total) 9 }

-- one name: DIGITS 123456789, DIGITS0 0/1
abbrev pub cut_after_nine : List Stream
cut_after_nine =
    alone (Digits ∷ []) (stream 1 digits_stream (four_bytes 123456789) ∷ []) (Digits0 ∷ [])
    ++ stream 2 digits0_stream (four_bytes 0) ∷ stream 2 dzlen_stream (1 ∷ []) ∷ types 3 (End ∷ []) ∷ []

-- writing
abbrev pub writing_cases : List Case
writing_cases =
    -- `1234567890` is written DIGITS 123456789, DIGITS0 0/1
    record {
      kind = WrittenIn;
      given = write_in (49 ∷ 50 ∷ 51 ∷ 52 ∷ 53 ∷ 54 ∷ 55 ∷ 56 ∷ 57 ∷ 48 ∷ 10 ∷ []) cut_after_nine;
      said = wrote 1 17 cut_after_nine;
    }
    -- `1` then `256` is DDELTA 255; `1` then `257` is DIGITS 257; `10` then `9` is DIGITS 9
    ∷ record {
      kind = WrittenIn × WrittenIn × WrittenIn;
      given = (
        write_in (49 ∷ 10 ∷ 50 ∷ 53 ∷ 54 ∷ 10 ∷ []) (by_delta 1 255),
        write_in (49 ∷ 10 ∷ 50 ∷ 53 ∷ 55 ∷ 10 ∷ []) (by_digits 1 257),
        write_in (49 ∷ 48 ∷ 10 ∷ 57 ∷ 10 ∷ []) (by_digits 10 9),
      );
      said = (wrote 2 19 (by_delta 1 255), wrote 2 22 (by_digits 1 257), wrote 2 22 (by_digits 10 9));
    }
    ∷ []

-- all twelve
abbrev pub cases : List Case
cases = token_cases ++ block_cases ++ writing_cases

-- name 0 is one STRING, and name 1 is MATCH and a type more
abbrev pub matched : List ℕ → TokenType → Told
matched text second = read_over 1 (leaning (String ∷ Match ∷ []) (stream 1 string_stream (text ++ 0 ∷ []) ∷ []) (End ∷ second ∷ []))

-- such a STRING is one row, so MATCH at position 2 is 5, and MATCH, END is the same name again
abbrev pub one_row : List ℕ → Case
one_row text = record {
  kind = Told × Told;
  given = (matched text Match, matched text End);
  said = (refused_at reason.NoRow 1 (text ++ 10 ∷ []), passes 1 (text ++ 10 ∷ text ++ 10 ∷ []));
}

-- "Slips that tempt": STRING a1 isn't CHAR, DIGITS; and STRING A_B, as other writers have it, isn't three CHARs: C-14 splits what is written, not what is read
abbrev pub slip_cases : List Case
slip_cases = one_row (97 ∷ 49 ∷ []) ∷ one_row (65 ∷ 95 ∷ 66 ∷ []) ∷ []
