-- Blocks in which later names start afresh (C-11): what reading them comes to.
use Rattle.std.specs.Prelude.{ℕ, List, [], ◌∷◌, ◌++◌}
use Rattle.refusals.specs.declared.Reason.TheVariants as reason
use Rattle.spans.specs.Spans.{four_bytes}
use Rattle.block.specs.Streams.{type_stream, char_stream, dup_stream, diff_stream, digits_stream, ddelta_stream}
use Rattle.numbering.specs.declared.TokenType.{TokenType}
use Rattle.numbering.specs.declared.TokenType.TheVariants.{Char, Digits, Delta, Match, End}
use Rattle.demands.specs.Cases.{dup_number, diff_number, Case, Buffers, Stream, stream, types, Told, read_in}
use Rattle.demands.specs.Bench.{refused_at, passes}

-- room for four names in the text, and three rows
abbrev pub wider : Buffers
wider = record { text = 14; names = 20; rows = 15 }

-- DIFF 0 two times, the types at positions 1 and 2 of both names, and their values
abbrev pub both_afresh : List TokenType → List TokenType → List Stream → List Stream
both_afresh one two values =
    stream 0 type_stream (diff_number ∷ diff_number ∷ []) ∷ stream 0 diff_stream (four_bytes 0 ++ four_bytes 0)
    ∷ types 1 one ∷ types 2 two ∷ values

-- DIGITS 5; DIFF 0, DIGITS 100; then a DIFF with a distance, DDELTA 1; each with its END, and the heads that follow
abbrev pub third : ℕ → List ℕ → List Stream → List Stream
third d heads more =
    stream 0 type_stream (diff_number ∷ diff_number ∷ diff_number ∷ heads) ∷ stream 0 diff_stream (four_bytes 0 ++ four_bytes 0 ++ four_bytes d)
    ∷ types 1 (Digits ∷ Digits ∷ Delta ∷ []) ∷ types 2 (End ∷ End ∷ End ∷ [])
    ∷ stream 1 digits_stream (four_bytes 5 ++ four_bytes 100) ∷ stream 1 ddelta_stream (1 ∷ []) ∷ more

-- name 0, CHAR a
abbrev pub char_a : List Stream
char_a = types 1 (Char ∷ []) ∷ stream 1 char_stream (97 ∷ []) ∷ types 2 (End ∷ []) ∷ []

abbrev pub afresh_cases : List Case
afresh_cases =
    -- CHAR a; DIFF 0, CHAR b is read
    record {
      kind = Told;
      given = read_in wider 1 (both_afresh (Char ∷ Char ∷ []) (End ∷ End ∷ []) (stream 1 char_stream (97 ∷ 98 ∷ []) ∷ []));
      said = passes 1 (97 ∷ 10 ∷ 98 ∷ 10 ∷ []);
    }
    -- MATCH behind CHAR c is 5, and DDELTA, whose byte isn't there, is 5 and not 2
    ∷ record {
      kind = Told × Told;
      given = (
        read_in wider 1 (both_afresh (Char ∷ Char ∷ []) (Char ∷ Match ∷ []) (stream 1 char_stream (97 ∷ 99 ∷ []) ∷ stream 2 char_stream (98 ∷ []) ∷ types 3 (End ∷ End ∷ []) ∷ [])),
        read_in wider 1 (both_afresh (Digits ∷ Delta ∷ []) (End ∷ End ∷ []) (stream 1 digits_stream (four_bytes 5) ∷ [])),
      );
      said = (refused_at reason.NoRow 1 (97 ∷ 98 ∷ 10 ∷ []), refused_at reason.NoRow 1 (53 ∷ 10 ∷ []));
    }
    -- past a fresh name: 5, 100, 6; on it, and by DUP: 5, 100, 101, 100
    ∷ record {
      kind = Told × Told;
      given = (read_in wider 2 (third 2 [] []), read_in wider 3 (third 1 (dup_number ∷ []) (stream 0 dup_stream (four_bytes 2) ∷ [])));
      said = (
        passes 2 (53 ∷ 10 ∷ 49 ∷ 48 ∷ 48 ∷ 10 ∷ 54 ∷ 10 ∷ []),
        passes 3 (53 ∷ 10 ∷ 49 ∷ 48 ∷ 48 ∷ 10 ∷ 49 ∷ 48 ∷ 49 ∷ 10 ∷ 49 ∷ 48 ∷ 48 ∷ 10 ∷ []),
      );
    }
    -- name 1 with DUP 0, or with DIFF 2, is still 4; with DIFF 0 and nothing after, it is 2
    ∷ record {
      kind = Told × Told × Told;
      given = (
        read_in wider 1 (stream 0 type_stream (diff_number ∷ dup_number ∷ []) ∷ stream 0 diff_stream (four_bytes 0) ∷ stream 0 dup_stream (four_bytes 0) ∷ char_a),
        read_in wider 1 (stream 0 type_stream (diff_number ∷ diff_number ∷ []) ∷ stream 0 diff_stream (four_bytes 0 ++ four_bytes 2) ∷ char_a),
        read_in wider 1 (stream 0 type_stream (diff_number ∷ diff_number ∷ []) ∷ stream 0 diff_stream (four_bytes 0 ++ four_bytes 0) ∷ char_a),
      );
      said = (refused_at reason.BadDistance 1 (97 ∷ 10 ∷ []), refused_at reason.BadDistance 1 (97 ∷ 10 ∷ []), refused_at reason.Short 1 (97 ∷ 10 ∷ []));
    }
    ∷ []
