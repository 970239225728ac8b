-- The request's example, computed: names a, b and c with room for two are refused with 9 at 2; with room for one more they are read, and then done.
use Rattle.std.specs.Prelude.{ℕ, List, [], ◌∷◌, ◌++◌, None, Ok}
use Rattle.refusals.specs.declared.Reason.TheVariants as reason
use Rattle.spans.specs.Spans.{four_bytes}
use Rattle.block.specs.Streams.{type_stream, char_stream, diff_stream}
use Rattle.numbering.specs.declared.TokenType.TheVariants.{Char, End}
use Rattle.demands.specs.Cases.{diff_number, Case, Stream, stream, types, Told, read_from, open_in, read_in}
use Rattle.demands.specs.Bench.{refused_at, passes}

-- a, b and c, each DIFF 0 and one CHAR
abbrev pub three_names : List Stream
three_names =
    stream 0 type_stream (diff_number ∷ diff_number ∷ diff_number ∷ []) ∷ stream 0 diff_stream (four_bytes 0 ++ four_bytes 0 ++ four_bytes 0)
    ∷ types 1 (Char ∷ Char ∷ Char ∷ []) ∷ stream 1 char_stream (97 ∷ 98 ∷ 99 ∷ []) ∷ types 2 (End ∷ End ∷ End ∷ []) ∷ []

-- what their third read comes to, with so many bytes and numbers lent
abbrev pub third : ℕ → ℕ → ℕ → Told
third text names rows = read_in (record { text = text; names = names; rows = rows }) 2 three_names

-- and the read after it
abbrev pub fourth : ℕ → ℕ → ℕ → Told
fourth text names rows = read_from (record { text = text; names = names; rows = rows }) 3 three_names (open_in 3 three_names).cursors (open_in 3 three_names).answer

abbrev pub stopped : Told
stopped = refused_at reason.NoRoom 2 (97 ∷ 10 ∷ 98 ∷ 10 ∷ [])

abbrev pub room_cases : List Case
room_cases =
    -- 5 bytes of text, or 2 entries, or 2 rows
    record { kind = Told × Told × Told; given = (third 5 15 15, third 6 10 15, third 6 15 10); said = (stopped, stopped, stopped) }
    -- a table longer by less than an entry or a row
    ∷ record { kind = Told × Told; given = (third 6 14 15, third 6 15 14); said = (stopped, stopped) }
    -- 6 bytes, 3 entries and 3 rows
    ∷ record { kind = Told; given = third 6 15 15; said = passes 2 (97 ∷ 10 ∷ 98 ∷ 10 ∷ 99 ∷ 10 ∷ []) }
    ∷ record { kind = Told; given = fourth 6 15 15; said = record { answer = Ok None; text = 97 ∷ 10 ∷ 98 ∷ 10 ∷ 99 ∷ 10 ∷ [] } }
    ∷ []
