-- The paper's example, as a writer's streams: run7:0098, run7:0099, run7:0100 and the last once more; and a STRING of other writers that ours would split.
use Rattle.std.specs.Prelude.{ℕ, List, [], ◌∷◌}
use Rattle.block.specs.Block.{span_of}
use Rattle.block.specs.Streams.{type_stream, string_stream, char_stream, digits0_stream, dzlen_stream, dup_stream, diff_stream, digits_stream, ddelta0_stream}
use Rattle.numbering.specs.Types.{rules_of, draft_plain}
use Rattle.words.specs.Fronts.{Spans, leave}
use Rattle.words.specs.Values.{string, char, digits, digits0, Name}
use Rattle.words.specs.Words.{Telling, done, names_from}

-- these bytes to the span of stream i at position p, beside what others are given
abbrev pub given : ℕ → ℕ → List ℕ → Spans → Spans
given p i bytes others = leave others (span_of p i) bytes

unfoldable pub nothing : Spans
nothing j = []

abbrev pub streams : Spans
streams =
    given 0 type_stream (6 ∷ 6 ∷ 6 ∷ 5 ∷ [])
    (given 0 dup_stream (1 ∷ 0 ∷ 0 ∷ 0 ∷ [])
    (given 0 diff_stream (0 ∷ 0 ∷ 0 ∷ 0 ∷ 1 ∷ 0 ∷ 0 ∷ 0 ∷ 1 ∷ 0 ∷ 0 ∷ 0 ∷ [])
    (given 1 type_stream (1 ∷ 13 ∷ 13 ∷ [])
    (given 1 string_stream (114 ∷ 117 ∷ 110 ∷ 0 ∷ [])
    (given 2 type_stream (7 ∷ 13 ∷ 13 ∷ [])
    (given 2 digits_stream (7 ∷ 0 ∷ 0 ∷ 0 ∷ [])
    (given 3 type_stream (2 ∷ 13 ∷ 13 ∷ [])
    (given 3 char_stream (58 ∷ [])
    (given 4 type_stream (4 ∷ 12 ∷ 12 ∷ [])
    (given 4 digits0_stream (98 ∷ 0 ∷ 0 ∷ 0 ∷ [])
    (given 4 dzlen_stream (4 ∷ [])
    (given 4 ddelta0_stream (1 ∷ 1 ∷ [])
    (given 5 type_stream (14 ∷ 14 ∷ 14 ∷ [])
    nothing)))))))))))))

-- a name of this number behind "run7:"
abbrev pub run : ℕ → ℕ → Name
run n distance = record { tokens = string (114 ∷ 117 ∷ 110 ∷ []) ∷ digits 7 ∷ char 58 ∷ digits0 n 4 ∷ []; distance = distance }

-- what they say
abbrev pub says : Telling
says = record { names = run 98 0 ∷ run 99 1 ∷ run 100 1 ∷ run 100 1 ∷ []; ending = done }

abbrev pub saying : Telling
saying = names_from (rules_of draft_plain) 4 [] streams

-- C-14 splits what is written, not what is read: STRING A_B, and MATCH of it, are names of one token
abbrev pub unsplit : Spans
unsplit =
    given 0 type_stream (6 ∷ 6 ∷ [])
    (given 0 diff_stream (0 ∷ 0 ∷ 0 ∷ 0 ∷ 1 ∷ 0 ∷ 0 ∷ 0 ∷ [])
    (given 1 type_stream (1 ∷ 13 ∷ [])
    (given 1 string_stream (65 ∷ 95 ∷ 66 ∷ 0 ∷ [])
    (given 2 type_stream (14 ∷ 14 ∷ [])
    nothing))))

abbrev pub whole : ℕ → Name
whole distance = record { tokens = string (65 ∷ 95 ∷ 66 ∷ []) ∷ []; distance = distance }

abbrev pub says_whole : Telling
says_whole = record { names = whole 0 ∷ whole 1 ∷ []; ending = done }

abbrev pub saying_whole : Telling
saying_whole = names_from (rules_of draft_plain) 2 [] unsplit
