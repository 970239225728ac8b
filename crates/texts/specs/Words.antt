-- The words of a listing, byte by byte, with the spaces that part them from what stands beside.
use Rattle.std.specs.Prelude.{ℕ, List, [], ◌∷◌}

-- "refused "
unfoldable pub refused_word : List ℕ
refused_word = 114 ∷ 101 ∷ 102 ∷ 117 ∷ 115 ∷ 101 ∷ 100 ∷ 32 ∷ []

-- " at "
unfoldable pub at_word : List ℕ
at_word = 32 ∷ 97 ∷ 116 ∷ 32 ∷ []

-- " STRING "
unfoldable pub string_word : List ℕ
string_word = 32 ∷ 83 ∷ 84 ∷ 82 ∷ 73 ∷ 78 ∷ 71 ∷ 32 ∷ []

-- " CHAR "
unfoldable pub char_word : List ℕ
char_word = 32 ∷ 67 ∷ 72 ∷ 65 ∷ 82 ∷ 32 ∷ []

-- " DIGITS "
unfoldable pub digits_word : List ℕ
digits_word = 32 ∷ 68 ∷ 73 ∷ 71 ∷ 73 ∷ 84 ∷ 83 ∷ 32 ∷ []

-- " DIGITS0 "
unfoldable pub digits0_word : List ℕ
digits0_word = 32 ∷ 68 ∷ 73 ∷ 71 ∷ 73 ∷ 84 ∷ 83 ∷ 48 ∷ 32 ∷ []

-- " DDELTA "
unfoldable pub delta_word : List ℕ
delta_word = 32 ∷ 68 ∷ 68 ∷ 69 ∷ 76 ∷ 84 ∷ 65 ∷ 32 ∷ []

-- " DDELTA0 "
unfoldable pub delta0_word : List ℕ
delta0_word = 32 ∷ 68 ∷ 68 ∷ 69 ∷ 76 ∷ 84 ∷ 65 ∷ 48 ∷ 32 ∷ []

-- " MATCH"
unfoldable pub match_word : List ℕ
match_word = 32 ∷ 77 ∷ 65 ∷ 84 ∷ 67 ∷ 72 ∷ []

-- " END"
unfoldable pub end_word : List ℕ
end_word = 32 ∷ 69 ∷ 78 ∷ 68 ∷ []

-- " DUP "
unfoldable pub dup_word : List ℕ
dup_word = 32 ∷ 68 ∷ 85 ∷ 80 ∷ 32 ∷ []

-- " DIFF "
unfoldable pub diff_word : List ℕ
diff_word = 32 ∷ 68 ∷ 73 ∷ 70 ∷ 70 ∷ 32 ∷ []

-- " names "
unfoldable pub names_word : List ℕ
names_word = 32 ∷ 110 ∷ 97 ∷ 109 ∷ 101 ∷ 115 ∷ 32 ∷ []

-- " bytes" and byte 10
unfoldable pub bytes_word : List ℕ
bytes_word = 32 ∷ 98 ∷ 121 ∷ 116 ∷ 101 ∷ 115 ∷ 10 ∷ []

-- "/"
unfoldable pub slash : List ℕ
slash = 47 ∷ []

-- byte 10
unfoldable pub newline : List ℕ
newline = 10 ∷ []
