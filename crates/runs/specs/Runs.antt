-- A run of MATCHes: where it ends, and how many bytes the rows have that it stands for.
use Rattle.std.specs.Prelude.{ℕ, zero, suc, ◌+◌, ◌-◌, Bool, true, false}
use Rattle.base.specs.Choice.{pick}
use Rattle.numbering.specs.declared.TokenType.{TokenType}
use Rattle.numbering.specs.declared.TokenType.TheVariants as type
use Rattle.tables.specs.Tables.{Table, row_at}
use Rattle.sources.specs.Source.{Source}
use Rattle.names.specs.Names.{type_at}

abbrev pub is_match : TokenType → Bool
is_match type.Match = true
is_match type.String = false
is_match type.Char = false
is_match type.Digits = false
is_match type.Digits0 = false
is_match type.Delta = false
is_match type.Delta0 = false
is_match type.End = false
is_match type.Other = false

-- the first position from p on, over at most f of them, whose type isn't MATCH
unfoldable pub run_end : Source → ℕ → ℕ → ℕ
run_end s p zero = p
run_end s p (suc f) = pick (is_match (type_at s p)) (run_end s (p + 1) f) p

-- where the text of row i starts, and how many bytes rows i up to j have, which lie one behind the other
unfoldable pub text_start : Table → ℕ → ℕ
text_start rows i = (row_at rows i).start

unfoldable pub text_length : Table → ℕ → ℕ → ℕ
text_length rows i j = (row_at rows (j - 1)).start + (row_at rows (j - 1)).length - (row_at rows i).start
