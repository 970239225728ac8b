-- Rule 4, the tokens that lean on the earlier name's row at their position.
use Rattle.std.specs.Prelude.{ℕ, ◌+◌, ◌-◌, Bool, true, List, leb, eqb, get_or}
use Rattle.std.specs.Prelude.{Result}
use Rattle.refusals.specs.declared.Reason.{Reason}
use Rattle.values.specs.Values.{Step}
use Rattle.std.specs.Prelude.{Some, Ok, Err}
use Rattle.refusals.specs.declared.Reason.TheVariants as reason
use Rattle.base.specs.Choice.{pick, both}
use Rattle.spans.specs.declared.Cursor.{Cursor}
use Rattle.block.specs.Streams.{ddelta_stream, ddelta0_stream}
use Rattle.tokens.specs.declared.Token.{Token}
use Rattle.tokens.specs.declared.Token.TheVariants.{String, Char, Digits, Digits0}
use Rattle.tables.specs.declared.Row.{Row}
use Rattle.tables.specs.Tables.{row_at}
use Rattle.sources.specs.Source.{Source, Earlier, byte_in}
use Rattle.sums.specs.Sums.{delta_step, delta0_step}

-- the kind and values that a row keeps
unfoldable pub token_of : List ℕ → Row → Token
token_of kept r =
    pick (eqb r.kind 1) (String (record { kept = true; start = r.start; end = r.start + r.length }))
    (pick (eqb r.kind 2) (Char (get_or kept r.start 0))
    (pick (eqb r.kind 4) (Digits0 (record { number = r.number; width = r.width }))
    (Digits r.number)))

-- 13 MATCH: the earlier name's row at this position, kind and values; a number is printed anew
abbrev pub match_of : List ℕ → Row → Cursor → Step
match_of kept r c = Ok (Some (token_of kept r, c))

-- the earlier name has a row at this position
unfoldable pub has_row : Earlier → ℕ → Bool
has_row e p = leb p e.count

unfoldable pub row_here : Earlier → ℕ → Row
row_here e p = row_at e.rows (e.first + (p - 1))

-- the earlier name has a row of one kind at this position
unfoldable pub has_kind : Earlier → ℕ → ℕ → Bool
has_kind e p kind = both (has_row e p) (eqb (row_here e p).kind kind)

-- and that row, else 5
unfoldable pub fitting : Earlier → ℕ → ℕ → Result Row Reason
fitting e p kind = pick (has_kind e p kind) (Ok (row_here e p)) (Err reason.NoRow)

-- what leans on the earlier name: 5 with no fitting row, before the value is read
unfoldable pub delta_at : Source → Earlier → ℕ → Step
delta_at s e p = pick (has_kind e p 7) (delta_step (row_here e p).number (byte_in s p ddelta_stream)) (Err reason.NoRow)

unfoldable pub delta0_at : Source → Earlier → ℕ → Step
delta0_at s e p = pick (has_kind e p 4) (delta0_step (row_here e p).number (row_here e p).width (byte_in s p ddelta0_stream)) (Err reason.NoRow)

unfoldable pub match_at : Earlier → ℕ → Cursor → Step
match_at e p c = pick (has_row e p) (match_of e.text (row_here e p) c) (Err reason.NoRow)
