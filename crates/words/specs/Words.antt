-- The names of a block, in the paper's words and order: "How one name is read", rules 1 to 4, the token table, and each refusal at its place.
-- Nothing is kept in a memory here: an earlier name is a name, a token holds its own bytes or number, and a span is the list of bytes left to it.
-- A definition stands before its use, so the paper's order is from below: `telling`, `next` and `headed` (rule 1), `back` (rule 2), `copy` (rule 3),
-- `made` and `tokens_from` (rule 4), `resolved` (the token table). 2 is given by `from`, wherever a span ends before what is wanted.
use Rattle.std.specs.Prelude.{ℕ, zero, suc, ◌+◌, ◌^◌, Bool, true, false, List, [], ◌∷◌, length, get_or, ltb, leb, eqb}
use Rattle.refusals.specs.declared.Reason.{Reason}
use Rattle.refusals.specs.declared.Reason.TheVariants as reason
use Rattle.base.specs.Choice.{pick, both}
use Rattle.base.specs.Every.{each}
use Rattle.base.specs.Memory.{part}
use Rattle.digits.specs.Digits.{fits_width}
use Rattle.classes.specs.Classes.{all_allowed}
use Rattle.block.specs.Block.{span_of, start_of, end_of}
use Rattle.block.specs.Streams.{type_stream, string_stream, char_stream, digits0_stream, dzlen_stream, dup_stream, diff_stream, digits_stream, ddelta_stream, ddelta0_stream}
use Rattle.numbering.specs.declared.TokenType.{TokenType}
use Rattle.numbering.specs.declared.TokenType.TheVariants as type
use Rattle.numbering.specs.Types.{Rules, type_of}
use Rattle.bars.specs.Bars.{barred}
use Rattle.words.specs.Fronts.{Spans, byte, four, text, Said, said, refused, then, from}
use Rattle.words.specs.Values.{Value, string, char, digits, digits0, prints, Name, nobody}

-- what stands at a position: a token's value, or END
pub data Found : Type 0 where
  value : Value → Found
  end : Found

-- a number that must fit its width, else 6
unfoldable pub fitting : ℕ → ℕ → Spans → Said Found
fitting n w left = pick (fits_width n w) (said (value (digits0 n w)) left) (refused reason.BadNumber)

-- 11 DDELTA: the sum, below 2^32, else 6
unfoldable pub summed : ℕ → ℕ → Spans → Said Found
summed n d left = pick (ltb (n + d) (2 ^ 32)) (said (value (digits (n + d))) left) (refused reason.BadNumber)

-- 12 DDELTA0: width kept, the sum must fit it
unfoldable pub summed0 : ℕ → ℕ → ℕ → Spans → Said Found
summed0 n w d left = pick (ltb (n + d) (2 ^ 32)) (fitting (n + d) w left) (refused reason.BadNumber)

-- what leans on the earlier name's token at this position, the first of those from here on: 5 with none, or with one that doesn't fit
unfoldable pub on_digits : List Value → (ℕ → Said Found) → Said Found
on_digits [] next = refused reason.NoRow
on_digits (string t ∷ e) next = refused reason.NoRow
on_digits (char b ∷ e) next = refused reason.NoRow
on_digits (digits n ∷ e) next = next n
on_digits (digits0 n w ∷ e) next = refused reason.NoRow

unfoldable pub on_digits0 : List Value → (ℕ → ℕ → Said Found) → Said Found
on_digits0 [] next = refused reason.NoRow
on_digits0 (string t ∷ e) next = refused reason.NoRow
on_digits0 (char b ∷ e) next = refused reason.NoRow
on_digits0 (digits n ∷ e) next = refused reason.NoRow
on_digits0 (digits0 n w ∷ e) next = next n w

unfoldable pub on_any : List Value → (Value → Said Found) → Said Found
on_any [] next = refused reason.NoRow
on_any (v ∷ e) next = next v

-- the token table; e is the earlier name's tokens from position p on
unfoldable pub resolved : ℕ → List Value → TokenType → Spans → Said Found
-- 1 STRING: bytes up to a zero byte, which is dropped; may be empty
resolved p e type.String left = then (from text left (span_of p string_stream)) (λ t rest. said (value (string t)) rest)
-- 2 CHAR: one byte
resolved p e type.Char left = then (from byte left (span_of p char_stream)) (λ b rest. said (value (char b)) rest)
-- 7 DIGITS: four bytes
resolved p e type.Digits left = then (from four left (span_of p digits_stream)) (λ n rest. said (value (digits n)) rest)
-- 4 DIGITS0: four bytes and a width from DZLEN; width at least 1 and number below ten to the width
resolved p e type.Digits0 left =
    then (from four left (span_of p digits0_stream)) (λ n rest. then (from byte rest (span_of p dzlen_stream)) (fitting n))
-- 11 DDELTA: one byte added to the earlier name's DIGITS at this position; 12 DDELTA0: the same for a DIGITS0
resolved p e type.Delta left = on_digits e (λ n. then (from byte left (span_of p ddelta_stream)) (summed n))
resolved p e type.Delta0 left = on_digits0 e (λ n w. then (from byte left (span_of p ddelta0_stream)) (summed0 n w))
-- 13 MATCH: the earlier name's token at this position, kind and values
resolved p e type.Match left = on_any e (λ v. said (value v) left)
-- 14 END: the name is complete
resolved p e type.End left = said end left
-- 3: a type that isn't in the table
resolved p e type.Other left = refused reason.UnknownType

-- 7: at position 128, a type in the table other than END
unfoldable pub typed : ℕ → List Value → TokenType → Spans → Said Found
typed p e t left = pick (barred p t) (refused reason.NotEnd) (resolved p e t left)

-- a type, and what it stands for
unfoldable pub found : Rules → ℕ → List Value → Spans → Said Found
found rules p e left = then (from byte left (span_of p type_stream)) (λ b rest. typed p e (type_of rules.numbers b) rest)

-- 8: a byte SAM doesn't allow, a running length above 254, END with length 0
unfoldable pub onward : ℕ → (Value → Spans → Said (List Value)) → Found → Spans → Said (List Value)
onward len rest (value v) left =
    pick (both (all_allowed (prints v)) (leb (len + length (prints v)) 254))
    (then (rest v left) (λ vs left. said (v ∷ vs) left))
    (refused reason.BadName)
onward len rest end left = pick (eqb len 0) (refused reason.BadName) (said [] left)

unfoldable pub behind : List Value → List Value
behind [] = []
behind (v ∷ e) = e

-- rule 4: the tokens from position p on, f positions at most, with len bytes before them; position 128 takes END alone, so none is looked for behind it
unfoldable pub tokens_from : Rules → ℕ → ℕ → List Value → ℕ → Spans → Said (List Value)
tokens_from rules zero p e len left = refused reason.NotEnd
tokens_from rules (suc f) p e len left =
    then (found rules p e left) (onward len (λ v. tokens_from rules f (p + 1) (behind e) (len + length (prints v))))

-- rule 2: the earlier name is the one so far back, of the names before, the newest first; distance 0 is no earlier name (C-11)
abbrev pub back : List Name → ℕ → Name
back before d = get_or (nobody ∷ before) d nobody

-- rule 3: DUP, the tokens of the earlier name; 4: a distance outside rule 2, from 1 to the number of names before
unfoldable pub copy : List Name → ℕ → Spans → Said Name
copy before d left =
    pick (both (leb 1 d) (leb d (length before))) (said (record { tokens = (back before d).tokens; distance = d }) left) (refused reason.BadDistance)

-- rule 4: DIFF, positions 1 to 128; 4: a distance outside rule 2, from 0 (C-11) to the number of names before
unfoldable pub made : Rules → List Name → ℕ → Spans → Said Name
made rules before d left =
    pick (leb d (length before))
    (then (tokens_from rules 128 1 (back before d).tokens 0 left) (λ vs rest. said (record { tokens = vs; distance = d }) rest))
    (refused reason.BadDistance)

-- rule 1: the type at position 0, DUP or DIFF, and the distance; 3: another type
unfoldable pub headed : Rules → List Name → ℕ → Spans → Said Name
headed rules before t left =
    pick (eqb t rules.numbers.dup) (then (from four left (span_of 0 dup_stream)) (copy before))
    (pick (eqb t rules.numbers.diff) (then (from four left (span_of 0 diff_stream)) (made rules before))
    (refused reason.UnknownType))

-- the next name
unfoldable pub next : Rules → List Name → Spans → Said Name
next rules before left = then (from byte left (span_of 0 type_stream)) (headed rules before)

-- how reading a block ends: with nothing left of any span, with bytes left, or refused at a name
pub data Ending : Type 0 where
  done : Ending
  unread : Ending
  stopped : Reason → Ending

-- the names in their order, and the ending; a name that is refused is the one after them
pub record Telling : Type 0 where
  pub names : List Name
  pub ending : Ending

abbrev pub tell : Name → Telling → Telling
tell n t = record { names = n ∷ t.names; ending = t.ending }

unfoldable pub is_empty : List ℕ → Bool
is_empty [] = true
is_empty (b ∷ l) = false

-- every span at its end
abbrev pub all_empty : Spans → Bool
all_empty left = each (λ j. is_empty (left j)) 0 1290

unfoldable pub go_on : (Name → Spans → Telling) → Said Name → Telling
go_on rest (said n left) = tell n (rest n left)
go_on rest (refused r) = record { names = []; ending = stopped r }

-- so many names more
unfoldable pub names_from : Rules → ℕ → List Name → Spans → Telling
names_from rules zero before left = record { names = []; ending = pick (all_empty left) done unread }
names_from rules (suc n) before left = go_on (λ name. names_from rules n (name ∷ before)) (next rules before left)

-- a block's bytes, its directory and its count
unfoldable pub telling : Rules → List ℕ → List ℕ → ℕ → Telling
telling rules bytes dir count = names_from rules count [] (λ j. part bytes (start_of dir j) (end_of dir j))
