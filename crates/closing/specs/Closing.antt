-- The line that closes a listing: the totals, or the refusal.
use Rattle.std.specs.Prelude.{ℕ, List, ◌++◌}
use Rattle.digits.specs.Digits.{printed}
use Rattle.refusals.specs.Refusals.{number_of}
use Rattle.refusals.specs.declared.Refusal.{Refusal}
use Rattle.refusals.specs.declared.Refusal.TheVariants.{Plain, At}
use Rattle.texts.specs.Words.{refused_word, at_word, names_word, bytes_word, newline}

-- "refused" and the number, then "at" and the name's number if there is one
unfoldable pub refusal_text : Refusal → List ℕ
refusal_text (Plain r) = (refused_word ++ printed (number_of r)) ++ newline
refusal_text (At r n) = (refused_word ++ printed (number_of r)) ++ ((at_word ++ printed n) ++ newline)

-- the totals, of names and of bytes
unfoldable pub totals_text : ℕ → ℕ → List ℕ
totals_text names bytes = printed names ++ ((names_word ++ printed bytes) ++ bytes_word)
