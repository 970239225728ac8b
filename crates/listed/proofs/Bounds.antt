-- How long a listing can be.
use Prim.Native.Nat.{ℕ, ◌+◌, ◌*◌, ◌≤◌}
use Rattle.writing.specs.Writes.{WriteAnswer}
use Rattle.std.specs.Prelude.{Ok, Err}
use Rattle.refusals.specs.declared.Reason.TheVariants as reason
use mathlib.Core.Path.{ap}
use mathlib.Core.Logic.{⊎_elim}
use mathlib.Core.List.{List, []}
use native.Mathlib.Omega.{arith}
use borrow.Author.Tests.{lt-ltb, le-ltb}
use lib.ListN.{length, length-append}
use Rattle.base.proofs.Choice.{pick_true, pick_false}
use Rattle.base.proofs.Numbers.{lt_or_ge}
use Rattle.refusals.specs.declared.Refusal.TheVariants.{Plain}
use Rattle.numbering.specs.Types.{draft_plain, Rules, rules_of}
use Rattle.inputs.specs.Inputs.{names_after, names_of}
use Rattle.lines.specs.Lines.{lines_from, lines_of}
use Rattle.closing.specs.Closing.{refusal_text, totals_text}
use Rattle.listed.specs.Listing.{answer_text, answer_of, listing_of, listed_of, ListedShort}
use Rattle.lines.proofs.Bounds.{weight, lines_short, weight_names}
use Rattle.closing.proofs.Bounds.{refusal_short, totals_short}

answer_short : (names : List (List ℕ)) (a : WriteAnswer) → length (answer_text names a) ≤ 31 * weight names + 100
unfolding answer_text lines_of
answer_short names (Ok w) = omega (arith, length-append (lines_from 0 [] names) (totals_text w.names w.bytes), lines_short 0 [] names, totals_short w.names w.bytes)
answer_short names (Err r) = omega (arith, refusal_short r)

listing_short : (rules : Rules) (input : List ℕ) → length (listing_of rules input) ≤ 31 * length input + 100
unfolding listing_of names_of
listing_short rules input = omega (arith, answer_short (names_after [] input) (answer_of rules input), weight_names [] input)

pub listed_short : ListedShort
unfolding listed_of
listed_short input = ⊎_elim
    (λ l. omega (arith, ap length (pick_true (refusal_text (Plain reason.NoRoom)) (listing_of (rules_of draft_plain) input) (lt-ltb _ _ l)), refusal_short (Plain reason.NoRoom)))
    (λ l. omega (arith, ap length (pick_false (refusal_text (Plain reason.NoRoom)) (listing_of (rules_of draft_plain) input) (le-ltb _ _ l)), listing_short (rules_of draft_plain) input))
    (lt_or_ge 4096 (length input))
