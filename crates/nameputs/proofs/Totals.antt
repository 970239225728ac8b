-- How much the names put: each put names a span, and the total has 32 bits.
use Prim.Native.Nat.{ℕ, ◌+◌, ◌*◌, ◌^◌, ◌≤◌, ◌<◌}
use Rattle.std.specs.Prelude.{None}
use mathlib.Core.Path.{◌≡◌, refl, ap}
use mathlib.Core.List.{List, [], ◌∷◌, ◌++◌}
use native.Mathlib.Omega.{arith}
use lib.Dec.{eqb}
use lib.ListN.{length, length-append}
use Rattle.base.proofs.Choice.{pick_true, pick_false, by_test}
use Rattle.spans.specs.Spans.{four_bytes}
use Rattle.block.proofs.Laws.{span_below}
use Rattle.block.specs.Streams.{dup_stream, diff_stream}
use Rattle.numbering.specs.Types.{Rules}
use Rattle.distances.specs.declared.Reference.{Reference}
use Rattle.distances.specs.declared.Reference.TheVariants.{Dup, Diff}
use Rattle.choices.specs.Choices.{choices_from, choices_of}
use Rattle.references.specs.References.{reference_of, leans_on}
use Rattle.laying.specs.Puts.{total_of}
use Rattle.laying.proofs.Passes.{Inside, inside_append, size_of, size_append, size_total}
use Rattle.inputs.specs.Inputs.{judged_from, names_after, names_of}
use Rattle.tokenputs.specs.TokenPuts.{token_puts}
use Rattle.nameputs.specs.NamePuts.{head_puts, reference_puts, name_puts, puts_from, puts_of}
use Rattle.nameputs.specs.Totals.{TotalMost}
use Rattle.inputs.proofs.Laws.{good_holds, fine_first}
use Rattle.tokenputs.proofs.Sizes.{tokens_inside, tokens_size}

head_inside : (k i d : ℕ) → i ≤ 9 → Inside (head_puts k i d)
unfolding head_puts
head_inside k i d h = (span_below 0 0 (omega arith) (omega arith), (span_below 0 i (omega arith) h, tt))

reference_inside : (rules : Rules) (r s : List ℕ) (x : Reference) → Inside (reference_puts rules r s x)
unfolding reference_puts choices_of
reference_inside rules r s (Dup d) = head_inside rules.numbers.dup dup_stream d.0 (omega arith)
reference_inside rules r s (Diff d) = inside_append (head_puts rules.numbers.diff diff_stream d.0) _ (head_inside rules.numbers.diff diff_stream d.0 (omega arith)) (tokens_inside rules r s 127 1 0 0 (omega arith))

pub puts_inside : (rules : Rules) (n : ℕ) (before : List ℕ) (names : List (List ℕ)) → Inside (puts_from rules n before names)
unfolding puts_from name_puts
puts_inside rules n before [] = tt
puts_inside rules n before (s ∷ ss) = inside_append (name_puts rules n before s) _ (reference_inside rules (leans_on n before) s (reference_of n before s)) (puts_inside rules (n + 1) s ss)

-- Sizes

head_size : (k i d : ℕ) → size_of (head_puts k i d) ≡ 5
unfolding head_puts four_bytes
head_size k i d = refl

reference_size : (rules : Rules) (r s : List ℕ) (x : Reference) → size_of (reference_puts rules r s x) ≤ 6 * length s + 6
unfolding reference_puts choices_of
reference_size rules r s (Dup d) = omega (arith, head_size rules.numbers.dup dup_stream d.0)
reference_size rules r s (Diff d) = omega (
  arith,
  size_append (head_puts rules.numbers.diff diff_stream d.0) (token_puts rules s 1 (choices_from r s 127 1 0 0)),
  head_size rules.numbers.diff diff_stream d.0,
  tokens_size rules r s 127 1 0 0 (omega arith),
)

pub name_size : (rules : Rules) (n : ℕ) (before s : List ℕ) → size_of (name_puts rules n before s) ≤ 6 * length s + 6
unfolding name_puts
name_size rules n before s = reference_size rules (leans_on n before) s (reference_of n before s)

pub puts_size : (rules : Rules) (n : ℕ) (before : List ℕ) (names : List (List ℕ)) → judged_from n names ≡ None → size_of (puts_from rules n before names) ≤ 1530 * length names
unfolding puts_from
puts_size rules n before [] e = omega arith
puts_size rules n before (s ∷ ss) e =
    let f = fine_first n s ss e in
    omega (arith, size_append (name_puts rules n before s) (puts_from rules (n + 1) s ss), name_size rules n before s, (good_holds s f.0).1.0, puts_size rules (n + 1) s ss f.1)

-- 65,536 good names put less than 2^32 bytes
pub total_below : (rules : Rules) (names : List (List ℕ)) → judged_from 0 names ≡ None → length names ≤ 65536 → total_of (puts_of rules names) < 2 ^ 32
unfolding puts_of
total_below rules names e h = omega (arith, size_total (puts_from rules 0 [] names) (puts_inside rules 0 [] names), puts_size rules 0 [] names e)

-- six bytes for each of a name's, and for the byte 10 behind it the head and END
names_size : (rules : Rules) (n : ℕ) (before so l : List ℕ) → size_of (puts_from rules n before (names_after so l)) ≤ 6 * (length so + length l)
unfolding puts_from names_after
names_size rules n before so [] = omega arith
names_size rules n before so (b ∷ l) = by_test (eqb b 10)
    (λ e. omega (
      arith,
      ap (λ (ss : List (List ℕ)). size_of (puts_from rules n before ss)) (pick_true (so ∷ names_after [] l) (names_after (so ++ b ∷ []) l) e),
      size_append (name_puts rules n before so) (puts_from rules (n + 1) so (names_after [] l)),
      name_size rules n before so,
      names_size rules (n + 1) so [] l,
    ))
    (λ e. omega (
      arith,
      ap (λ (ss : List (List ℕ)). size_of (puts_from rules n before ss)) (pick_false (so ∷ names_after [] l) (names_after (so ++ b ∷ []) l) e),
      length-append so (b ∷ []),
      names_size rules n before (so ++ b ∷ []) l,
    ))

pub total_most : TotalMost
unfolding puts_of names_of
total_most rules input = omega (arith, size_total (puts_from rules 0 [] (names_of input)) (puts_inside rules 0 [] (names_of input)), names_size rules 0 [] [] input)
