-- What the puts of a name and of the names are, in the forms in which their passes want them.
use Prim.Native.Nat.{ℕ, ◌+◌}
use mathlib.Core.Path.{◌≡◌, ap, ◌∙◌}
use mathlib.Core.List.{List, [], ◌∷◌, ◌++◌}
use Rattle.spans.specs.Spans.{four_bytes}
use Rattle.block.specs.Block.{span_of}
use Rattle.spans.specs.declared.Distance.{Distance}
use Rattle.block.specs.Streams.{dup_stream, diff_stream}
use Rattle.numbering.specs.Types.{Rules}
use Rattle.distances.specs.declared.Reference.TheVariants.{Dup, Diff}
use Rattle.choices.specs.Choices.{choices_of}
use Rattle.references.specs.References.{reference_of, leans_on}
use Rattle.laying.specs.declared.Pass.{Pass}
use Rattle.laying.specs.Puts.{put}
use Rattle.laying.specs.Passes.{World, step_of, run_of, Room, Roomy}
use Rattle.tokenputs.specs.TokenPuts.{token_puts}
use Rattle.nameputs.specs.NamePuts.{head_puts, reference_puts, name_puts, puts_from}

-- DUP or DIFF

pub head_room : (pass : Pass) (k i d : ℕ) (w : World) → Roomy pass (head_puts k i d) w → Room pass (span_of 0 0) 1 w × Room pass (span_of 0 i) 4 (step_of pass (put (span_of 0 0) (k ∷ [])) w)
unfolding head_puts Roomy four_bytes
head_room pass k i d w r = (r.0, r.1.0)

pub head_ran : (pass : Pass) (k i d : ℕ) (w u v : World) → u ≡ step_of pass (put (span_of 0 0) (k ∷ [])) w → v ≡ step_of pass (put (span_of 0 i) (four_bytes d)) u
    → v ≡ run_of pass (head_puts k i d) w
unfolding head_puts run_of
head_ran pass k i d w u v e f = f ∙ ap (step_of pass (put (span_of 0 i) (four_bytes d))) e

pub dup_puts : (rules : Rules) (n : ℕ) (before s : List ℕ) (d : Distance) → reference_of n before s ≡ Dup d → name_puts rules n before s ≡ head_puts rules.numbers.dup dup_stream d.0
unfolding name_puts reference_puts
dup_puts rules n before s d e = rw e

pub diff_puts_law : (rules : Rules) (n : ℕ) (before s : List ℕ) (d : Distance) → reference_of n before s ≡ Diff d → name_puts rules n before s ≡ head_puts rules.numbers.diff diff_stream d.0 ++ token_puts rules s 1 (choices_of (leans_on n before) s)
unfolding name_puts reference_puts
diff_puts_law rules n before s d e = rw e

-- The names

pub puts_none : (rules : Rules) (n : ℕ) (before : List ℕ) (names : List (List ℕ)) → names ≡ [] → puts_from rules n before names ≡ []
unfolding puts_from
puts_none rules n before names e = rw e

pub puts_more : (rules : Rules) (n : ℕ) (before : List ℕ) (names : List (List ℕ)) (s : List ℕ) (ss : List (List ℕ)) → names ≡ s ∷ ss → puts_from rules n before names ≡ name_puts rules n before s ++ puts_from rules (n + 1) s ss
unfolding puts_from
puts_more rules n before names s ss e = rw e
