use Prim.Native.Nat.{ℕ}
use mathlib.Core.Path.{ap, ◌∙◌}
use mathlib.Core.List.{List}
use lib.ListN.{get_or}
use Rattle.classes.proofs.Laws.{tabled_at}
use borrow.Author.Rules.{rules}
use Rattle.classes.proofs.tabled_in.Goals as goal

pub returns : goal.returns
returns c = let b : ℕ = c.args.b in ap (λ (t : List ℕ). get_or t b 0) c.requires ∙ tabled_at b (search rules)
