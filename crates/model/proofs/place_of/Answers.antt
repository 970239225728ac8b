use mathlib.Core.Path.{◌≡◌, sym, refl, ◌∙◌}
use mathlib.Core.Logic.{◌≢◌}
use native.Mathlib.Omega.{arith}
use borrow.Author.Rules.{rules}
use borrow.Author.Tests.{tests, eq-eqb, ne_eqb}
use Rattle.std.proofs.lemmas.Iterator.{YieldsList-from_slice, IsFirst-from_position, index_from_first}
use Rattle.base.specs.Choice.{pick}
use Rattle.model.specs.Model.{place_of}
use Rattle.model.proofs.place_of.Goals as goal

pub returns : goal.returns
unfolding place_of pick
returns c =
    let s = c.args.symbol in
    let xs = c.args.symbols.now in
    let first = IsFirst-from_position _ _ c.position.result (λ x. x ≡ s) (λ x. x ≢ s) c.position.ensures.ran (YieldsList-from_slice xs cc) (λ x q k. search (rules, tests)) (λ x q k. search (rules, tests)) in
    c.unwrap_or.ensures ∙ sym (index_from_first (λ l. place_of l s) (λ x. x ≡ s) (λ x. x ≢ s) refl (λ x l e. rw (eq-eqb x s e)) (λ x l e. rw (ne_eqb x s e) (omega arith)) xs c.position.result first)
