use mathlib.Core.Path.{◌≡◌, refl, sym, ◌∙◌}
use Rattle.base.proofs.Choice.{took, left}
use Rattle.distances.specs.declared.Reference.TheVariants.{Diff}
use Rattle.references.specs.References.{reference_of}
use Rattle.references.proofs.reference_of.Goals as goal

pub returns-then-is_anew : goal.returns-then-is_anew
unfolding reference_of
returns-then-is_anew c =
    let a = c.args in
    let v : Diff (record { 0 = 0 }) ≡ reference_of a.n a.before.now a.name.now = took _ _ (sym c.is_anew.ensures ∙ c.if-is_anew.true) refl in
    rw (← v)

pub returns-then-same : goal.returns-then-same
unfolding reference_of
returns-then-same c = left _ _ (sym c.is_anew.ensures ∙ c.if-is_anew.false) (took _ _ (rw (← c.same.ensures) c.if-same.true) refl)

pub returns : goal.returns
unfolding reference_of
returns c = left _ _ (sym c.is_anew.ensures ∙ c.if-is_anew.false) (left _ _ (rw (← c.same.ensures) c.if-same.false) refl)
