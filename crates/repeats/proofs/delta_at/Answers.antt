use borrow.Author.Rules.{rules}
use mathlib.Core.Path.{◌≡◌, sym, ◌∙◌}
use mathlib.Core.List.{List}
use Prim.Native.Nat.{ℕ}
use Rattle.std.specs.Prelude.{Ok, Err}
use Rattle.tables.specs.Tables.{in_rows}
use Rattle.sources.specs.Source.{source, earlier}
use Rattle.repeats.specs.Repeats.{fitting, delta_at}
use Rattle.repeats.proofs.Ways.{delta_misses, delta_meets}
use Rattle.numbering.specs.Types.{Rules}
use Rattle.repeats.proofs.delta_at.Goals as goal
use Rattle.repeats.proofs.delta_at.Goals.{In_ok-r, In_err-r}

fits : (c : goal.In_ok-r) (text : List ℕ) → fitting (earlier text (in_rows c.args.rows.now) c.args.first c.args.count) c.args.p.0 7 ≡ Ok c.in_ok-r.r
fits c text = let e : c.fitting.result ≡ Ok c.in_ok-r.r = search rules in sym (c.fitting.ensures text) ∙ e

pub returns : goal.returns
returns c = λ rules text. delta_meets _ _ _ (fits (goal.at.returns c).In_ok-r text) (c.byte_in-found.ensures rules) c.delta_step.ensures

unfit : (c : goal.In_err-r) (text : List ℕ) → fitting (earlier text (in_rows c.args.rows.now) c.args.first c.args.count) c.args.p.0 7 ≡ Err c.in_err-r.field-0.0
unfit c text = let e : c.fitting.result ≡ Err c.in_err-r.field-0.0 = search rules in sym (c.fitting.ensures text) ∙ e

pub returns-in_err-r : goal.returns-in_err-r
returns-in_err-r c =
    let a = c.args in
    let r : c.from_residual.result ≡ Err c.in_err-r.field-0.0 = search rules in
    λ rules text.
    r ∙ delta_misses (source rules a.bytes.now a.dir.now a.cursors.now) _ _ (unfit (goal.at.returns-in_err-r c).In_err-r text)
