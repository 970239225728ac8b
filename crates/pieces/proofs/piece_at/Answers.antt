use mathlib.Core.Path.{◌≡◌, sym, ap, ◌∙◌}
use native.Mathlib.Omega.{arith}
use borrow.Author.Rules.{rules}
use borrow.Author.Tests.{eq-eqb, ne_eqb}
use Rattle.base.proofs.Choice.{took, left}
use Rattle.classes.specs.declared.Class.TheVariants.{Digit}
use Rattle.classes.proofs.Laws.{same_of, same_not}
use Rattle.pieces.specs.Pieces.{piece_at, text_piece, number_piece}
use Rattle.splitting.proofs.Runs.{run_number, cut_last, cut_run, cut_range}
use Rattle.splitting.proofs.Cuts.{cut_end, cut_number}
use Rattle.pieces.proofs.piece_at.Goals as goal

pub text_piece-requires : goal.text_piece-requires
text_piece-requires c =
    let a = c.args in
    let e = cut_end a.name.now a.p.0 a.at c.requires.at_in_bounds.1 in
    rw e (cut_range a.name.now a.at c.requires.at_in_bounds.0 a.p.0)

pub returns-then-p-eq-LAST : goal.returns-then-p-eq-LAST
unfolding piece_at
returns-then-p-eq-LAST c =
    let a = c.args in
    let e = cut_end a.name.now a.p.0 a.at c.requires.at_in_bounds.1 ∙ cut_last a.name.now a.at c.requires.at_in_bounds.0 a.p.0 (omega arith) in
    took _ _ (eq-eqb a.p.0 127 (omega arith)) (c.text_piece.ensures ∙ ap (text_piece a.name.now a.at) e)

pub number_piece-requires : goal.number_piece-requires
number_piece-requires c =
    let a = c.args in
    let d : c.class_in.result ≡ Digit = search rules in
    let k = sym c.class_in.ensures ∙ d in
    let r = cut_range a.name.now a.at c.requires.at_in_bounds.0 a.p.0 in
    let e = cut_end a.name.now a.p.0 a.at c.requires.at_in_bounds.1 in
    let u = cut_run a.name.now a.at c.requires.at_in_bounds.0 a.p.0 (omega arith) in
    let n = run_number a.name.now a.at c.requires.at_in_bounds.0 k in
    let v = cut_number a.name.now a.p.0 a.at c.requires.at_in_bounds.1 c.requires.at_in_bounds.0 (omega arith) k in
    rw e (r.0, (r.1, (rw u n.0, v)))

pub returns-then-eq : goal.returns-then-eq
unfolding piece_at
returns-then-eq c =
    let a = c.args in
    let d : c.class_in.result ≡ Digit = search rules in
    let e = cut_end a.name.now a.p.0 a.at c.requires.at_in_bounds.1 ∙ cut_run a.name.now a.at c.requires.at_in_bounds.0 a.p.0 (omega arith) in
    left _ _ (ne_eqb a.p.0 127 (omega arith))
    (took _ _ (same_of _ _ (sym c.class_in.ensures ∙ d))
    (c.number_piece.ensures ∙ ap (number_piece a.name.now a.at) e))

pub text_piece-requires-2 : goal.text_piece-requires-2
text_piece-requires-2 c =
    let a = c.args in
    let e = cut_end a.name.now a.p.0 a.at c.requires.at_in_bounds.1 in
    rw e (cut_range a.name.now a.at c.requires.at_in_bounds.0 a.p.0)

pub returns : goal.returns
unfolding piece_at
returns c =
    let a = c.args in
    let d : c.class_in.result ≡ Digit → ⊥ = search rules in
    let e = cut_end a.name.now a.p.0 a.at c.requires.at_in_bounds.1 ∙ cut_run a.name.now a.at c.requires.at_in_bounds.0 a.p.0 (omega arith) in
    left _ _ (ne_eqb a.p.0 127 (omega arith))
    (left _ _ (same_not _ _ (λ e. d (c.class_in.ensures ∙ e)))
    (c.text_piece-2.ensures ∙ ap (text_piece a.name.now a.at) e))
