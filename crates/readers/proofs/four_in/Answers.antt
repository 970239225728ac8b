use borrow.Author.Rules.{rules}
use mathlib.Core.Path.{◌≡◌, sym, ap, ◌∙◌}
use native.Mathlib.Omega.{arith}
use Rattle.std.specs.Prelude.{Some, None}
use Rattle.spans.specs.Spans.{four_at}
use Rattle.readers.specs.Readers.{four_of}
use Rattle.readers.proofs.Moved.{four_moved, four_part, four_fits}
use Rattle.readers.proofs.four_in.Goals as goal
use Rattle.readers.proofs.four_in.Goals.{In_ok-v, In_err-v}

-- what the span's reader gave
found : (c : goal.In_ok-v) → c.first_four.result ≡ Some (c.in_ok-v.v, c.in_ok-v.next)
found c = search rules

missing : (c : goal.In_err-v) → c.first_four.result ≡ None
missing c = search rules

pub overflow_add-result : goal.overflow_add-result
overflow_add-result c =
    let f = found (goal.at.overflow_add-result c).In_ok-v in
    omega (arith, four_fits c.args.bytes.now c.args.at.0 c.args.end.0 c.requires.0 c.requires.1 (omega (arith, c.well_formed.1.1)) (sym (c.first_four.ensures ∙ ap four_of c.left_of.ensures) ∙ f))

pub returns : goal.returns
returns c =
    let f = found (goal.at.returns c).In_ok-v in
    ap (four_moved c.args.at.0) (sym f ∙ c.first_four.ensures ∙ ap four_of c.left_of.ensures)
    ∙ four_part c.args.bytes.now c.args.at.0 c.args.end.0 c.requires.0 c.requires.1 (omega (arith, c.well_formed.1.1))

pub returns-in_err-v : goal.returns-in_err-v
returns-in_err-v c =
    let f = missing (goal.at.returns-in_err-v c).In_err-v in
    let e : None ≡ four_at c.args.bytes.now c.args.at.0 c.args.end.0 =
    ap (four_moved c.args.at.0) (sym f ∙ c.first_four.ensures ∙ ap four_of c.left_of.ensures)
    ∙ four_part c.args.bytes.now c.args.at.0 c.args.end.0 c.requires.0 c.requires.1 (omega (arith, c.well_formed.1.1))
    in
    search rules
