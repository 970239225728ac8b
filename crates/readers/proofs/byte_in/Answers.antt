use borrow.Author.Rules.{rules}
use mathlib.Core.Path.{◌≡◌, sym, ap, ◌∙◌}
use native.Mathlib.Omega.{arith}
use Rattle.std.specs.Prelude.{Some, None}
use Rattle.spans.specs.Spans.{byte_at}
use Rattle.readers.specs.Readers.{byte_of}
use Rattle.readers.proofs.Moved.{byte_moved, byte_part, byte_fits}
use Rattle.readers.proofs.byte_in.Goals as goal
use Rattle.readers.proofs.byte_in.Goals.{In_ok-b, In_err-b}

-- what the span's reader gave
found : (c : goal.In_ok-b) → c.first_byte.result ≡ Some (c.in_ok-b.b, c.in_ok-b.next)
found c = search rules

missing : (c : goal.In_err-b) → c.first_byte.result ≡ None
missing c = search rules

pub overflow_add-result : goal.overflow_add-result
overflow_add-result c =
    let f = found (goal.at.overflow_add-result c).In_ok-b in
    omega (arith, byte_fits c.args.bytes.now c.args.at.0 c.args.end.0 c.requires.0 c.requires.1 (omega (arith, c.well_formed.1.1)) (sym (c.first_byte.ensures ∙ ap byte_of c.left_of.ensures) ∙ f))

pub returns : goal.returns
returns c =
    let f = found (goal.at.returns c).In_ok-b in
    ap (byte_moved c.args.at.0) (sym f ∙ c.first_byte.ensures ∙ ap byte_of c.left_of.ensures)
    ∙ byte_part c.args.bytes.now c.args.at.0 c.args.end.0 c.requires.0 c.requires.1 (omega (arith, c.well_formed.1.1))

pub returns-in_err-b : goal.returns-in_err-b
returns-in_err-b c =
    let f = missing (goal.at.returns-in_err-b c).In_err-b in
    let e : None ≡ byte_at c.args.bytes.now c.args.at.0 c.args.end.0 =
    ap (byte_moved c.args.at.0) (sym f ∙ c.first_byte.ensures ∙ ap byte_of c.left_of.ensures)
    ∙ byte_part c.args.bytes.now c.args.at.0 c.args.end.0 c.requires.0 c.requires.1 (omega (arith, c.well_formed.1.1))
    in
    search rules
