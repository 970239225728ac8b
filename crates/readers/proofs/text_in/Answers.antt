use borrow.Author.Rules.{rules}
use mathlib.Core.Path.{◌≡◌, sym, ap, ◌∙◌}
use native.Mathlib.Omega.{arith}
use Rattle.std.specs.Prelude.{Some, None, ◌≤◌, ◌<◌, ◌+◌, ◌^◌}
use Rattle.spans.specs.Spans.{text_at}
use Rattle.readers.specs.Readers.{text_of}
use Rattle.readers.proofs.Moved.{text_moved, text_part, text_fits}
use Rattle.readers.proofs.text_in.Goals as goal
use Rattle.readers.proofs.text_in.Goals.{In_ok-text, In_err-text}

-- what the span's reader gave
found : (c : goal.In_ok-text) → c.first_text.result ≡ Some c.in_ok-text.text
found c = search rules

missing : (c : goal.In_err-text) → c.first_text.result ≡ None
missing c = search rules

-- moved cursors fit a cursor
fits : (c : goal.In_ok-text) → let t = c.in_ok-text.text in (t.start.0 ≤ t.end.0) × ((t.end.0 ≤ t.next.0) × (c.args.at.0 + t.next.0 < 2 ^ 32))
fits c =
    text_fits c.args.bytes.now c.args.at.0 c.args.end.0 c.requires.0 c.requires.1 (omega (arith, c.well_formed.1.1)) (sym (c.first_text.ensures ∙ ap text_of c.left_of.ensures) ∙ found c)

pub overflow_add-result : goal.overflow_add-result
overflow_add-result c = omega (arith, fits (goal.at.overflow_add-result c).In_ok-text)

pub overflow_add-result-2 : goal.overflow_add-result-2
overflow_add-result-2 c = omega (arith, fits (goal.at.overflow_add-result-2 c).In_ok-text)

pub overflow_add-result-3 : goal.overflow_add-result-3
overflow_add-result-3 c = omega (arith, fits (goal.at.overflow_add-result-3 c).In_ok-text)

pub returns : goal.returns
returns c =
    ap (text_moved c.args.at.0) (sym (found (goal.at.returns c).In_ok-text) ∙ c.first_text.ensures ∙ ap text_of c.left_of.ensures)
    ∙ text_part c.args.bytes.now c.args.at.0 c.args.end.0 c.requires.0 c.requires.1 (omega (arith, c.well_formed.1.1))

pub returns-in_err-text : goal.returns-in_err-text
returns-in_err-text c =
    let e : None ≡ text_at c.args.bytes.now c.args.at.0 c.args.end.0 =
    ap (text_moved c.args.at.0) (sym (missing (goal.at.returns-in_err-text c).In_err-text) ∙ c.first_text.ensures ∙ ap text_of c.left_of.ensures)
    ∙ text_part c.args.bytes.now c.args.at.0 c.args.end.0 c.requires.0 c.requires.1 (omega (arith, c.well_formed.1.1))
    in
    search rules
