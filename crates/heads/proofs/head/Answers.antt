use Rattle.heads.proofs.Heads.{head_dup, head_diff, head_other, head_short}
use Rattle.sources.specs.Source.{source}
use Rattle.std.specs.Prelude.{Some, None, Err}
use Rattle.refusals.specs.declared.Reason.TheVariants as reason
use mathlib.Core.Path.{◌≡◌, sym, ◌∙◌}
use borrow.Author.Rules.{rules}
use Rattle.numbering.specs.Types.{rules_of}
use Rattle.heads.proofs.head.Goals as goal
use Rattle.heads.proofs.head.Goals.{In_ok-t, In_err-t}

-- the type's byte
found : (c : goal.In_ok-t) → c.byte_in-found.result ≡ Some (c.in_ok-t.t, c.in_ok-t.field-0-1)
found c = search rules

missing : (c : goal.In_err-t) → c.byte_in-found.result ≡ None
missing c = search rules

pub returns-then-t-dup_number : goal.returns-then-t-dup_number
returns-then-t-dup_number c =
    let a = c.args in let s = source (rules_of a.set) a.bytes.now a.dir.now a.cursors.now in
    head_dup s a.n (sym (c.byte_in-found.ensures (rules_of a.set)) ∙ found (goal.at.returns-then-t-dup_number c).In_ok-t) (c.if-t-dup_number.true ∙ c.dup_number.ensures) (c.distance_in.ensures (rules_of a.set)) c.dup_head.ensures

pub returns-then-t-diff_number : goal.returns-then-t-diff_number
returns-then-t-diff_number c =
    let a = c.args in let s = source (rules_of a.set) a.bytes.now a.dir.now a.cursors.now in
    head_diff s a.n (sym (c.byte_in-found.ensures (rules_of a.set)) ∙ found (goal.at.returns-then-t-diff_number c).In_ok-t) (c.if-t-diff_number.true ∙ c.diff_number.ensures) (c.distance_in-then-t-diff_number.ensures (rules_of a.set)) c.diff_head.ensures

pub returns-else-t-diff_number : goal.returns-else-t-diff_number
returns-else-t-diff_number c =
    let a = c.args in let s = source (rules_of a.set) a.bytes.now a.dir.now a.cursors.now in
    head_other s a.n (sym (c.byte_in-found.ensures (rules_of a.set)) ∙ found (goal.at.returns-else-t-diff_number c).In_ok-t)
    (λ e. c.if-t-dup_number.false (e ∙ sym c.dup_number.ensures)) (λ e. c.if-t-diff_number.false (e ∙ sym c.diff_number.ensures))

pub returns-in_err-t : goal.returns-in_err-t
returns-in_err-t c =
    let a = c.args in let s = source (rules_of a.set) a.bytes.now a.dir.now a.cursors.now in
    let r : c.from_residual.result ≡ Err reason.Short = search rules in
    r ∙ head_short s a.n (sym (c.byte_in-found.ensures (rules_of a.set)) ∙ missing (goal.at.returns-in_err-t c).In_err-t)
