use Rattle.inner.proofs.Outcomes.{next_finished, next_dup, next_diff, next_refused}
use Rattle.heads.proofs.Heads.{head_passable, dup_told, diff_told}
use Rattle.sources.specs.Source.{source}
use native.Mathlib.Omega.{arith}
use Rattle.std.specs.Prelude.{Ok}
use mathlib.Core.Path.{sym, ap, ◌∙◌}
use Rattle.numbering.specs.Types.{rules_of}
use Rattle.tables.specs.Tables.{in_rows}
use Rattle.inner.proofs.next.Goals as goal

pub returns-then-k-state : goal.returns-then-k-state
returns-then-k-state c =
    let a = c.args in
    next_finished (rules_of a.set) a.bytes.now a.dir.now a.cursors.now a.text.now a.entries.now (in_rows a.rows.now) a.state c.if-k-state.true c.finish.ensures

pub dup-requires : goal.dup-requires
dup-requires c =
    let a = c.args in
    let t = dup_told (source (rules_of a.set) a.bytes.now a.dir.now a.cursors.now) a.state.names _ (sym c.head.ensures ∙ c.in-Ok-Dup.is ∙ ap Ok c.in-Ok-Dup.field-0-is) in record {
      counted = c.requires.counted;
      le_distance = (t.0, t.1.near);
      cursors_len = (c.requires.fact.table, head_passable _ _ _ _ _ _ _ (λ i. omega (arith, c.type_inv.dir i)) t.1);
      known = c.requires.known;
    }

pub diff-requires : goal.diff-requires
diff-requires c =
    let a = c.args in record {
      fact = c.requires.fact;
      counted = c.requires.counted;
      headed = diff_told (source (rules_of a.set) a.bytes.now a.dir.now a.cursors.now) a.state.names _ (sym c.head.ensures ∙ c.in-Ok-Diff.is ∙ ap Ok c.in-Ok-Diff.field-0-is);
      known = c.requires.known;
    }

pub returns-in-Ok-Dup : goal.returns-in-Ok-Dup
returns-in-Ok-Dup c =
    let a = c.args in
    next_dup (rules_of a.set) a.bytes.now a.dir.now a.cursors.now a.text.now a.entries.now (in_rows a.rows.now) a.state c.if-k-state.false _ c.head.ensures (c.in-Ok-Dup.is ∙ ap Ok c.in-Ok-Dup.field-0-is) (c.dup.ensures (rules_of a.set) a.bytes.now a.dir.now)

pub returns-in-Ok-Diff : goal.returns-in-Ok-Diff
returns-in-Ok-Diff c =
    let a = c.args in
    next_diff (rules_of a.set) a.bytes.now a.dir.now a.cursors.now a.text.now a.entries.now (in_rows a.rows.now) a.state c.if-k-state.false _ c.head.ensures (c.in-Ok-Diff.is ∙ ap Ok c.in-Ok-Diff.field-0-is) c.diff.ensures

pub returns-in-Err : goal.returns-in-Err
returns-in-Err c =
    let a = c.args in
    next_refused (rules_of a.set) a.bytes.now a.dir.now a.cursors.now a.text.now a.entries.now (in_rows a.rows.now) a.state c.if-k-state.false _ c.head.ensures c.in-Err.is c.refuse.ensures
