use Rattle.reading.proofs.Loops.{unknown, read_judged, read_is, read_miscounted, read_refused}
use Rattle.base.proofs.Choice.{pick_false}
use mathlib.Core.Path.{refl, sym, ◌∙◌}
use borrow.Author.Rules.{rules}
use Rattle.numbering.specs.Types.{rules_of}
use Rattle.tables.specs.Tables.{in_rows}
use Rattle.reading.proofs.read.Goals as goal

pub reads-requires : goal.reads-requires
reads-requires c =
    let a = c.args in
    let v = sym c.judge.ensures ∙ c.in-Ok.is in
    let q = read_judged (rules_of a.set) a.bytes.now a.dir.now a.cursors.now a.text.now a.entries.now (in_rows a.rows.now) a.state v (sym c.counts.ensures ∙ c.if-counts.true) in record {
      fact = q.0;
      counted = q.1;
      known = unknown _ (search rules);
    }

pub returns-in-Err : goal.returns-in-Err
returns-in-Err c =
    let a = c.args in
    read_refused (rules_of a.set) a.bytes.now a.dir.now a.cursors.now a.text.now a.entries.now (in_rows a.rows.now) a.state (sym c.judge.ensures ∙ c.in-Err.is) c.refuse_plain-in-Err.ensures

pub returns-then-counts : goal.returns-then-counts
returns-then-counts c =
    let a = c.args in
    let v = sym c.judge.ensures ∙ c.in-Ok.is in
    read_is (rules_of a.set) a.bytes.now a.dir.now a.cursors.now a.text.now a.entries.now (in_rows a.rows.now) a.state v (sym c.counts.ensures ∙ c.if-counts.true) (c.reads.ensures ∙ pick_false _ _ refl)

pub returns-else-counts : goal.returns-else-counts
returns-else-counts c =
    let a = c.args in
    let v = sym c.judge.ensures ∙ c.in-Ok.is in
    read_miscounted (rules_of a.set) a.bytes.now a.dir.now a.cursors.now a.text.now a.entries.now (in_rows a.rows.now) a.state v (sym c.counts.ensures ∙ c.if-counts.false) c.refuse_plain.ensures
