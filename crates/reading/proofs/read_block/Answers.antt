use Rattle.reading.proofs.Loops.{block_starts, block_is, block_refused}
use Rattle.base.proofs.Choice.{pick_true}
use mathlib.Core.Path.{refl, ◌∙◌}
use Rattle.numbering.specs.Types.{rules_of}
use Rattle.tables.specs.Tables.{in_rows}
use Rattle.reading.proofs.read_block.Goals as goal

pub reads-requires : goal.reads-requires
reads-requires c =
    let a = c.args in
    let r = block_starts (rules_of a.set) a.bytes.now a.dir.now a.cursors.now a.text.now a.entries.now (in_rows a.rows.now) a.state a.count c.open.ensures c.in-Ok.is in
    record { fact = r.0; counted = r.1.0; known = r.1.1 }

pub returns-in-Ok : goal.returns-in-Ok
returns-in-Ok c =
    let a = c.args in
    block_is (rules_of a.set) a.bytes.now a.dir.now a.cursors.now a.text.now a.entries.now (in_rows a.rows.now) a.state a.count c.open.ensures c.in-Ok.is (c.reads.ensures ∙ pick_true _ _ refl)

pub returns-in-Err : goal.returns-in-Err
returns-in-Err c =
    let a = c.args in
    block_refused (rules_of a.set) a.bytes.now a.dir.now a.cursors.now a.text.now a.entries.now (in_rows a.rows.now) a.state a.count c.open.ensures c.in-Err.is
