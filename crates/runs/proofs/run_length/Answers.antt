use Rattle.runs.proofs.Matches.{text_length_law}
use Rattle.tables.specs.Tables.{in_rows}
use Rattle.runs.proofs.run_length.Goals as goal

pub returns : goal.returns
returns c =
    let a = c.args in
    rw (c.row_in-lead.ensures, c.row_in-last.ensures) (text_length_law (in_rows a.rows.now) a.from a.to)
