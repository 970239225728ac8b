use Rattle.dupdiff.proofs.Leaning.{back_known, leant_rows, diff_over, diff_outside}
use mathlib.Core.List.{[]}
use mathlib.Core.Path.{◌≡◌, ◌∙◌}
use Rattle.numbering.specs.Types.{rules_of}
use Rattle.tables.specs.Tables.{keeping, in_rows}
use Rattle.earlier.specs.Back.{back_of}
use Rattle.dupdiff.proofs.diff.Goals as goal
use Rattle.dupdiff.proofs.diff.Goals.{then-known, else-known}

pub said_back-requires : goal.said_back-requires
said_back-requires c = record {
  names_in_bounds = c.requires.counted.entries;
  distance_le_names = c.requires.headed.near;
}

pub leans-back-requires : goal.leans-back-requires
leans-back-requires c = record {
  names_in_bounds = (c.requires.counted.entries, c.requires.counted.rows_used);
  distance_le_names = c.requires.headed.near;
}

pub named-requires : goal.named-requires
named-requires c =
    let a = c.args in
    -- the rows that it goes by, known to fit or judged
    let gone : c.if-known.back ≡ back_of (keeping a.state [] a.entries.now (in_rows a.rows.now)) a.distance.0 =
    elim c.if-known.branch [
      | then-known w ↦ w.back-is ∙ back_known a.state a.text.now a.entries.now (in_rows a.rows.now) a.distance.0 c.requires.known w.if-known.true c.requires.headed.near w.said_back.ensures
      | else-known w ↦ w.back-is ∙ w.leans-back.ensures
    ] in
    let l = leant_rows (rules_of a.set) a.bytes.now a.dir.now a.cursors.now a.text.now a.entries.now (in_rows a.rows.now) a.state a.distance.0 gone c.requires.counted c.requires.headed.near c.requires.known c.in-Ok.is in record {
      fact = c.requires.fact;
      counted = c.requires.counted;
      rows = l.0;
      headed = c.requires.headed;
      repeats = l.1;
    }

pub returns-in-Ok : goal.returns-in-Ok
returns-in-Ok c =
    let a = c.args in
    -- the rows that it goes by, known to fit or judged
    let gone : c.if-known.back ≡ back_of (keeping a.state [] a.entries.now (in_rows a.rows.now)) a.distance.0 =
    elim c.if-known.branch [
      | then-known w ↦ w.back-is ∙ back_known a.state a.text.now a.entries.now (in_rows a.rows.now) a.distance.0 c.requires.known w.if-known.true c.requires.headed.near w.said_back.ensures
      | else-known w ↦ w.back-is ∙ w.leans-back.ensures
    ] in
    diff_over (rules_of a.set) a.bytes.now a.dir.now a.cursors.now a.text.now a.entries.now (in_rows a.rows.now) a.state a.distance.0 gone c.in-Ok.is c.named.ensures

pub returns-in-Err : goal.returns-in-Err
returns-in-Err c =
    let a = c.args in
    -- the rows that it goes by, known to fit or judged
    let gone : c.if-known.back ≡ back_of (keeping a.state [] a.entries.now (in_rows a.rows.now)) a.distance.0 =
    elim c.if-known.branch [
      | then-known w ↦ w.back-is ∙ back_known a.state a.text.now a.entries.now (in_rows a.rows.now) a.distance.0 c.requires.known w.if-known.true c.requires.headed.near w.said_back.ensures
      | else-known w ↦ w.back-is ∙ w.leans-back.ensures
    ] in
    diff_outside (rules_of a.set) a.bytes.now a.dir.now a.cursors.now a.text.now a.entries.now (in_rows a.rows.now) a.state a.distance.0 gone c.in-Err.is c.refuse.ensures
