use Rattle.dupdiff.proofs.Earlier.{back_asks, back_known, back_fits, back_text, dup_fit, dup_unfit}
use native.Mathlib.Omega.{arith}
use Rattle.tables.specs.Tables.{in_rows}
use Rattle.dupdiff.proofs.dup.Goals as goal

pub fits_back-requires : goal.fits_back-requires
fits_back-requires c =
    let a = c.args in record {
      entry_size_in_bounds = back_asks a.state a.text.now a.entries.now (in_rows a.rows.now) _ c.requires.counted (omega (arith, c.requires.le_distance));
      back_value = back_known a.state a.text.now a.entries.now (in_rows a.rows.now) _ c.requires.counted (omega (arith, c.requires.le_distance)) c.requires.known;
    }

pub copied-requires : goal.copied-requires
copied-requires c =
    let a = c.args in record {
      counted = c.requires.counted;
      text_inside = back_text a.state a.text.now a.entries.now (in_rows a.rows.now) _ c.requires.counted (omega (arith, c.requires.le_distance)) (back_fits a.state a.text.now a.entries.now (in_rows a.rows.now) _ c.requires.counted (omega (arith, c.requires.le_distance)) c.fits_back.ensures c.if-fits_back.true) c.entry_at-e.ensures;
      cursors_len = c.requires.cursors_len;
    }

pub returns-then-fits_back : goal.returns-then-fits_back
returns-then-fits_back c =
    let a = c.args in
    λ rules bytes dir. dup_fit rules bytes dir a.cursors.now a.text.now a.entries.now (in_rows a.rows.now) a.state a.distance.0 (back_fits a.state a.text.now a.entries.now (in_rows a.rows.now) _ c.requires.counted (omega (arith, c.requires.le_distance)) c.fits_back.ensures c.if-fits_back.true) c.entry_at-e.ensures (c.copied.ensures rules bytes dir) (omega arith)

pub returns-else-fits_back : goal.returns-else-fits_back
returns-else-fits_back c =
    let a = c.args in
    λ rules bytes dir. dup_unfit rules bytes dir a.cursors.now a.text.now a.entries.now (in_rows a.rows.now) a.state a.distance.0 (back_fits a.state a.text.now a.entries.now (in_rows a.rows.now) _ c.requires.counted (omega (arith, c.requires.le_distance)) c.fits_back.ensures c.if-fits_back.false) c.refuse.ensures (omega arith)
