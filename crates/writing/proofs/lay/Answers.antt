use native.Mathlib.Omega.{arith}
use Rattle.numbering.specs.Types.{rules_of}
use Rattle.writing.proofs.Laid.{no_room, room, still_ready, done}
use Rattle.writing.proofs.lay.Goals as goal

pub returns-then-not-fits : goal.returns-then-not-fits
returns-then-not-fits c =
    let a = c.args in
    let e = c.fits.ensures in
    no_room (rules_of a.set) a.input.now a.directory.now a.bytes.now c.requires.ready e.0 e.1.0 e.1.1 c.if-not-fits.true

pub fill-total-requires : goal.fill-total-requires
fill-total-requires c =
    let a = c.args in
    let e = c.fits.ensures in record {
      table_value = c.requires.table_value;
      ready = still_ready (rules_of a.set) a.input.now a.directory.now a.bytes.now c.requires.ready e.0 e.1.0 e.1.1;
      input_in_bounds = room (rules_of a.set) a.input.now a.directory.now a.bytes.now c.requires.ready e.0 e.1.0 e.1.1 c.if-not-fits.false;
    }

pub returns : goal.returns
returns c =
    let a = c.args in
    let e = c.fits.ensures in
    let f = c.fill-total.ensures in
    done (rules_of a.set) a.input.now a.directory.now a.bytes.now c.requires.ready e.0 e.1.0 e.1.1 c.requires.names_value c.if-not-fits.false (omega (arith, f.0)) f.1.0 f.1.1
