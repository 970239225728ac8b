use Prim.Native.Nat.{◌*◌, ◌≤◌}
use mathlib.Core.Path.{refl}
use native.Mathlib.Nat.{div-add-mod}
use native.Mathlib.Omega.{arith}
use lib.ListN.{length}
use Rattle.numbering.specs.Types.{rules_of}
use Rattle.filling.proofs.Filled.{ample, total_room, counted_out}
use Rattle.filling.proofs.fits.Goals as goal

pub returns-then-input-bytes : goal.returns-then-input-bytes
returns-then-input-bytes c =
    let a = c.args in
    let h : 6 * length a.input.now ≤ length a.bytes.now = omega (arith, div-add-mod (length a.bytes.now) 6) in
    (ample (rules_of a.set) a.input.now a.directory.now a.bytes.now c.requires.ready h, (refl, refl))

pub put_names-total-requires : goal.put_names-total-requires
put_names-total-requires c =
    let a = c.args in record {
      table_value = c.requires.table_value;
      input_value = (c.requires.ready.ends, c.requires.ready.few);
      roomy = total_room (rules_of a.set) a.input.now a.directory.now a.bytes.now c.requires.ready;
    }

pub returns : goal.returns
returns c =
    let a = c.args in
    counted_out (rules_of a.set) a.input.now a.directory.now a.bytes.now c.requires.ready c.put_names-total.ensures refl
