use Rattle.numbering.specs.Types.{rules_of}
use Rattle.filling.proofs.Filled.{first_room, places_room, last_room, filled}
use Rattle.filling.proofs.fill.Goals as goal

pub put_names-requires : goal.put_names-requires
put_names-requires c =
    let a = c.args in record {
      table_value = c.requires.table_value;
      input_value = (c.requires.ready.ends, c.requires.ready.few);
      roomy = first_room (rules_of a.set) a.input.now a.directory.now a.bytes.now c.requires.ready c.requires.input_in_bounds c.clear.ensures;
    }

pub lay_out-requires : goal.lay_out-requires
lay_out-requires c =
    let a = c.args in
    places_room (rules_of a.set) a.input.now a.directory.now a.bytes.now c.requires.ready c.requires.input_in_bounds c.clear.ensures c.put_names.ensures

pub put_names-requires-2 : goal.put_names-requires-2
put_names-requires-2 c =
    let a = c.args in record {
      table_value = c.requires.table_value;
      input_value = (c.requires.ready.ends, c.requires.ready.few);
      roomy = last_room (rules_of a.set) a.input.now a.directory.now a.bytes.now c.requires.ready c.requires.input_in_bounds c.clear.ensures c.put_names.ensures c.lay_out.ensures;
    }

pub returns : goal.returns
returns c =
    let a = c.args in
    filled (rules_of a.set) a.input.now a.directory.now a.bytes.now c.requires.ready c.requires.input_in_bounds c.clear.ensures c.put_names.ensures c.lay_out.ensures c.put_names-2.ensures
