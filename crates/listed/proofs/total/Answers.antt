use Rattle.numbering.specs.Types.{draft_plain, rules_of}
use Rattle.filling.proofs.Filled.{total_room, total_is}
use Rattle.listed.proofs.Answers.{ready}
use mathlib.Core.Path.{refl}
use Rattle.listed.proofs.total.Goals as goal

pub put_names-requires : goal.put_names-requires
put_names-requires c =
    let a = c.args in record {
      table_value = c.requires.table_value;
      input_value = (c.requires.good.ends, c.requires.good.few);
      roomy = total_room (rules_of draft_plain) a.input.now _ _ (ready a.input.now _ c.requires.good refl);
    }

pub returns : goal.returns
returns c =
    let a = c.args in
    total_is (rules_of draft_plain) a.input.now _ _ (ready a.input.now _ c.requires.good refl) c.put_names.ensures
