use mathlib.Core.Path.{◌∙◌}
use Rattle.readcalls.proofs.Laws.{read_call_law, block_state}
use Rattle.readcalls.proofs.read_block.Goals as goal

pub returns : goal.returns
returns c =
    let v =
    read_call_law _ _ _ _ _ c.read_block-r.result.state _ c.read_block-r.ensures c.answered.ensures c.state_out.ensures
    ∙ block_state _ _ _ _ _ _ _ _ _ c.state_in-given.ensures in
    rw v
