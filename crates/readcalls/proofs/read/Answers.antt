use mathlib.Core.Path.{◌∙◌}
use Rattle.readcalls.proofs.Laws.{read_call_law, read_state}
use borrow.Author.Rules.{rules}
use Rattle.readcalls.proofs.read.Goals as goal

pub returns : goal.returns
returns c =
    let v =
    read_call_law _ _ _ _ _ c.read-r.result.state _ c.read-r.ensures c.answered.ensures c.state_out.ensures
    ∙ read_state _ _ _ _ _ _ _ _ c.state_in-given.ensures in
    search rules
