use Rattle.numbering.proofs.Laws.{only_draft}
use Rattle.numbering.proofs.type_of.Goals as goal

pub returns : goal.returns
returns c = rw (only_draft c.args.kind) c.draft_type.ensures
