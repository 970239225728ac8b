use Rattle.numbering.proofs.Laws.{only_draft}
use Rattle.numbering.proofs.type_number.Goals as goal

pub returns : goal.returns
returns c = rw (only_draft c.args.kind) c.draft_number.ensures
