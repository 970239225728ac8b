use Rattle.classes.proofs.Laws.{told_allowed}
use Rattle.classes.proofs.allowed_in.Goals as goal

pub returns : goal.returns
returns c = told_allowed _ c.tabled_in.ensures
