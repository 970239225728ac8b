use Rattle.pages.proofs.Pages.{said_by}
use mathlib.Core.Path.{refl}
use Rattle.pages.proofs.put.Goals as goal

pub returns : goal.returns
returns c = said_by c.args.out.now c.args.at c.args.text.now c.put_all.ensures refl
