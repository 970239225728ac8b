use mathlib.Core.Path.{ap, ◌∙◌}
use Rattle.base.specs.Memory.{written}
use Rattle.digits.specs.Digits.{padded}
use Rattle.digits.proofs.Laws.{padded_mod}
use Rattle.digits.proofs.print_padded.Goals as goal

pub returns-else-w-gt10 : goal.returns-else-w-gt10
returns-else-w-gt10 c =
    let a = c.args in
    c.put_digits.ensures
    ∙ ap (written a.buf.now a.at) (ap (λ m. padded m a.width) c.fraction-f.ensures.1 ∙ padded_mod a.n a.width)
