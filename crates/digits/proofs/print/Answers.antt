use borrow.Author.Rules.{rules}
use native.Mathlib.Omega.{arith}
use mathlib.Core.Path.{sym, ap, ◌∙◌}
use Rattle.base.specs.Memory.{written}
use Rattle.digits.specs.Digits.{padded}
use Rattle.digits.proofs.Laws.{length_printed, printed_padded, padded_mod, count_ten}
use Rattle.digits.proofs.print.Goals as goal

pub fraction-f-requires : goal.fraction-f-requires
fraction-f-requires c = omega (arith, c.count-w.ensures, count_ten c.args.n (search rules))

pub put_digits-requires : goal.put_digits-requires
put_digits-requires c =
    (c.fraction-f.ensures.0, omega (arith, c.count-w.ensures, length_printed c.args.n))

pub returns : goal.returns
returns c =
    let a = c.args in
    let w = c.count-w.result in (
      c.count-w.ensures ∙ sym (length_printed a.n),
      c.put_digits.ensures
          ∙ ap (written a.buf.now a.at) (ap (λ m. padded m w) c.fraction-f.ensures.1 ∙ padded_mod a.n w ∙ ap (padded a.n) c.count-w.ensures ∙ sym (printed_padded a.n)),
    )
