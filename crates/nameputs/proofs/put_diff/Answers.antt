use mathlib.Core.Path.{sym, ap, ◌∙◌, subst}
use native.Mathlib.Omega.{arith}
use Rattle.block.specs.Streams.{diff_stream}
use Rattle.numbering.specs.Types.{numbers_of, rules_of}
use Rattle.laying.proofs.Passes.{run_append, roomy_append}
use Rattle.choices.specs.Choices.{choices_of}
use Rattle.laying.specs.Passes.{World, world, run_of, Roomy}
use Rattle.tokenputs.specs.TokenPuts.{token_puts}
use Rattle.nameputs.specs.NamePuts.{head_puts}
use Rattle.nameputs.proofs.put_diff.Goals as goal

pub put_head-next-requires : goal.put_head-next-requires
put_head-next-requires c =
    let a = c.args in record {
      roomy = rw c.diff_number-number.ensures (roomy_append a.pass (head_puts (numbers_of a.set.kind).diff diff_stream a.distance.0) (token_puts (rules_of a.set) a.name.now 1 (choices_of a.before.now a.name.now)) (world a.total a.directory.now a.bytes.now) c.requires.roomy).0;
    }

pub put_tokens-requires : goal.put_tokens-requires
put_tokens-requires c =
    let a = c.args in record {
      table_value = c.requires.table_value;
      roomy = subst (λ (w : World). Roomy a.pass (token_puts (rules_of a.set) a.name.now 1 (choices_of a.before.now a.name.now)) w) (sym (rw c.diff_number-number.ensures at c.put_head-next.ensures)) (roomy_append a.pass (head_puts (numbers_of a.set.kind).diff diff_stream a.distance.0) (token_puts (rules_of a.set) a.name.now 1 (choices_of a.before.now a.name.now)) (world a.total a.directory.now a.bytes.now) c.requires.roomy).1;
    }

pub returns : goal.returns
returns c =
    let a = c.args in
    c.put_tokens.ensures ∙ ap (run_of a.pass (token_puts (rules_of a.set) a.name.now 1 (choices_of a.before.now a.name.now))) (rw c.diff_number-number.ensures at c.put_head-next.ensures) ∙ sym (run_append a.pass (head_puts (numbers_of a.set.kind).diff diff_stream a.distance.0) (token_puts (rules_of a.set) a.name.now 1 (choices_of a.before.now a.name.now)) (world a.total a.directory.now a.bytes.now))
