use Prim.Native.Nat.{ℕ}
use mathlib.Core.List.{List, ◌++◌}
use mathlib.Core.Path.{sym, ap, ◌∙◌, subst}
use native.Mathlib.Omega.{arith}
use Rattle.block.specs.Streams.{diff_stream}
use Rattle.numbering.specs.Types.{numbers_of, rules_of}
use Rattle.choices.specs.Choices.{choices_of}
use Rattle.laying.specs.Puts.{Put}
use Rattle.laying.specs.Passes.{world, run_of, Roomy}
use Rattle.tokenputs.specs.TokenPuts.{token_puts}
use Rattle.nameputs.specs.NamePuts.{head_puts}
use Rattle.nameputs.proofs.Laws.{dup_puts, diff_puts_law}
use Rattle.nameputs.proofs.put_name.Goals as goal

pub put_head-requires : goal.put_head-requires
put_head-requires c =
    let a = c.args in
    let e = sym c.reference_of.ensures ∙ c.in-Dup.is in record {
      roomy = rw c.dup_number-number.ensures (subst (λ (l : List Put). Roomy a.pass l (world a.total a.directory.now a.bytes.now)) (dup_puts (rules_of a.set) a.n a.before.now a.name.now _ e) c.requires.roomy);
    }

pub put_diff-requires : goal.put_diff-requires
put_diff-requires c =
    let a = c.args in
    let e = sym c.reference_of.ensures ∙ c.in-Diff.is in
    let d = c.in-Diff.d.0 in record {
      table_value = c.requires.table_value;
      roomy = subst (λ (r : List ℕ). Roomy a.pass (head_puts (numbers_of a.set.kind).diff diff_stream d ++ token_puts (rules_of a.set) a.name.now 1 (choices_of r a.name.now)) (world a.total a.directory.now a.bytes.now)) (sym c.leans_on.ensures)
          (subst (λ (l : List Put). Roomy a.pass l (world a.total a.directory.now a.bytes.now)) (diff_puts_law (rules_of a.set) a.n a.before.now a.name.now _ e) c.requires.roomy);
    }

pub returns-in-Dup : goal.returns-in-Dup
returns-in-Dup c =
    let a = c.args in
    let e = sym c.reference_of.ensures ∙ c.in-Dup.is in
    rw c.dup_number-number.ensures at c.put_head.ensures ∙ ap (λ (l : List Put). run_of a.pass l (world a.total a.directory.now a.bytes.now)) (sym (dup_puts (rules_of a.set) a.n a.before.now a.name.now _ e))

pub returns-in-Diff : goal.returns-in-Diff
returns-in-Diff c =
    let a = c.args in
    let e = sym c.reference_of.ensures ∙ c.in-Diff.is in
    let d = c.in-Diff.d.0 in
    c.put_diff.ensures
    ∙ ap (λ (r : List ℕ). run_of a.pass (head_puts (numbers_of a.set.kind).diff diff_stream d ++ token_puts (rules_of a.set) a.name.now 1 (choices_of r a.name.now)) (world a.total a.directory.now a.bytes.now)) c.leans_on.ensures
    ∙ ap (λ (l : List Put). run_of a.pass l (world a.total a.directory.now a.bytes.now)) (sym (diff_puts_law (rules_of a.set) a.n a.before.now a.name.now _ e))
