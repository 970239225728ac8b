use mathlib.Core.Path.{sym, ◌∙◌}
use native.Mathlib.Omega.{arith}
use Rattle.numbering.specs.Types.{rules_of}
use Rattle.writing.proofs.Laid.{countable_of, unended, too_many, refused_1, refused_12, refused_8, judged, accepted}
use Rattle.writing.proofs.write.Goals as goal

pub returns-then-directory-ne-DIRECTORY : goal.returns-then-directory-ne-DIRECTORY
returns-then-directory-ne-DIRECTORY c =
    let a = c.args in
    refused_1 (rules_of a.set) a.input.now a.directory.now a.bytes.now c.if-directory-ne-DIRECTORY.true

pub returns-then-not-all_ended : goal.returns-then-not-all_ended
returns-then-not-all_ended c =
    let a = c.args in
    refused_12 (rules_of a.set) a.input.now a.directory.now a.bytes.now c.if-directory-ne-DIRECTORY.false (unended a.input.now (sym c.all_ended.ensures ∙ c.if-not-all_ended.true))

pub returns-then-count : goal.returns-then-count
returns-then-count c =
    let a = c.args in
    refused_12 (rules_of a.set) a.input.now a.directory.now a.bytes.now c.if-directory-ne-DIRECTORY.false (too_many a.input.now (sym c.all_ended.ensures ∙ c.if-not-all_ended.false) (omega (arith, c.count-count.ensures, c.if-count.true)))

pub judge-requires : goal.judge-requires
judge-requires c =
    let a = c.args in record {
      table_value = c.table-table.ensures;
      input_value = ((sym c.all_ended.ensures ∙ c.if-not-all_ended.false), omega (arith, c.count-count.ensures, c.if-count.false));
    }

pub lay-requires : goal.lay-requires
lay-requires c =
    let a = c.args in record {
      table_value = c.table-table.ensures;
      ready = record {
        ends = (sym c.all_ended.ensures ∙ c.if-not-all_ended.false);
        few = omega (arith, c.count-count.ensures, c.if-count.false);
        fine = sym c.judge.ensures ∙ c.in-None.is;
        table = c.if-directory-ne-DIRECTORY.false;
      };
      names_value = c.count-count.ensures;
    }

pub returns-in-Some : goal.returns-in-Some
returns-in-Some c =
    let a = c.args in
    judged (rules_of a.set) a.input.now a.directory.now a.bytes.now c.if-directory-ne-DIRECTORY.false (countable_of a.input.now (sym c.all_ended.ensures ∙ c.if-not-all_ended.false) (omega (arith, c.count-count.ensures, c.if-count.false))) (sym c.judge.ensures ∙ c.in-Some.is) (refused_8 (rules_of a.set) a.input.now a.directory.now a.bytes.now _)

pub returns-in-None : goal.returns-in-None
returns-in-None c =
    let a = c.args in
    judged (rules_of a.set) a.input.now a.directory.now a.bytes.now c.if-directory-ne-DIRECTORY.false (countable_of a.input.now (sym c.all_ended.ensures ∙ c.if-not-all_ended.false) (omega (arith, c.count-count.ensures, c.if-count.false))) (sym c.judge.ensures ∙ c.in-None.is) (accepted (rules_of a.set) a.input.now a.directory.now a.bytes.now c.lay.ensures)
