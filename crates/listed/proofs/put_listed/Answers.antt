use Rattle.pages.proofs.Pages.{same_room, same_said}
use Rattle.listed.proofs.Answers.{few_names, listed_long, listed_unended, listed_bad, good}
use Rattle.pages.specs.Page.{page}
use mathlib.Core.Path.{sym, ◌∙◌}
use Rattle.listed.proofs.put_listed.Goals as goal

pub put_refusal-requires : goal.put_refusal-requires
put_refusal-requires c =
    let a = c.args in
    same_room (listed_long a.input.now c.if-input-gt-MOST.true) (page a.out.now 0) c.requires

pub returns-then-input-gt-MOST : goal.returns-then-input-gt-MOST
returns-then-input-gt-MOST c =
    let a = c.args in
    same_said (listed_long a.input.now c.if-input-gt-MOST.true) (page a.out.now 0) c.put_refusal.ensures

pub put_refusal-requires-then-not-all_ended : goal.put_refusal-requires-then-not-all_ended
put_refusal-requires-then-not-all_ended c =
    let a = c.args in
    same_room (listed_unended a.input.now c.if-input-gt-MOST.false (sym c.all_ended.ensures ∙ c.if-not-all_ended.true)) (page a.out.now 0) c.requires

pub returns-then-not-all_ended : goal.returns-then-not-all_ended
returns-then-not-all_ended c =
    let a = c.args in
    same_said (listed_unended a.input.now c.if-input-gt-MOST.false (sym c.all_ended.ensures ∙ c.if-not-all_ended.true)) (page a.out.now 0) c.put_refusal-then-not-all_ended.ensures

pub judge-requires : goal.judge-requires
judge-requires c =
    let a = c.args in record {
      table_value = c.table-table.ensures;
      input_value = (sym c.all_ended.ensures ∙ c.if-not-all_ended.false, few_names a.input.now c.if-input-gt-MOST.false);
    }

pub put_refusal-requires-in-Some : goal.put_refusal-requires-in-Some
put_refusal-requires-in-Some c =
    let a = c.args in
    let e = sym c.all_ended.ensures ∙ c.if-not-all_ended.false in
    same_room (listed_bad a.input.now c.if-input-gt-MOST.false e (sym c.judge.ensures ∙ c.in-Some.is)) (page a.out.now 0) c.requires

pub put_listing-requires : goal.put_listing-requires
put_listing-requires c =
    let a = c.args in
    let e = sym c.all_ended.ensures ∙ c.if-not-all_ended.false in record {
      table_value = c.table-table.ensures;
      good = good a.input.now c.if-input-gt-MOST.false e (sym c.judge.ensures ∙ c.in-None.is);
      has_room = c.requires;
      input_len_bound = c.if-input-gt-MOST.false;
    }

pub returns-in-Some : goal.returns-in-Some
returns-in-Some c =
    let a = c.args in
    let e = sym c.all_ended.ensures ∙ c.if-not-all_ended.false in
    same_said (listed_bad a.input.now c.if-input-gt-MOST.false e (sym c.judge.ensures ∙ c.in-Some.is)) (page a.out.now 0) c.put_refusal-in-Some.ensures
