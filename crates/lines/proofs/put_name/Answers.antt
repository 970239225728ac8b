use Rattle.lines.proofs.Laws.{dup_text, diff_text}
use Rattle.pages.specs.Page.{page, said, HasRoom}
use Rattle.texts.specs.Words.{dup_word, diff_word}
use Rattle.lines.specs.Lines.{tokens_text}
use Rattle.choices.specs.Choices.{choices_of}
use Rattle.digits.specs.Digits.{printed}
use Prim.Native.Nat.{ℕ}
use mathlib.Core.List.{List, ◌++◌}
use mathlib.Core.Path.{sym, ap, ◌∙◌, subst}
use Rattle.lines.proofs.put_name.Goals as goal

pub put_labelled-requires : goal.put_labelled-requires
unfolding dup_word
put_labelled-requires c =
    let a = c.args in
    let e = sym c.reference_of.ensures ∙ c.in-Dup.is in
    subst (λ (l : List ℕ). HasRoom l (page a.out.now a.at)) (dup_text a.n a.before.now a.name.now _ e) c.requires.has_room

pub put_diff-requires : goal.put_diff-requires
put_diff-requires c =
    let a = c.args in
    let e = sym c.reference_of.ensures ∙ c.in-Diff.is in
    let d = c.in-Diff.d.0 in record {
      table_value = c.requires.table_value;
      has_room = subst (λ (r : List ℕ). HasRoom ((diff_word ++ printed d) ++ tokens_text a.name.now (choices_of r a.name.now)) (page a.out.now a.at)) (sym c.leans_on.ensures) (subst (λ (l : List ℕ). HasRoom l (page a.out.now a.at)) (diff_text a.n a.before.now a.name.now _ e) c.requires.has_room);
    }

pub returns-in-Dup : goal.returns-in-Dup
unfolding dup_word
returns-in-Dup c =
    let a = c.args in
    let e = sym c.reference_of.ensures ∙ c.in-Dup.is in
    c.put_labelled.ensures ∙ ap (λ (l : List ℕ). said l (page a.out.now a.at)) (sym (dup_text a.n a.before.now a.name.now _ e))

pub returns-in-Diff : goal.returns-in-Diff
returns-in-Diff c =
    let a = c.args in
    let e = sym c.reference_of.ensures ∙ c.in-Diff.is in
    let d = c.in-Diff.d.0 in
    c.put_diff.ensures
    ∙ ap (λ (r : List ℕ). said ((diff_word ++ printed d) ++ tokens_text a.name.now (choices_of r a.name.now)) (page a.out.now a.at)) c.leans_on.ensures
    ∙ ap (λ (l : List ℕ). said l (page a.out.now a.at)) (sym (diff_text a.n a.before.now a.name.now _ e))
