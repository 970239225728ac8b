use Rattle.pages.proofs.Pages.{first_room, middle_room, next_room, said_next}
use Rattle.pages.specs.Page.{page}
use mathlib.Core.List.{◌++◌}
use Rattle.digits.specs.Digits.{printed}
use Rattle.texts.specs.Words.{refused_word, at_word, newline}
use Rattle.closing.specs.Closing.{refusal_text}
use Rattle.closing.proofs.put_refusal.Goals as goal

pub put_labelled-next-requires : goal.put_labelled-next-requires
unfolding refusal_text refused_word
put_labelled-next-requires c =
    let a = c.args in
    first_room (refused_word ++ printed _) newline (page a.out.now a.at) (rw (c.in-Plain.is, ← c.number.ensures) at c.requires)

pub put-requires : goal.put-requires
unfolding refusal_text refused_word newline
put-requires c =
    let a = c.args in
    next_room (refused_word ++ printed _) newline (page a.out.now a.at) (rw (c.in-Plain.is, ← c.number.ensures) at c.requires) c.put_labelled-next.ensures

pub put_labelled-next-requires-in-At : goal.put_labelled-next-requires-in-At
unfolding refusal_text refused_word
put_labelled-next-requires-in-At c =
    let a = c.args in
    first_room (refused_word ++ printed _) ((at_word ++ printed _) ++ newline) (page a.out.now a.at) (rw (c.in-At.is, ← c.number-in-At.ensures) at c.requires)

pub put_labelled-last-requires : goal.put_labelled-last-requires
unfolding refusal_text refused_word at_word
put_labelled-last-requires c =
    let a = c.args in
    middle_room (refused_word ++ printed _) (at_word ++ printed _) newline (page a.out.now a.at) (rw (c.in-At.is, ← c.number-in-At.ensures) at c.requires) c.put_labelled-next-in-At.ensures

pub put-requires-in-At : goal.put-requires-in-At
unfolding refusal_text refused_word at_word newline
put-requires-in-At c =
    let a = c.args in
    let h = next_room (refused_word ++ printed _) ((at_word ++ printed _) ++ newline) (page a.out.now a.at) (rw (c.in-At.is, ← c.number-in-At.ensures) at c.requires) c.put_labelled-next-in-At.ensures in
    next_room (at_word ++ printed _) newline _ h c.put_labelled-last.ensures

pub returns-in-Plain : goal.returns-in-Plain
unfolding refusal_text refused_word newline
returns-in-Plain c =
    let a = c.args in
    rw (c.in-Plain.is, ← c.number.ensures) (said_next (refused_word ++ printed _) newline (page a.out.now a.at) (rw (c.in-Plain.is, ← c.number.ensures) at c.requires) c.put_labelled-next.ensures c.put.ensures)

pub returns-in-At : goal.returns-in-At
unfolding refusal_text refused_word at_word newline
returns-in-At c =
    let a = c.args in
    let k = rw (c.in-At.is, ← c.number-in-At.ensures) at c.requires in
    let h = next_room (refused_word ++ printed _) ((at_word ++ printed _) ++ newline) (page a.out.now a.at) k c.put_labelled-next-in-At.ensures in
    rw (c.in-At.is, ← c.number-in-At.ensures)
    (said_next (refused_word ++ printed _) ((at_word ++ printed _) ++ newline) (page a.out.now a.at) k c.put_labelled-next-in-At.ensures (said_next (at_word ++ printed _) newline _ h c.put_labelled-last.ensures c.put-in-At.ensures))
