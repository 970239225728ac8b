use Rattle.pages.proofs.Pages.{first_room, middle_room, next_room, said_next}
use Rattle.pages.specs.Page.{page}
use mathlib.Core.List.{◌++◌}
use Rattle.digits.specs.Digits.{printed}
use Rattle.texts.specs.Words.{names_word, bytes_word}
use Rattle.closing.specs.Closing.{totals_text}
use Rattle.closing.proofs.put_totals.Goals as goal

pub put_number-next-requires : goal.put_number-next-requires
unfolding totals_text
put_number-next-requires c =
    let a = c.args in
    first_room (printed a.names) ((names_word ++ printed a.bytes) ++ bytes_word) (page a.out.now a.at) c.requires

pub put_labelled-last-requires : goal.put_labelled-last-requires
unfolding totals_text names_word
put_labelled-last-requires c =
    let a = c.args in
    middle_room (printed a.names) (names_word ++ printed a.bytes) bytes_word (page a.out.now a.at) c.requires c.put_number-next.ensures

pub put-requires : goal.put-requires
unfolding totals_text names_word bytes_word
put-requires c =
    let a = c.args in
    let h = next_room (printed a.names) ((names_word ++ printed a.bytes) ++ bytes_word) (page a.out.now a.at) c.requires c.put_number-next.ensures in
    next_room (names_word ++ printed a.bytes) bytes_word _ h c.put_labelled-last.ensures

pub returns : goal.returns
unfolding totals_text names_word bytes_word
returns c =
    let a = c.args in
    let h = next_room (printed a.names) ((names_word ++ printed a.bytes) ++ bytes_word) (page a.out.now a.at) c.requires c.put_number-next.ensures in
    said_next (printed a.names) ((names_word ++ printed a.bytes) ++ bytes_word) (page a.out.now a.at) c.requires c.put_number-next.ensures (said_next (names_word ++ printed a.bytes) bytes_word _ h c.put_labelled-last.ensures c.put.ensures)
