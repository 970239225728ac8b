use Rattle.pages.proofs.Pages.{first_room, next_room, said_next}
use Rattle.pages.specs.Page.{page}
use Rattle.base.specs.Memory.{part}
use Rattle.texts.specs.Words.{string_word}
use Rattle.texts.specs.Texts.{string_text}
use Rattle.texts.proofs.put_string.Goals as goal

pub put-next-requires : goal.put-next-requires
unfolding string_text string_word
put-next-requires c =
    let a = c.args in
    first_room string_word (part a.name.now a.from a.to) (page a.out.now a.at) c.requires.has_room

pub put-requires : goal.put-requires
unfolding string_text string_word part
put-requires c =
    let a = c.args in
    next_room string_word (part a.name.now a.from a.to) (page a.out.now a.at) c.requires.has_room c.put-next.ensures

pub returns : goal.returns
unfolding string_text string_word part
returns c =
    let a = c.args in
    said_next string_word (part a.name.now a.from a.to) (page a.out.now a.at) c.requires.has_room c.put-next.ensures c.put.ensures
