use Rattle.pages.proofs.Pages.{first_room, next_room, said_next}
use Rattle.pages.specs.Page.{page}
use mathlib.Core.List.{[], ◌∷◌}
use Rattle.texts.specs.Words.{char_word}
use Rattle.texts.specs.Texts.{char_text}
use Rattle.texts.proofs.put_char.Goals as goal

pub put-next-requires : goal.put-next-requires
unfolding char_text char_word
put-next-requires c =
    let a = c.args in
    first_room char_word (a.b ∷ []) (page a.out.now a.at) c.requires

pub put-requires : goal.put-requires
unfolding char_text char_word
put-requires c =
    let a = c.args in
    next_room char_word (a.b ∷ []) (page a.out.now a.at) c.requires c.put-next.ensures

pub returns : goal.returns
unfolding char_text char_word
returns c =
    let a = c.args in
    said_next char_word (a.b ∷ []) (page a.out.now a.at) c.requires c.put-next.ensures c.put.ensures
