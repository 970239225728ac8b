use Rattle.pages.proofs.Pages.{first_room, next_room, said_next}
use Rattle.pages.specs.Page.{page}
use Rattle.digits.specs.Digits.{printed}
use Rattle.pages.proofs.put_labelled.Goals as goal

pub put-next-requires : goal.put-next-requires
put-next-requires c =
    let a = c.args in
    first_room a.word.now (printed a.n) (page a.out.now a.at) c.requires

pub put_number-requires : goal.put_number-requires
put_number-requires c =
    let a = c.args in
    next_room a.word.now (printed a.n) (page a.out.now a.at) c.requires c.put-next.ensures

pub returns : goal.returns
returns c =
    let a = c.args in
    said_next a.word.now (printed a.n) (page a.out.now a.at) c.requires c.put-next.ensures c.put_number.ensures
