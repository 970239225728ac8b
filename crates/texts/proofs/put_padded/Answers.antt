use Rattle.pages.proofs.Pages.{first_room, next_room, said_next}
use Rattle.pages.specs.Page.{Page, page, HasRoom}
use Prim.Native.Nat.{ℕ}
use mathlib.Core.Path.{◌≡◌}
use native.Mathlib.Omega.{arith}
use mathlib.Core.List.{◌++◌}
use Rattle.digits.specs.Digits.{printed}
use Rattle.tokens.specs.declared.Padded.{Padded}
use Rattle.texts.specs.Words.{digits0_word, slash}
use Rattle.texts.specs.Texts.{padded_text}
use Rattle.texts.proofs.put_padded.Goals as goal

-- room for what comes first, the number
number_room : (x : Padded) (w : Page) {n : ℕ} → n ≡ x.number → HasRoom (padded_text x) w → HasRoom (digits0_word ++ printed n) w
unfolding padded_text
number_room x w e r = rw e (first_room (digits0_word ++ printed x.number) (slash ++ printed x.width) w r)

pub put_labelled-next-requires : goal.put_labelled-next-requires
unfolding digits0_word
put_labelled-next-requires c =
    let a = c.args in
    number_room a.x (page a.out.now a.at) (omega arith) c.requires

pub put_labelled-requires : goal.put_labelled-requires
unfolding padded_text digits0_word slash
put_labelled-requires c =
    let a = c.args in
    next_room (digits0_word ++ printed a.x.number) (slash ++ printed a.x.width) (page a.out.now a.at) c.requires c.put_labelled-next.ensures

pub returns : goal.returns
unfolding padded_text digits0_word slash
returns c =
    let a = c.args in
    said_next (digits0_word ++ printed a.x.number) (slash ++ printed a.x.width) (page a.out.now a.at) c.requires c.put_labelled-next.ensures c.put_labelled.ensures
