use Rattle.pages.proofs.Pages.{first_room, middle_room, next_room, said_next}
use Rattle.pages.specs.Page.{page}
use Rattle.texts.specs.Words.{newline}
use Rattle.lines.specs.Lines.{name_text, line_of}
use Rattle.digits.specs.Digits.{printed}
use mathlib.Core.List.{◌++◌}
use Rattle.lines.proofs.put_line.Goals as goal

pub put_number-next-requires : goal.put_number-next-requires
unfolding line_of
put_number-next-requires c =
    let a = c.args in
    first_room (printed a.n) (name_text a.n a.before.now a.name.now ++ newline) (page a.out.now a.at) c.requires.has_room

pub put_name-last-requires : goal.put_name-last-requires
unfolding line_of
put_name-last-requires c =
    let a = c.args in record {
      table_value = c.requires.table_value;
      has_room = middle_room (printed a.n) (name_text a.n a.before.now a.name.now) newline (page a.out.now a.at) c.requires.has_room c.put_number-next.ensures;
    }

pub put-requires : goal.put-requires
unfolding line_of newline
put-requires c =
    let a = c.args in
    let h = next_room (printed a.n) (name_text a.n a.before.now a.name.now ++ newline) (page a.out.now a.at) c.requires.has_room c.put_number-next.ensures in
    next_room (name_text a.n a.before.now a.name.now) newline _ h c.put_name-last.ensures

pub returns : goal.returns
unfolding line_of newline
returns c =
    let a = c.args in
    let h = next_room (printed a.n) (name_text a.n a.before.now a.name.now ++ newline) (page a.out.now a.at) c.requires.has_room c.put_number-next.ensures in
    said_next (printed a.n) (name_text a.n a.before.now a.name.now ++ newline) (page a.out.now a.at) c.requires.has_room c.put_number-next.ensures (said_next (name_text a.n a.before.now a.name.now) newline _ h c.put_name-last.ensures c.put.ensures)
