use Rattle.entries.proofs.Entries.{has_room, enter_asks}
use Rattle.copying.proofs.Copies.{copy_asks, dup_kept, dup_refused}
use lib.ListN.{length}
use native.Mathlib.Omega.{arith}
use mathlib.Core.List.{[]}
use mathlib.Core.Path.{◌≡◌, sym, ◌∙◌}
use Rattle.tables.specs.Tables.{in_rows}
use Rattle.copying.proofs.copied.Goals as goal

pub copy_within-requires : goal.copy_within-requires
copy_within-requires c =
    let a = c.args in
    copy_asks [] [] a.cursors.now a.text.now a.entries.now (in_rows a.rows.now) a.state a.e a.distance.0 c.requires.text_inside c.requires.counted (sym c.has_room.ensures ∙ c.if-has_room.true)

pub put-requires : goal.put-requires
put-requires c =
    let a = c.args in
    let w = (has_room [] [] a.cursors.now a.text.now a.entries.now (in_rows a.rows.now) a.state a.e.length 0 (sym c.has_room.ensures ∙ c.if-has_room.true)).texts in
    let k : length c.copy_within.new.buf ≡ length a.text.now = c.copy_within.auto.buf in
    omega arith

pub enter-requires : goal.enter-requires
enter-requires c =
    let a = c.args in
    let r = enter_asks [] [] a.cursors.now a.text.now a.entries.now (in_rows a.rows.now) a.state a.e.length 0 c.requires.counted (has_room [] [] a.cursors.now a.text.now a.entries.now (in_rows a.rows.now) a.state a.e.length 0 (sym c.has_room.ensures ∙ c.if-has_room.true)) c.requires.text_inside.most (omega arith) in
    record { entry_size_in_bounds = r.0; names_bound = r.1 }

pub returns-then-has_room : goal.returns-then-has_room
returns-then-has_room c =
    let a = c.args in
    λ rules bytes dir. dup_kept rules bytes dir a.cursors.now a.text.now a.entries.now (in_rows a.rows.now) a.state a.e a.distance.0 c.requires.text_inside c.requires.counted (sym c.has_room.ensures ∙ c.if-has_room.true) c.enter.ensures.value c.move_head.ensures c.copy_within.ensures c.put.ensures c.enter.ensures.entries_value

pub returns-else-has_room : goal.returns-else-has_room
returns-else-has_room c =
    let a = c.args in
    λ rules bytes dir. dup_refused rules bytes dir a.cursors.now a.text.now a.entries.now (in_rows a.rows.now) a.state a.e a.distance.0 c.requires.text_inside c.requires.counted (sym c.has_room.ensures ∙ c.if-has_room.false) c.refuse.ensures
