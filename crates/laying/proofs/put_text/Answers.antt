use mathlib.Core.Path.{sym, ap, ◌∙◌, subst}
use mathlib.Core.List.{[], ◌∷◌}
use Rattle.laying.specs.Puts.{put}
use Rattle.laying.specs.Passes.{world, step_of, Room}
use Rattle.laying.proofs.Writes.{room_next, step_next}
use Rattle.laying.proofs.put_text.Goals as goal

pub put_byte-requires : goal.put_byte-requires
put_byte-requires c =
    let a = c.args in
    subst (Room a.pass a.span.0 1) (sym c.put_bytes-next.ensures) (room_next a.pass a.span.0 1 a.text.now (world a.total a.directory.now a.bytes.now) c.requires)

pub returns : goal.returns
returns c =
    let a = c.args in
    c.put_byte.ensures
    ∙ ap (step_of a.pass (put a.span.0 (0 ∷ []))) c.put_bytes-next.ensures
    ∙ step_next a.pass a.span.0 a.text.now (0 ∷ []) (world a.total a.directory.now a.bytes.now) c.requires
