use Prim.Native.Nat.{ℕ}
use mathlib.Core.List.{[], ◌∷◌}
use mathlib.Core.Path.{sym, ap, ◌∙◌, subst}
use Rattle.block.specs.Block.{span_of}
use Rattle.laying.specs.Passes.{World, world, step_of, Roomy}
use Rattle.laying.specs.Puts.{put}
use Rattle.numbering.specs.Types.{numbers_of, type_number, rules_of}
use Rattle.valueputs.specs.ValuePuts.{value_puts}
use Rattle.tokenputs.proofs.Laws.{choice_room, choice_ran}
use Rattle.tokenputs.proofs.put_choice.Goals as goal

pub put_byte-next-requires : goal.put_byte-next-requires
put_byte-next-requires c =
    let a = c.args in
    rw c.span_of-span.ensures (choice_room (rules_of a.set) a.pass a.name.now a.p.0 a.c (world a.total a.directory.now a.bytes.now) c.requires.roomy).0

pub put_value-requires : goal.put_value-requires
put_value-requires c =
    let a = c.args in
    let e = c.type_number-b.ensures ∙ ap (type_number (numbers_of a.set.kind)) c.choice_type.ensures in
    let d = rw c.span_of-span.ensures at c.put_byte-next.ensures ∙ ap (λ (n : ℕ). step_of a.pass (put (span_of a.p.0 0) (n ∷ [])) (world a.total a.directory.now a.bytes.now)) e in record {
      p_bound = c.requires.p_bound;
      roomy = subst (λ (w : World). Roomy a.pass (value_puts a.name.now a.p.0 a.c) w) (sym d) (choice_room (rules_of a.set) a.pass a.name.now a.p.0 a.c (world a.total a.directory.now a.bytes.now) c.requires.roomy).1;
    }

pub returns : goal.returns
returns c =
    let a = c.args in
    let e = c.type_number-b.ensures ∙ ap (type_number (numbers_of a.set.kind)) c.choice_type.ensures in
    let d = rw c.span_of-span.ensures at c.put_byte-next.ensures ∙ ap (λ (n : ℕ). step_of a.pass (put (span_of a.p.0 0) (n ∷ [])) (world a.total a.directory.now a.bytes.now)) e in
    choice_ran (rules_of a.set) a.pass a.name.now a.p.0 a.c (world a.total a.directory.now a.bytes.now) _ _ d c.put_value.ensures
