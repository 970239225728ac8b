use Rattle.naming.proofs.Walking.{starts, known_as, walks_less, walk_asks, walk_refused, walk_full, head_asks, walk_on, entry_asks, walk_kept}
use native.Mathlib.Omega.{arith}
use mathlib.Core.Bool.{true}
use mathlib.Core.Path.{◌≡◌, refl, sym, ◌∙◌}
use borrow.Author.Rules.{rules}
use Rattle.naming.proofs.named.Goals as goal

pub loop-size-init : goal.loop-size-init
loop-size-init c = (starts _ _ _ _ _ _ _ _ _ _ _ (search rules), refl)

pub walk-walked-requires : goal.walk-walked-requires
walk-walked-requires c =
    let r = walk_asks _ _ _ _ _ _ _ _ _ _ _ c.requires.fact c.requires.counted c.requires.rows c.requires.headed _ (known_as _ (search rules) c.requires.repeats) _ c.loop-size.invariant.0 in
    record { fact = r.0; rows = r.1.0; used_bound = r.1.1.0; repeats = r.1.1.1.0; roomy = r.1.1.1.1 }

pub returns-in-Err : goal.returns-in-Err
returns-in-Err c =
    walk_refused _ _ _ _ _ _ _ _ _ _ _ c.requires.fact c.requires.counted c.requires.rows c.requires.headed _ _ _ _ _ c.loop-size.invariant.0 _ _ _ _ c.walk-walked.ensures.value c.walk-walked.ensures.cursors_value _ c.in-Err.is c.refuse.ensures

pub enter-requires : goal.enter-requires
enter-requires c =
    let y : c.loop-size.keeping ≡ true = search rules in
    let r = entry_asks _ _ _ _ _ _ _ _ _ _ _ c.requires.fact c.requires.counted c.requires.rows c.requires.headed _ _ _ _ _ c.loop-size.invariant.0 _ _ _ _ c.walk-walked.ensures.value c.walk-walked.ensures.cursors_value _ c.in-Ok.is y in
    record { entry_size_in_bounds = r.0; names_bound = r.1 }

pub returns-then-keeping : goal.returns-then-keeping
returns-then-keeping c =
    walk_kept _ _ _ _ _ _ _ _ _ _ _ c.requires.fact c.requires.counted c.requires.rows c.requires.headed _ _ _ _ _ c.loop-size.invariant.0 _ _ _ _ c.walk-walked.ensures.value c.walk-walked.ensures.cursors_value _ c.in-Ok.is c.if-keeping.true c.enter.ensures.value c.enter.ensures.entries_value

pub move_head-requires : goal.move_head-requires
move_head-requires c =
    let r = head_asks _ _ _ _ _ _ _ _ _ _ _ c.requires.fact c.requires.counted c.requires.rows c.requires.headed _ _ _ _ _ c.loop-size.invariant.0 _ _ _ _ c.walk-walked.ensures.value c.walk-walked.ensures.cursors_value _ c.in-Ok.is c.if-keeping.false (λ i. omega (arith, c.type_inv.dir i)) in
    record { cursors_len = r.0; passable = r.1 }

pub loop-size-smaller : goal.loop-size-smaller
loop-size-smaller c =
    walks_less c.if-keeping.false

pub loop-size-preserved : goal.loop-size-preserved
loop-size-preserved c =
    (walk_on _ _ _ _ _ _ _ _ _ _ _ c.requires.fact c.requires.counted c.requires.rows c.requires.headed _ _ _ _ _ c.loop-size.invariant.0 _ _ _ _ c.walk-walked.ensures.value c.walk-walked.ensures.cursors_value _ c.in-Ok.is c.if-keeping.false (sym c.has_room.ensures ∙ c.if-not-has_room.false) c.move_head.ensures, search rules)

pub returns-then-not-has_room : goal.returns-then-not-has_room
returns-then-not-has_room c =
    walk_full _ _ _ _ _ _ _ _ _ _ _ c.requires.fact c.requires.counted c.requires.rows c.requires.headed _ _ _ _ _ c.loop-size.invariant.0 _ _ _ _ c.walk-walked.ensures.value c.walk-walked.ensures.cursors_value _ c.in-Ok.is c.if-keeping.false (sym c.has_room.ensures ∙ c.if-not-has_room.true) c.refuse-then-not-has_room.ensures
