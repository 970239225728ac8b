use native.Mathlib.Omega.{arith}
use mathlib.Core.Path.{sym, ◌∙◌}
use Rattle.base.specs.Memory.{part}
use Rattle.tables.specs.Tables.{room}
use Rattle.kept.proofs.Laws.{text_counted, text_inside}
use Rattle.claims.specs.Claims.{name_text}
use Rattle.claims.proofs.Laws.{unsound, unread, outside, equal, unequal}
use Rattle.claims.proofs.claim.Goals as goal

pub returns-then-not-text_counts : goal.returns-then-not-text_counts
unfolding room
returns-then-not-text_counts c = unsound _ _ _ _ _ (sym c.text_counts.ensures ∙ c.if-not-text_counts.true)

pub returns-then-state-number : goal.returns-then-state-number
unfolding room
returns-then-state-number c =
    let a = c.args in
    let v = unread a.number a.claimed.now a.state a.text.now a.names.now (sym c.text_counts.ensures ∙ c.if-not-text_counts.false) (omega arith) in
    rw (← v)

pub entry_at-e-requires : goal.entry_at-e-requires
unfolding room
entry_at-e-requires c =
    let a = c.args in
    let t = text_counted a.state a.text.now a.names.now (sym c.text_counts.ensures ∙ c.if-not-text_counts.false) in
    omega arith

pub returns-then-not-entry_text : goal.returns-then-not-entry_text
unfolding room
returns-then-not-entry_text c =
    let a = c.args in
    let v =
    outside a.number a.claimed.now a.state a.text.now a.names.now (sym c.text_counts.ensures ∙ c.if-not-text_counts.false) (omega arith) c.entry_at-e.ensures
    (sym c.entry_text.ensures ∙ c.if-not-entry_text.true) in
    rw (← v)

pub slice_bounds-same-end : goal.slice_bounds-same-end
unfolding room
slice_bounds-same-end c =
    let a = c.args in
    let t = text_counted a.state a.text.now a.names.now (sym c.text_counts.ensures ∙ c.if-not-text_counts.false) in
    let i = text_inside a.state c.entry_at-e.result (sym c.entry_text.ensures ∙ c.if-not-entry_text.false) in
    omega arith

pub returns-then-same : goal.returns-then-same
unfolding room name_text part
returns-then-same c =
    let a = c.args in
    let v =
    equal a.number a.claimed.now a.state a.text.now a.names.now (sym c.text_counts.ensures ∙ c.if-not-text_counts.false) (omega arith) c.entry_at-e.ensures (sym c.entry_text.ensures ∙ c.if-not-entry_text.false)
    (sym c.same.ensures ∙ c.if-same.true) in
    rw (← v)

pub returns-else-same : goal.returns-else-same
unfolding room name_text part
returns-else-same c =
    let a = c.args in
    let v =
    unequal a.number a.claimed.now a.state a.text.now a.names.now (sym c.text_counts.ensures ∙ c.if-not-text_counts.false) (omega arith) c.entry_at-e.ensures (sym c.entry_text.ensures ∙ c.if-not-entry_text.false)
    (sym c.same.ensures ∙ c.if-same.false) in
    rw (← v)
