use native.Mathlib.Omega.{arith}
use Rattle.std.specs.Prelude.{None, Ok, Err}
use borrow.Author.Rules.{rules}
use Prim.Native.Nat.{◌+◌, ◌≤◌}
use mathlib.Core.Path.{◌≡◌, refl, ap, ◌∙◌}
use lib.ListN.{length}
use Rattle.numbering.specs.Types.{rules_of}
use Rattle.tables.specs.Tables.{in_rows}
use Rattle.tables.proofs.Rows.{numbers_below}
use Rattle.sources.specs.Source.{earlier}
use Rattle.steps.specs.Steps.{step_at}
use Rattle.names.specs.Keeps.{Memory, memory}
use Rattle.walks.proofs.Walks.{Walk, src, back, Asked, Walking, reaches_known, begins, walks_over, run_asks, run_bounds, walks_run, walks_long, turn_asks, walks_on, walks_refused, walks_end, end_asks, walks_done}
use Rattle.walks.proofs.walk.Goals as goal
use Rattle.walks.proofs.walk.Goals.{After-last-end, In-loop-p, In_ok-q, In-Some, In_default}

-- the walk, from where it begins
abbrev way : goal.After-last-end → Walk
way s =
    let a = s.args in
    record {
      keeping = a.keep;
      rules = rules_of a.set;
      bytes = a.bytes.now;
      dir = a.dir.now;
      start = memory a.text.now (in_rows a.rows.now) a.cursors.now;
      first = a.first;
      count = a.count;
      used = a.used;
      row = a.row;
      end = s.last-end.result.0;
    }

asked : (s : goal.After-last-end) → Asked (way s)
asked s =
    let a = s.args in let r = s.requires in
    record {
      opened = r.fact;
      known = r.rows;
      reaches = reaches_known a.known a.used (earlier a.text.now (in_rows a.rows.now) a.first a.count) r.rows r.repeats s.last-end.result.0 s.last-end.ensures;
      near = r.used_bound.0;
      behind = r.used_bound.1.0;
      few = r.used_bound.1.1;
      room = r.roomy;
      bytes_below = λ i. omega (arith, s.type_inv.bytes i);
      dir_below = λ i. omega (arith, s.type_inv.dir i);
    }

abbrev here : goal.In-loop-p → Memory
here h = memory h.loop-p.text (in_rows h.loop-p.rows) h.loop-p.cursors

-- behind a run
abbrev after : goal.In_ok-q → Memory
after k = memory k.run.new.text (in_rows k.run.new.rows) k.run.new.cursors

run_on : (k : goal.In_ok-q) → Walking (way (goal.at.In_ok-q k).After-last-end) (after k) k.in_ok-q.q.0 k.in_ok-q.l
run_on k =
    let s = (goal.at.In_ok-q k).After-last-end in
    walks_run (way s) (asked s) (here (goal.at.In_ok-q k).In-loop-p) k.loop-p.p.0 k.loop-p.len k.loop-p.invariant.0 k.loop-p-test.true _ k.run.ensures.value _ _ k.in_ok-q.was (after k) k.run.ensures.cursors_value
    (λ i. omega (arith, k.type_inv.text i)) (numbers_below _ _ (λ i. omega (arith, k.type_inv.rows i)))

-- and as many numbers in the table as there were
run_numbers : (k : goal.In_ok-q) → length k.run.new.rows ≡ length k.args.rows.now
run_numbers k = k.run.auto.rows ∙ k.loop-p.invariant.1

on_bounds : (k : goal.In_ok-q) → (k.loop-p.p.0 ≤ k.in_ok-q.q.0) × (k.in_ok-q.q.0 ≤ 128)
on_bounds k =
    let s = (goal.at.In_ok-q k).After-last-end in
    run_bounds (way s) (asked s) (here (goal.at.In_ok-q k).In-loop-p) k.loop-p.p.0 k.loop-p.len k.loop-p.invariant.0 k.loop-p-test.true _ k.run.ensures.value _ _ k.in_ok-q.was

pub loop-p-init : goal.loop-p-init
loop-p-init c =
    let s = (goal.at.loop-p-init c).After-last-end in
    (begins (way s) (asked s) (λ i. omega (arith, s.type_inv.text i)) (numbers_below _ _ (λ i. omega (arith, s.type_inv.rows i))), refl)

pub run-requires-clause-run_room : goal.run-requires-clause-run_room
run-requires-clause-run_room c =
    let s = (goal.at.run-requires-clause-run_room c).After-last-end in
    (run_asks (way s) (asked s) (here (goal.at.run-requires-clause-run_room c).In-loop-p) _ _ c.loop-p.invariant.0 c.loop-p-test.true).1.1.1.1.1

pub returns-in_err-q : goal.returns-in_err-q
returns-in_err-q c =
    let s = (goal.at.returns-in_err-q c).After-last-end in
    let r = walks_long (way s) (asked s) (here (goal.at.returns-in_err-q c).In-loop-p) _ _ c.loop-p.invariant.0 c.loop-p-test.true c.run.result c.run.ensures.value _ c.in_err-q.was (memory c.run.new.text (in_rows c.run.new.rows) c.run.new.cursors) c.run.ensures.cursors_value in
    let v : c.from_residual.result ≡ Err c.in_err-q.field-0.0 = search rules in
    record { value = v ∙ r.0; cursors_value = r.1 }

pub turn-requires : goal.turn-requires
turn-requires c =
    let s = (goal.at.turn-requires c).After-last-end in let k = (goal.at.turn-requires c).In_ok-q in
    let r = turn_asks (way s) (asked s) (after k) _ _ (run_on k) (on_bounds k).1 _ c.place-at.ensures in
    record { fact = r.0; rows = r.1.0; placed = r.1.1.0; room_at = r.1.1.1 }

-- a token more
next : (c : goal.In-Some) →
    Walking (way (goal.at.In-Some c).After-last-end) (memory c.turn.new.text (in_rows c.turn.new.rows) c.turn.new.cursors) (c.in_ok-q.q.0 + 1) (c.in_ok-q.l + c.in-Some.w)
next c =
    let s = (goal.at.In-Some c).After-last-end in let k = (goal.at.In-Some c).In_ok-q in let e = c.turn.ensures in
    walks_on (way s) (asked s) (after k) _ _ (run_on k) (on_bounds k).1 _ c.place-at.ensures _ _ (c.in_ok-w.was ∙ ap Ok c.in-Some.is) _ (e.value, e.cursors_value)
    (λ i. omega (arith, c.type_inv.text i)) (numbers_below _ _ (λ i. omega (arith, c.type_inv.rows i)))

pub overflow_add-len : goal.overflow_add-len
overflow_add-len c = omega (arith, (next (goal.at.overflow_add-len c).In-Some).short)

pub overflow_add-p : goal.overflow_add-p
overflow_add-p c = omega (arith, (on_bounds (goal.at.overflow_add-p c).In_ok-q).1)

pub loop-p-smaller : goal.loop-p-smaller
loop-p-smaller c = let b = on_bounds (goal.at.loop-p-smaller c).In_ok-q in omega (arith, b.0, b.1)

pub loop-p-preserved : goal.loop-p-preserved
loop-p-preserved c = (next (goal.at.loop-p-preserved c).In-Some, c.turn.auto.rows ∙ run_numbers (goal.at.loop-p-preserved c).In_ok-q)

-- at END
abbrev ending : goal.In_default → Memory
ending c = memory c.turn.new.text (in_rows c.turn.new.rows) c.turn.new.cursors

at_end_law : (c : goal.In_default) →
    let x = way (goal.at.In_default c).After-last-end in
    Walking x (ending c) c.in_ok-q.q.0 c.in_ok-q.l × (step_at (src x (ending c)) (back x (ending c)) c.in_ok-q.q.0 ≡ Ok None)
at_end_law c =
    let s = (goal.at.In_default c).After-last-end in let k = (goal.at.In_default c).In_ok-q in let e = c.turn.ensures in
    walks_end (way s) (asked s) (after k) _ _ (run_on k) (on_bounds k).1 _ c.place-at.ensures _ (c.in_ok-w.was ∙ ap Ok c.in_default.is) _ (e.value, e.cursors_value)

pub ended-requires : goal.ended-requires
ended-requires c =
    let s = (goal.at.ended-requires c).After-last-end in let k = (goal.at.ended-requires c).In_ok-q in let d = (goal.at.ended-requires c).In_default in
    let r = end_asks (way s) (asked s) (ending d) _ _ (at_end_law d).0 (on_bounds k).1 (at_end_law d).1 in
    record { le_p = r.0; len_in_bounds = r.1 }

pub returns-in_default : goal.returns-in_default
returns-in_default c =
    let s = (goal.at.returns-in_default c).After-last-end in let k = (goal.at.returns-in_default c).In_ok-q in let d = (goal.at.returns-in_default c).In_default in
    let e = c.ended.ensures in
    let r = walks_done (way s) (asked s) (ending d) _ _ (at_end_law d).0 (on_bounds k).1 (at_end_law d).1 _ _ _ e.value e.text_value e.cursors_value in
    record { value = r.0; cursors_value = r.1 }

pub returns-in_err-w : goal.returns-in_err-w
returns-in_err-w c =
    let s = (goal.at.returns-in_err-w c).After-last-end in let k = (goal.at.returns-in_err-w c).In_ok-q in let e = c.turn.ensures in
    let r = walks_refused (way s) (asked s) (after k) _ _ (run_on k) (on_bounds k).1 _ c.place-at.ensures _ _ c.in_err-w.was _ (e.value, e.cursors_value) in
    let v : c.from_residual-in_err-w.result ≡ Err c.in_err-w.field-0.0 = search rules in
    record { value = v ∙ r.0; cursors_value = r.1 }

pub returns : goal.returns
returns c =
    let s = (goal.at.returns c).After-last-end in
    let r = walks_over (way s) (asked s) (memory c.loop-p.text (in_rows c.loop-p.rows) c.loop-p.cursors) _ _ c.loop-p.invariant.0 c.loop-p-test.false in
    record { value = r.0; cursors_value = r.1 }
