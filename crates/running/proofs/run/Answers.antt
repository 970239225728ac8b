use native.Mathlib.Omega.{arith}
use Prim.Native.Nat.{◌+◌, ◌-◌, ◌<◌}
use mathlib.Core.Path.{sym}
use Rattle.sources.specs.Source.{source, earlier}
use Rattle.names.specs.Keeps.{memory}
use Rattle.running.proofs.Runs.{run_few, run_spelt, run_moves, length_asks, fewer_spelt, fewer_rows, ran_none, ran_long, ran_on_law, puts_none, puts_long, puts_not, puts_run}
use Rattle.numbering.specs.Types.{rules_of}
use Rattle.tables.specs.Tables.{in_rows}
use Rattle.running.proofs.run.Goals as goal

pub returns-then-q-p : goal.returns-then-q-p
returns-then-q-p c =
    let a = c.args in
    let s = source (rules_of a.set) a.bytes.now a.dir.now a.cursors.now in
    let e = earlier a.text.now (in_rows a.rows.now) a.first a.count in
    let m = memory a.text.now (in_rows a.rows.now) a.cursors.now in
    record {
      value = ran_none s e a.end.0 a.p.0 c.run_end-q.result.0 a.len c.run_end-q.ensures c.if-q-p.true;
      cursors_value = puts_none e a.used a.row a.p.0 a.len m a.keeping a.p.0 a.len (omega arith);
    }

pub overflow_add-first-2 : goal.overflow_add-first-2
overflow_add-first-2 c =
    let a = c.args in
    let s = source (rules_of a.set) a.bytes.now a.dir.now a.cursors.now in
    let e = earlier a.text.now (in_rows a.rows.now) a.first a.count in
    let q = c.run_end-q in
    let f = run_few s e a.used a.end.0 a.p.0 q.result.0 c.requires.rows c.requires.reaches c.requires.le_p.0 q.ensures (omega arith) in
    record { fits = omega (arith, f.0, c.requires.used_bound) }

pub run_length-w-requires : goal.run_length-w-requires
run_length-w-requires c =
    let a = c.args in
    let s = source (rules_of a.set) a.bytes.now a.dir.now a.cursors.now in
    let e = earlier a.text.now (in_rows a.rows.now) a.first a.count in
    let q = c.run_end-q in
    let r = length_asks s e a.used a.end.0 a.p.0 q.result.0 c.requires.rows c.requires.reaches c.requires.le_p.0 q.ensures (omega arith) c.requires.used_bound.0 in
    record { from_lt_to = r.0; from_bound = r.1.0; to_bound = r.1.1 }

pub returns-then-len-w : goal.returns-then-len-w
returns-then-len-w c =
    let a = c.args in
    let s = source (rules_of a.set) a.bytes.now a.dir.now a.cursors.now in
    let e = earlier a.text.now (in_rows a.rows.now) a.first a.count in
    let m = memory a.text.now (in_rows a.rows.now) a.cursors.now in
    let q = c.run_end-q in let w = c.run_length-w in record {
      value = ran_long s e a.end.0 a.p.0 q.result.0 a.len q.ensures w.result w.ensures (omega (arith, c.if-q-p.false)) (omega (arith, c.if-len-w.true, c.requires.le_p));
      cursors_value = puts_long e a.used a.row a.p.0 a.len m a.keeping;
    }

pub repeat-requires : goal.repeat-requires
repeat-requires c =
    let a = c.args in
    let s = source (rules_of a.set) a.bytes.now a.dir.now a.cursors.now in
    let e = earlier a.text.now (in_rows a.rows.now) a.first a.count in
    let q = c.run_end-q in let w = c.run_length-w in
    let some : a.p.0 < q.result.0 = omega (arith, c.if-q-p.false) in
    let f = run_few s e a.used a.end.0 a.p.0 q.result.0 c.requires.rows c.requires.reaches c.requires.le_p.0 q.ensures some in
    let o = ran_on_law s e a.end.0 a.p.0 q.result.0 a.len q.ensures w.result w.ensures some (omega (arith, c.if-len-w.false, c.requires.le_p)) in
    let z = c.requires.run_room c.if-keeping.true q.result.0 (a.len + w.result) (sym o) in
    let u = c.requires.used_bound in record {
      cursors_len = (c.requires.fact.table, (c.requires.le_p.0, (some, f.1)));
      by_index = run_moves s e a.used a.end.0 a.p.0 q.result.0 c.requires.rows c.requires.reaches c.requires.le_p.0 q.ensures some (λ i. omega (arith, c.type_inv.dir i));
      rows = fewer_rows a.text.now (in_rows a.rows.now) a.first a.count (q.result.0 - 1) (omega (arith, f.0)) a.used (a.used + a.len) (omega arith) (omega (arith, z.0)) c.requires.rows;
      rows_spelt = fewer_spelt a.text.now (in_rows a.rows.now) a.first a.count (q.result.0 - 1) (omega (arith, f.0)) (run_spelt s e a.used a.end.0 a.p.0 q.result.0 c.requires.rows c.requires.reaches c.requires.le_p.0 q.ensures some);
      w_value = w.ensures;
      w_in_bounds = (omega (arith, z.0), omega (arith, u.0, c.requires.le_p, c.if-len-w.false));
      q_bound = (omega (arith, f.0, u.1.0), (u.1.1, z.1));
    }

pub returns-then-keeping : goal.returns-then-keeping
returns-then-keeping c =
    let a = c.args in
    let s = source (rules_of a.set) a.bytes.now a.dir.now a.cursors.now in
    let e = earlier a.text.now (in_rows a.rows.now) a.first a.count in
    let m = memory a.text.now (in_rows a.rows.now) a.cursors.now in
    let q = c.run_end-q in let w = c.run_length-w in
    let some : a.p.0 < q.result.0 = omega (arith, c.if-q-p.false) in record {
      value = ran_on_law s e a.end.0 a.p.0 q.result.0 a.len q.ensures w.result w.ensures some (omega (arith, c.if-len-w.false, c.requires.le_p));
      cursors_value = puts_run e a.used a.row a.p.0 a.len m a.keeping q.result.0 w.result c.if-keeping.true some c.repeat.ensures;
    }

pub returns : goal.returns
returns c =
    let a = c.args in
    let s = source (rules_of a.set) a.bytes.now a.dir.now a.cursors.now in
    let e = earlier a.text.now (in_rows a.rows.now) a.first a.count in
    let m = memory a.text.now (in_rows a.rows.now) a.cursors.now in
    let q = c.run_end-q in let w = c.run_length-w in record {
      value = ran_on_law s e a.end.0 a.p.0 q.result.0 a.len q.ensures w.result w.ensures (omega (arith, c.if-q-p.false)) (omega (arith, c.if-len-w.false, c.requires.le_p));
      cursors_value = puts_not e a.used a.row a.p.0 a.len m a.keeping q.result.0 (a.len + w.result) c.if-keeping.false;
    }
