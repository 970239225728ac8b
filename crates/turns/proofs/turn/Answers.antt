use native.Mathlib.Omega.{arith}
use Prim.Native.Nat.{◌^◌}
use Rattle.std.specs.Prelude.{Ok, Err}
use mathlib.Core.Path.{◌≡◌, sym, ap, ◌∙◌}
use Rattle.base.specs.Every.{Below}
use Rattle.sources.specs.Source.{source, earlier}
use Rattle.steps.proofs.Laws.{Known}
use Rattle.names.specs.Names.{type_in}
use Rattle.names.proofs.Turns.{step_of}
use Rattle.turns.proofs.OneTurn.{turn_got, turn_ends, turn_refuses, turn_puts, end_leaves, refusal_leaves, token_inside, token_keeps}
use borrow.Author.Rules.{rules}
use Rattle.numbering.specs.Types.{rules_of}
use Rattle.tables.specs.Tables.{in_rows}
use Rattle.tables.proofs.Rows.{numbers_below}
use Rattle.turns.proofs.turn.Goals as goal

pub take-requires : goal.take-requires
take-requires c =
    let a = c.args in
    let s = source (rules_of a.set) a.bytes.now a.dir.now a.cursors.now in
    let e = earlier a.text.now (in_rows a.rows.now) a.first a.count in
    let f = c.byte_in-found.ensures s.rules in
    let q = sym (step_of s e a.at.p.0 f c.typed_step.ensures) ∙ c.in_ok-t.was ∙ ap Ok c.in-Some.is in
    let d : Below (2 ^ 32) s.dir = λ i. omega (arith, c.type_inv.dir i) in
    let k : Known s e a.at.used a.at.p.0 =
    record {
      opened = c.requires.fact;
      rows = c.requires.rows;
      first = c.requires.placed.0.0.0;
      last = c.requires.placed.0.0.1;
      bytes = λ i. omega (arith, c.type_inv.bytes i);
      texts = λ i. search rules;
      numbers = numbers_below _ _ (λ i. search rules);
    } in
    record {
      inside = token_inside s e a.at k d _ _ q;
      placed = c.requires.placed.0;
      keepable_at = λ h. token_keeps s e a.at k d _ _ q f (c.requires.room_at h);
    }

pub returns-in-Some : goal.returns-in-Some
returns-in-Some c =
    let a = c.args in
    let s = source (rules_of a.set) a.bytes.now a.dir.now a.cursors.now in
    let e = earlier a.text.now (in_rows a.rows.now) a.first a.count in
    let f = c.byte_in-found.ensures s.rules in
    let q = sym (step_of s e a.at.p.0 f c.typed_step.ensures) ∙ c.in_ok-t.was ∙ ap Ok c.in-Some.is in let x = c.take.ensures in
    record {
      value = turn_got _ _ _ _ q x.value;
      cursors_value = turn_puts _ _ _ _ q (ap (type_in s.rules.numbers) f) x.cursors_value;
    }

pub returns-in-None : goal.returns-in-None
returns-in-None c =
    let a = c.args in
    let s = source (rules_of a.set) a.bytes.now a.dir.now a.cursors.now in
    let e = earlier a.text.now (in_rows a.rows.now) a.first a.count in
    let q = sym (step_of s e a.at.p.0 (c.byte_in-found.ensures s.rules) c.typed_step.ensures) ∙ c.in_ok-t.was ∙ ap Ok c.in-None.is in
    record {
      value = turn_ends _ _ _ _ q;
      cursors_value = end_leaves _ _ _ _ _ q;
    }

pub returns-in_err-t : goal.returns-in_err-t
returns-in_err-t c =
    let a = c.args in
    let s = source (rules_of a.set) a.bytes.now a.dir.now a.cursors.now in
    let e = earlier a.text.now (in_rows a.rows.now) a.first a.count in
    let q = sym (step_of s e a.at.p.0 (c.byte_in-found.ensures s.rules) c.typed_step.ensures) ∙ c.in_err-t.was in
    let r : c.from_residual.result ≡ Err c.in_err-t.field-0.0 = search rules in
    record {
      value = r ∙ turn_refuses _ _ _ _ q;
      cursors_value = refusal_leaves _ _ _ _ _ q;
    }
