use native.Mathlib.Omega.{arith}
use Rattle.spans.specs.Spans.{Next}
use Prim.Native.Nat.{ℕ, ◌+◌, ◌-◌}
use mathlib.Core.Path.{◌≡◌, sym, ap, ◌∙◌}
use mathlib.Core.Bool.{Bool}
use Rattle.numbering.specs.declared.TokenType.{TokenType}
use Rattle.numbering.specs.Types.{rules_of}
use Rattle.sources.specs.Source.{Source, source, byte_in}
use Rattle.names.specs.Names.{type_in, type_at}
use Rattle.runs.specs.Runs.{is_match}
use Rattle.runs.proofs.Matches.{run_over, run_stops, run_more}
use Rattle.runs.proofs.run_end.Goals as goal

-- what is seen at a position
seen : (s : Source) (q : ℕ) {found : Next} {t : TokenType} {b : Bool} → b ≡ is_match t → t ≡ type_in s.rules.numbers found → found ≡ byte_in s q 0 → b ≡ is_match (type_at s q)
seen s q e f g = e ∙ ap is_match (f ∙ ap (type_in s.rules.numbers) g)

pub returns-then-not-is_match : goal.returns-then-not-is_match
returns-then-not-is_match c =
    let l = c.loop-q in let a = c.args in
    let s = source (rules_of a.set) a.bytes.now a.dir.now a.cursors.now in
    let e = run_stops s l.q (a.end.0 - l.q) (a.end.0 - (l.q + 1)) (omega arith) (sym (seen s l.q c.is_match.ensures c.type_in.ensures (c.byte_in-found.ensures s.rules)) ∙ c.if-not-is_match.true) in
    omega (arith, l.invariant.1)

pub loop-q-preserved : goal.loop-q-preserved
loop-q-preserved c =
    let l = c.loop-q in let a = c.args in
    let s = source (rules_of a.set) a.bytes.now a.dir.now a.cursors.now in (
      omega arith,
      run_more s l.q (a.end.0 - l.q) (a.end.0 - (l.q + 1)) (omega arith)
          (sym (seen s l.q c.is_match.ensures c.type_in.ensures (c.byte_in-found.ensures s.rules)) ∙ c.if-not-is_match.false)
          ∙ l.invariant.1,
    )

pub returns : goal.returns
returns c =
    let l = c.loop-q in let a = c.args in
    run_over (source (rules_of a.set) a.bytes.now a.dir.now a.cursors.now) l.q (a.end.0 - l.q) (omega arith) ∙ l.invariant.1
