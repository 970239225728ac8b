-- One outcome only, and the demands for whatever meets the contracts. A contract of a public call is an equation: the answer and every lent
-- buffer at exit, put together, are what the definition gives. So the theorems about the definitions are theorems about the code.
use Prim.Native.Nat.{ℕ, ◌≤◌, ◌<◌}
use Rattle.std.specs.Prelude.{Err}
use mathlib.Core.Path.{◌≡◌, refl, sym, ap, ◌∙◌, subst}
use mathlib.Core.List.{List, [], ◌∷◌}
use mathlib.Core.Logic.{⊎_elim}
use native.Mathlib.Omega.{arith}
use Rattle.comparing.specs.Same.{same}
use Rattle.base.proofs.Choice.{by_test}
use Rattle.comparing.proofs.Equal.{same_equal, differ_same}
use Rattle.base.proofs.Numbers.{lt_or_ge}
use Rattle.refusals.specs.declared.Refusal.{Refusal}
use Rattle.block.specs.Block.{Opening}
use Rattle.block.proofs.Laws.{at_end_each}
use Rattle.tables.specs.Tables.{Kept}
use Rattle.sources.specs.Source.{Source, source}
use Rattle.outcomes.specs.Outcomes.{Outcome}
use Rattle.outcomes.specs.Keeping.{kept}
use Rattle.demands.specs.Runs.{Lent, lent, fresh_over, read, left, Call, reading, claiming, after, run, claimed, name_at}
use Rattle.demands.specs.Refusals.{ReadCase, refuses, ends, keeps}
use Rattle.demands.specs.Right.{Judged, Sane, Demand3}
use Rattle.demands.specs.Traces.{Seen, nothing, a_read, a_claim, ReadSays, next_name, all_read, stops, ClaimSays, is_name, is_other, not_read, EachSeen, Demand3Seen, BlockDemand3Seen}
use Rattle.demands.specs.OnlyOne.{OneOutcome, OneOpening, OneRead, OneBlock, OneVerdict, OneWriting}
use Rattle.demands.specs.Untouched.{Untouched, Whole, Unwritten, OpeningUntouched, ReadUntouched, WritingUntouched, BlockUntouched, BlockKeeps}
use Rattle.demands.proofs.Lemmas.Ways.{read_case}
use Rattle.demands.proofs.Untouched.{read_refused, open_refused, block_refused, block_reads}
use Rattle.demands.proofs.Unwritten.{write_refused}
use Rattle.demands.proofs.Demand3.{demand_3, block_demand_3}
use Rattle.numbering.specs.Types.{Rules}

pub one_outcome : {A : Type 0} {meant x y : A} → OneOutcome meant x y
one_outcome p q = p ∙ sym q

pub one_opening : OneOpening
one_opening len dir count cur x y = one_outcome

pub one_read : OneRead
one_read s m x y = one_outcome

pub one_block : OneBlock
one_block s m count x y = one_outcome

pub one_verdict : OneVerdict
one_verdict number claim s text names x y = one_outcome

pub one_writing : OneWriting
one_writing rules input dir bytes x y = one_outcome

-- demand 1 of the code
pub opening_untouched : OpeningUntouched
opening_untouched len dir count cur o e =
    subst (λ (x : Opening). (r : Refusal) → x.answer ≡ Err r → x.cursors ≡ cur) (sym e) (open_refused len dir count cur)

pub read_untouched : ReadUntouched
read_untouched s m o e = subst (λ (x : Outcome). (r : Refusal) → x.answer ≡ Err r → Untouched s m x) (sym e) (read_refused s m)

pub writing_untouched : WritingUntouched
writing_untouched rules input dir bytes w e = subst (Unwritten dir bytes) (sym e) (write_refused rules input dir bytes)

pub block_untouched : BlockUntouched
block_untouched s m count o e r f = subst (λ (x : Outcome). (x.answer ≡ Err r) × Untouched s m x) (sym e) (block_refused s m count r f)

pub block_keeps : BlockKeeps
block_keeps s m count o e st cur f =
    subst (Whole s.rules s.bytes s.dir (fresh_over m st cur)) (sym e) (block_reads s m count st cur f)

-- what was seen of calls that meet their contracts is what the definitions run to
pub seen_run : (rules : Rules) (bytes dir : List ℕ) (l z : Lent) (calls : List Call) → Seen rules bytes dir l calls z → z ≡ run rules bytes dir l calls
unfolding run after
seen_run rules bytes dir l z [] (nothing a) = refl
seen_run rules bytes dir l z (c ∷ cs) (a_read a b o calls e t) = seen_run rules bytes dir (left o) z cs t ∙ ap (λ (x : Outcome). run rules bytes dir (left x) cs) e
seen_run rules bytes dir l z (c ∷ cs) (a_claim a b number claim v calls e t) = seen_run rules bytes dir l z cs t

-- what a read answers where demand 3 holds
case_says : (s : Source) (m : Kept) (o : Outcome) → ReadCase s m o → ((r : Refusal) → o.answer ≡ Err r → Sane (lent s.cur m) r)
    → ReadSays s.dir (lent s.cur m) o.answer
unfolding kept
case_says s m o (refuses r y) g = stops r (g r refl)
case_says s m o (ends a b c) g = all_read b (at_end_each s.dir s.cur c)
case_says s m o (keeps x first rows d a b c e) g = next_name (omega (arith, a.counts.kept, b))

pub read_says : (rules : Rules) (bytes dir : List ℕ) (f l : Lent) → Demand3 rules bytes dir f l → ReadSays dir l (read rules bytes dir l).answer
unfolding read
read_says rules bytes dir f l d = case_says (source rules bytes dir l.cur) l.kept _ (read_case _ _) d.refusals

-- and what a claim does
pub claim_says : (l : Lent) (number : ℕ) (claim : List ℕ) → Judged l number claim → ClaimSays l number claim (claimed l number claim)
claim_says l number claim j =
    ⊎_elim
    (λ (h : number < l.kept.state.names).
    by_test (same claim (name_at l number))
    (λ t. let e : claim ≡ name_at l number = same_equal _ _ t in rw (j.confirmed h e) (is_name h e))
    (λ t. let n : claim ≡ name_at l number → ⊥ = differ_same _ _ t in rw (j.denied h n) (is_other h n)))
    (λ (h : l.kept.state.names ≤ number). rw (j.unread h) (not_read h))
    (lt_or_ge number l.kept.state.names)

-- where demand 3 holds whatever calls are made, it holds of each call that was seen
module _ (rules : Rules) (bytes dir : List ℕ) (f : Lent) where
  each_seen : (l z : Lent) (calls : List Call) (t : Seen rules bytes dir l calls z) → ((cs : List Call) → Demand3 rules bytes dir f (run rules bytes dir l cs)) → EachSeen rules bytes dir f l z calls t
  unfolding EachSeen run after
  each_seen l z [] (nothing a) g = g []
  each_seen l z (c ∷ cs) (a_read a b o calls e t) g = (
    g [],
    (
      rw e (read_says rules bytes dir f l (g [])),
      each_seen (left o) z cs t (λ x. subst (λ (y : Outcome). Demand3 rules bytes dir f (run rules bytes dir (left y) x)) (sym e) (g (reading ∷ x))),
    ),
  )
  each_seen l z (c ∷ cs) (a_claim a b number claim v calls e t) g = (
    g [],
    (rw e (claim_says l number claim ((g []).claims number claim)), each_seen l z cs t (λ x. g (claiming number claim ∷ x))),
  )

  -- so it holds of the last memory
  pub last_seen : (l z : Lent) (calls : List Call) (t : Seen rules bytes dir l calls z) → EachSeen rules bytes dir f l z calls t → Demand3 rules bytes dir f z
  unfolding EachSeen
  last_seen l z [] (nothing a) h = h
  last_seen l z (c ∷ cs) (a_read a b o calls e t) h = last_seen (left o) z cs t h.1.1
  last_seen l z (c ∷ cs) (a_claim a b number claim v calls e t) h = last_seen l z cs t h.1.1

pub demand_3_seen : Demand3Seen
demand_3_seen rules bytes dir count l z f calls t = each_seen rules bytes dir l l z calls t (demand_3 rules bytes dir count l f)

pub block_demand_3_seen : BlockDemand3Seen
block_demand_3_seen s m count st cur e o f z calls t =
    let l : Lent = fresh_over m st cur in
    each_seen s.rules s.bytes s.dir l (left o) z calls t
    (λ x. subst (λ (y : Outcome). Demand3 s.rules s.bytes s.dir l (run s.rules s.bytes s.dir (left y) x)) (sym f) (block_demand_3 s m count st cur e x))
