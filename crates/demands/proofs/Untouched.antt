-- Demand 1: a refused call alters none of the lent memory, save that reading a whole block keeps what its steps before the refusal did,
-- and that a replay refused with 18 keeps what the symbols before the bad one did (C-22, proofs/Replays).
-- A claim gives a verdict and no memory: there is nothing that it could alter.
use Prim.Native.Nat.{ℕ, zero, suc, ◌+◌, ◌≤◌}
use Rattle.std.specs.Prelude.{Some, None, Ok, Err}
use mathlib.Core.Path.{◌≡◌, refl, sym, ap}
use mathlib.Core.Bool.{not}
use mathlib.Core.List.{List}
use native.Mathlib.Omega.{arith}
use lib.Dec.{ltb}
use lib.ListN.{length}
use Rattle.base.proofs.Choice.{pick_holds}
use Rattle.refusals.specs.declared.Refusal.{Refusal}
use Rattle.block.specs.declared.State.{State}
use Rattle.block.specs.Block.{Opening, open_of, sound, state}
use Rattle.block.proofs.Laws.{Accepted, accepted}
use Rattle.tables.specs.Tables.{Kept, keeping}
use Rattle.sources.specs.Source.{Source, source}
use Rattle.outcomes.specs.Outcomes.{Outcome, outcome}
use Rattle.reads.specs.Reads.{read_of, go_on, reads_from}
use Rattle.outcomes.specs.Keeping.{kept}
use Rattle.reading.specs.Blocks.{opened_of, block_of}
use Rattle.demands.specs.Runs.{Lent, read, left, none, next}
use Rattle.demands.specs.Untouched.{Untouched, Whole, OpenRefused, ReadRefused, ReadDone, BlockRefused, BlockReads}
use Rattle.demands.specs.Refusals.{ReadCase, refuses, ends, keeps}
use Rattle.demands.proofs.Lemmas.Ways.{read_case}
use Rattle.numbering.specs.Types.{Rules}

refused_way : (s : Source) (m : Kept) (r : Refusal) (o : Outcome) → ReadCase s m o → o.answer ≡ Err r → Untouched s m o
unfolding kept
refused_way s m r o (refuses q y) e = record { cursors = refl; memory = refl }
refused_way s m r o (ends a b c) e = record { cursors = refl; memory = refl }
refused_way s m r o (keeps x first rows d a b c f) e = cc

done_way : (s : Source) (m : Kept) (o : Outcome) → ReadCase s m o → o.answer ≡ Ok None → Untouched s m o
unfolding kept
done_way s m o (refuses q y) e = record { cursors = refl; memory = refl }
done_way s m o (ends a b c) e = record { cursors = refl; memory = refl }
done_way s m o (keeps x first rows d a b c f) e = cc

pub read_refused : ReadRefused
read_refused s m r e = refused_way s m r (read_of s m) (read_case s m) e

pub read_done : ReadDone
read_done s m e = done_way s m (read_of s m) (read_case s m) e

pub open_refused : OpenRefused
unfolding open_of
open_refused n dir count cur r =
    pick_holds (λ (o : Opening). o.answer ≡ Err r → o.cursors ≡ cur) (not (sound n dir cur)) _ _ (λ a e. refl)
    (λ a. pick_holds (λ (o : Opening). o.answer ≡ Err r → o.cursors ≡ cur) (ltb 65536 count) _ _ (λ b e. refl)
    (λ b e. cc))

module _ (rules : Rules) (bytes dir : List ℕ) where
  -- one read more before it
  one_more : (l : Lent) (o w : Outcome) (i : ℕ) → read rules bytes dir l ≡ o → o.answer ≡ Ok (Some i) → Whole rules bytes dir (left o) w → Whole rules bytes dir l w
  one_more l o w i e k h = record {
    names = suc h.names;
    last = h.last;
    before = next h.names i l h.last (rw e k) (rw e h.before);
    answers = h.answers;
    stops = h.stops;
    stays = h.stays;
  }

  -- a read that keeps no name is the last
  the_last : (l : Lent) (o : Outcome) → read rules bytes dir l ≡ o → left o ≡ l → ((i : ℕ) → o.answer ≡ Ok (Some i) → ⊥) → Whole rules bytes dir l o
  the_last l o e k h = record { names = 0; last = l; before = none l; answers = sym (ap (λ (x : Outcome). x.answer) e); stops = h; stays = k }

  -- after one read, `rest` being the reads that follow
  turn : (f : ℕ) (rest : Outcome → Outcome)
      → ((o : Outcome) → o.kept.state.names + f ≡ o.kept.state.count + 1 → o.kept.state.names ≤ o.kept.state.count → Whole rules bytes dir (left o) (rest o))
      → (l : Lent) → l.kept.state.names + suc f ≡ l.kept.state.count + 1 → l.kept.state.names ≤ l.kept.state.count
      → (o : Outcome) → read rules bytes dir l ≡ o → ReadCase (source rules bytes dir l.cur) l.kept o → Whole rules bytes dir l (go_on rest o o.answer)
  unfolding go_on left kept
  turn f rest ih l h k o e (refuses q y) = the_last l o e refl (λ i z. cc)
  turn f rest ih l h k o e (ends a b c) = the_last l o e refl (λ i z. cc)
  turn f rest ih l h k o e (keeps x first rows d a b c g) =
      one_more l o (rest o) l.kept.state.names e refl (ih o (omega arith) (omega (arith, b)))

  all_reads : (f : ℕ) (o : Outcome) → o.kept.state.names + f ≡ o.kept.state.count + 1 → o.kept.state.names ≤ o.kept.state.count
      → Whole rules bytes dir (left o) (reads_from rules bytes dir f o)
  unfolding reads_from read left
  all_reads zero o h k = absurd (omega arith)
  all_reads (suc f) o h k = turn f (reads_from rules bytes dir f) (all_reads f) (left o) h k (read rules bytes dir (left o)) refl (read_case _ _)

pub block_refused : BlockRefused
unfolding block_of opened_of
block_refused s m count r e = rw e (refl, record { cursors = open_refused (length s.bytes) s.dir count s.cur r e; memory = refl })

pub block_reads : BlockReads
unfolding block_of opened_of left
block_reads s m count st cur e =
    let o : Accepted (length s.bytes) s.dir count s.cur st cur = accepted _ _ _ _ e in
    let k : st.names ≡ 0 = ap (λ (x : State). x.names) o.state in
    let c : st.count ≡ count = ap (λ (x : State). x.count) o.state in
    rw e (all_reads s.rules s.bytes s.dir (count + 1) (outcome (Ok None) cur (keeping st m.text m.names m.rows)) (omega arith) (omega arith))
