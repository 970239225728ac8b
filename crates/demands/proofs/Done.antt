-- "done", and 10: a read with k equal to the count.
use Rattle.entries.specs.Entries.{Answer}
use Rattle.std.specs.Prelude.{Some, None, Ok, Err}
use mathlib.Core.Path.{◌≡◌, refl, sym, ◌∙◌}
use mathlib.Core.Bool.{true}
use native.Mathlib.Omega.{arith}
use borrow.Author.Tests.{eq-eqb}
use lib.ListN.{length}
use Rattle.base.proofs.Choice.{pick_true, pick_false, by_test}
use Rattle.block.specs.Block.{sound, all_at_end, starts, state}
use Rattle.block.proofs.Laws.{at_end_each, each_at_end, opens_fresh, starts_cursor}
use Rattle.tables.specs.Tables.{Kept}
use Rattle.sources.specs.Source.{Source, source}
use Rattle.outcomes.specs.Outcomes.{Outcome, plain}
use Rattle.outcomes.specs.Keeping.{kept}
use Rattle.inner.specs.Next.{next_of}
use Rattle.reads.specs.Reads.{read_of, go_on, reads_from}
use Rattle.reading.specs.Blocks.{opened_of, block_of}
use Rattle.demands.specs.Refusals.{Ready, ReadCase, refuses, ends, keeps}
use Rattle.demands.specs.Done.{AtEnd, DoneMeans, DoneWhen, TenWhen, no_names, EmptyBlock, UnreadBlock}
use Rattle.demands.proofs.Lemmas.Ways.{ready_reads, read_case, fresh_ready}

done_way : (s : Source) (m : Kept) (o : Outcome) → ReadCase s m o → o.answer ≡ Ok None → (m.state.names ≡ m.state.count) × AtEnd s.dir s.cur
unfolding kept
done_way s m o (refuses r y) e = cc
done_way s m o (ends r k a) e = (k, at_end_each s.dir s.cur a)
done_way s m o (keeps x first rows d r k g f) e = cc

pub done_means : DoneMeans
done_means s m e = done_way s m (read_of s m) (read_case s m) e

pub done_when : DoneWhen
unfolding next_of
done_when s m r k a = ready_reads s m r ∙ pick_true _ _ (eq-eqb _ _ k) ∙ pick_true _ _ (each_at_end s.dir s.cur a)

pub ten_when : TenWhen
unfolding next_of plain
ten_when s m r k j h n =
    ready_reads s m r ∙ pick_true _ _ (eq-eqb _ _ k)
    ∙ pick_false _ _ (by_test (all_at_end s.dir s.cur) (λ t. absurd (n (at_end_each s.dir s.cur t j h))) (λ f. f))

the_last : (o : Outcome) (a : Answer) → go_on (λ x. x) o a ≡ o
unfolding go_on
the_last o (Ok (Some n)) = refl
the_last o (Ok None) = refl
the_last o (Err r) = refl

module _ (s : Source) (m : Kept) (sounds : sound (length s.bytes) s.dir s.cur ≡ true) where
  -- a block of no names is opened and read once
  one_read : block_of s m 0 ≡ read_of (source s.rules s.bytes s.dir (starts s.dir)) (no_names m)
  unfolding block_of opened_of reads_from
  one_read = rw (← opens_fresh (length s.bytes) s.dir 0 s.cur sounds (omega arith)) (the_last _ _)

  ready : Ready (source s.rules s.bytes s.dir (starts s.dir)) (no_names m)
  ready = fresh_ready s.rules s.bytes s.dir 0 s.cur m.text m.names m.rows sounds (omega arith)

pub empty_block : EmptyBlock
empty_block s m sounds e = one_read s m sounds ∙ done_when _ _ (ready s m sounds) refl (λ j h. starts_cursor s.dir j h ∙ e j h)

pub unread_block : UnreadBlock
unread_block s m sounds j h n = one_read s m sounds ∙ ten_when _ _ (ready s m sounds) refl j h (λ e. n (sym (starts_cursor s.dir j h) ∙ e))
