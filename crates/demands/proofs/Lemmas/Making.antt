-- The name that a read keeps: a copy of the earlier name, or made of its own rows; and the cursors it moved.
use Prim.Native.Nat.{ℕ, ◌+◌, ◌*◌, ◌≤◌}
use mathlib.Core.Path.{◌≡◌, refl}
use mathlib.Core.Bool.{true}
use mathlib.Core.Logic.{inl, inr}
use mathlib.Core.List.{[]}
use native.Mathlib.Omega.{arith}
use borrow.Author.Tests.{leb-true}
use lib.ListN.{length}
use Rattle.base.proofs.Choice.{both_true}
use Rattle.base.specs.Memory.{part}
use Rattle.block.specs.Streams.{dup_stream, diff_stream}
use Rattle.tables.specs.Tables.{entry_size, Kept, row_room}
use Rattle.kept.specs.Inside.{EntryInside}
use Rattle.tables.proofs.Room.{room_holds}
use Rattle.sources.specs.Source.{Source, Earlier}
use Rattle.repeats.specs.Sound.{Rows}
use Rattle.repeats.proofs.Laws.{rows_none, rows_judged}
use Rattle.names.specs.Names.{Draft, draft, named, name_of}
use Rattle.outcomes.specs.Keeping.{room_for}
use Rattle.heads.specs.Heads.{head_past}
use Rattle.earlier.specs.Back.{rows_of, none, entry_back}
use Rattle.reads.proofs.Fitting.{Rowed, name_rowed}
use Rattle.demands.specs.Takes.{takes_from, head_takes}
use Rattle.demands.specs.Right.{Refers}
use Rattle.demands.specs.Refusals.{Back, Ready, Leans, on_none, on_earlier, Origin, copied, walked}
use Rattle.demands.proofs.Lemmas.Traces.{trace}
use Rattle.demands.proofs.Lemmas.Moves.{Moves, head_moves, name_moves}

pub data Made (s : Source) (m : Kept) : Draft → ℕ → ℕ → ℕ → Type 0 where
  dup : (d : ℕ) → Back m.state.names d → EntryInside m.state m.rows (entry_back m d) → Moves s.cur (head_past s.cur dup_stream) (head_takes dup_stream)
      → Made s m (draft (part m.text (entry_back m d).start ((entry_back m d).start + (entry_back m d).length)) [] 0 (head_past s.cur dup_stream)) (entry_back m d).first (entry_back m d).rows d
  diff : (x : Draft) (d : ℕ) → Refers m.state.names d → Rowed m.state.text x
      → Moves s.cur x.cur (λ j. head_takes diff_stream j + takes_from s 1 (x.count + 1) j) → Made s m x m.state.rows x.count d

module _ (s : Source) (m : Kept) (r : Ready s m) where
  diff_made : (e : Earlier) (x : Draft) (d : ℕ) → Rows m.state.text e → Refers m.state.names d
      → name_of s e m.state.text (head_past s.cur diff_stream) ≡ named x → Made s m x m.state.rows x.count d
  diff_made e x d l n q =
      diff x d n (name_rowed s e m.state.text r.opened l (head_past s.cur diff_stream) x q)
      (name_moves s r.opened.table e m.state.text x (trace s e m.state.text (head_past s.cur diff_stream) x q))

  walk_made : (x : Draft) (d : ℕ) (e : Earlier) → Leans s m d e → name_of s e m.state.text (head_past s.cur diff_stream) ≡ named x → Made s m x m.state.rows x.count d
  unfolding rows_of none
  walk_made x d e (on_none h) q =
      diff_made (none m) x 0 (rows_none m.state.text m.text m.rows r.counts.used) (inl refl) q
  walk_made x d e (on_earlier b h n f) q =
      diff_made (rows_of m (entry_back m d)) x d (rows_judged m.state m.text m.rows (entry_back m d) r.counts.rows_used r.counts.used f)
      (inr (omega (arith, n.0), n.1)) q

  pub made : (x : Draft) (first rows d : ℕ) → Origin s m x first rows d → Made s m x first rows d
  made x first rows d (copied b h n f) = dup b n f (head_moves s r.opened.table dup_stream (omega arith))
  made x first rows d (walked y b e l q) = walk_made x d e l q

-- its rows are whole
pub made_whole : (s : Source) (m : Kept) (x : Draft) (first rows d : ℕ) → Made s m x first rows d → length x.rows ≡ x.count
made_whole s m x first rows d (dup b n e w) = refl
made_whole s m x first rows d (diff y b r w v) = w.whole

-- room for it
pub record Room (m : Kept) (x : Draft) : Type 0 where
  pub text : m.state.text + length x.text + 1 ≤ length m.text
  pub names : entry_size * m.state.names + entry_size ≤ length m.names
  pub rows : m.state.rows + x.count ≤ row_room m.rows

pub room_each : (m : Kept) (x : Draft) → room_for m x ≡ true → Room m x
unfolding room_for
room_each m x e =
    let a = both_true _ _ e in
    let b = both_true _ _ a.1 in
    record {
      text = leb-true _ _ a.0;
      names = omega (arith, room_holds entry_size (omega arith) m.names (m.state.names + 1) (leb-true _ _ b.0));
      rows = leb-true _ _ b.1;
    }
