-- A read has one of the cases of specs/Refusals: every theorem about a read goes by these.
use Prim.Native.Nat.{ℕ, ◌-◌, ◌≤◌}
use Rattle.refusals.specs.declared.Reason.{Reason}
use Rattle.refusals.specs.declared.Reason.TheVariants as reason
use Rattle.spans.specs.Spans.{Next}
use Rattle.distances.specs.Distances.{Head}
use Rattle.std.specs.Prelude.{Some, None, Ok, Err}
use Rattle.distances.specs.declared.Reference.TheVariants as reference
use mathlib.Core.Path.{◌≡◌, refl, sym, ◌∙◌, subst}
use mathlib.Core.Bool.{true}
use mathlib.Core.List.{List}
use native.Mathlib.Omega.{arith}
use borrow.Author.Tests.{leb-true, eqb-true, eqb-false, le-leb}
use lib.Dec.{leb, eqb}
use lib.ListN.{length}
use Rattle.base.specs.Choice.{both}
use Rattle.base.proofs.Choice.{both_true, both_of, pick_holds, by_test, never}
use Rattle.spans.specs.declared.Cursor.{Cursor}
use Rattle.block.specs.Block.{sound, all_inside, all_at_end, starts, state}
use Rattle.block.proofs.Laws.{judged_open, sound_open}
use Rattle.block.specs.Streams.{type_stream, dup_stream, diff_stream}
use Rattle.tables.specs.Tables.{Kept, keeping, Table}
use Rattle.kept.specs.Judgement.{counts, earlier_fits}
use Rattle.kept.proofs.Laws.{counted, fresh_counted, earlier}
use Rattle.numbering.specs.Types.{Rules}
use Rattle.sources.specs.Source.{Source, Earlier, source, byte_in, four_in}
use Rattle.names.specs.Names.{Draft, Named, named, refused, name_of}
use Rattle.outcomes.specs.Outcomes.{plain, at_name}
use Rattle.distances.specs.Distances.{dup_fits, diff_fits, dup_head, diff_head}
use Rattle.heads.specs.Heads.{typed_head, head_of, head_past}
use Rattle.outcomes.specs.Keeping.{room_for, keep_of}
use Rattle.copying.specs.Copies.{dup_of}
use Rattle.naming.specs.Naming.{named_of, diff_of}
use Rattle.earlier.specs.Back.{entry_back}
use Rattle.inner.specs.Next.{headed_of, next_of}
use Rattle.reads.specs.Reads.{read_of}
use Rattle.reads.proofs.Holding.{Holds, next_holds, read_next}
use Rattle.demands.specs.Refusals.{Back, Ready, is_dup, is_diff, Heads, Rule2, dup_back, diff_none, diff_back, HeadStop, no_type, no_head, no_distance, off_rule, Leans, on_none, on_earlier, Origin, copied, walked, by_head, by_memory, by_token, by_room, unsound, uncounted, outside, unread, unnamed, ReadCase, refuses, ends, keeps, ReadHasCase, dup_in, diff_in}
use Rattle.demands.proofs.Lemmas.Stops.{name_stops}
use Rattle.numbering.proofs.Laws.{dup_not_diff}

-- what position 0 can say of name n
data HeadCase (s : Source) (n : ℕ) : Head → Type 0 where
  stops : (r : Reason) → HeadStop s n r → HeadCase s n (Err r)
  dups : (d : ℕ) → Heads s (dup_in s) dup_stream d → Back n d → HeadCase s n (Ok (reference.Dup (record { 0 = d })))
  diffs : (d : ℕ) → Heads s (diff_in s) diff_stream d → Rule2 s n (diff_in s) d → HeadCase s n (Ok (reference.Diff (record { 0 = d })))

-- a block that has opened is ready to be read, whatever the buffers held
pub fresh_ready : (rules : Rules) (bytes dir : List ℕ) (count : ℕ) (old text names : List ℕ) (rows : Table) → sound (length bytes) dir old ≡ true → count ≤ 65536
    → Ready (source rules bytes dir (starts dir)) (keeping (state count 0 0 0) text names rows)
fresh_ready rules bytes dir count old text names rows s l = record {
  opened = sound_open bytes dir old s;
  counts = fresh_counted count text names rows l;
}

-- rule 2, and its tests
pub back_of_law : (n d : ℕ) → both (leb 1 d) (leb d n) ≡ true → Back n d
back_of_law n d e = let h = both_true (leb 1 d) (leb d n) e in (leb-true 1 d h.0, leb-true d n h.1)

pub of_back : (n d : ℕ) → Back n d → both (leb 1 d) (leb d n) ≡ true
of_back n d b = both_of (le-leb 1 d b.0) (le-leb d n b.1)

rule_dup : (s : Source) (n d : ℕ) → Rule2 s n (dup_in s) d → Back n d
rule_dup s n d (dup_back e b) = b
rule_dup s n d (diff_none e z) = absurd (dup_not_diff s.rules.numbers (sym e))
rule_dup s n d (diff_back e b) = b

pub rule_diff : (s : Source) (n d : ℕ) → Rule2 s n (diff_in s) d → diff_fits d n ≡ true
rule_diff s n d (dup_back e b) = le-leb d n b.1
rule_diff s n d (diff_none e z) = le-leb d n (omega (arith, z))
rule_diff s n d (diff_back e b) = le-leb d n b.1

pub diff_rule : (s : Source) (n d : ℕ) → diff_fits d n ≡ true → Rule2 s n (diff_in s) d
diff_rule s n d e =
    by_test (eqb d 0)
    (λ z. diff_none refl (eqb-true d 0 z))
    (λ z. let w = eqb-false d 0 z in diff_back refl (omega arith, leb-true d n e))

module _ (s : Source) (n : ℕ) where
  dup_case : (c : Cursor) → byte_in s 0 type_stream ≡ Some (dup_in s, c) → (f : Next) → four_in s 0 dup_stream ≡ f → HeadCase s n (dup_head n f)
  unfolding dup_head
  dup_case c t (Some (d, k)) f =
      let h : Heads s (dup_in s) dup_stream d = record { past = c; behind = k; type = t; distance = f } in
      pick_holds (HeadCase s n) (dup_fits d n) _ _ (λ e. dups d h (back_of_law n d e)) (λ e. stops reason.BadDistance (off_rule (dup_in s) dup_stream d h is_dup (λ r. never (sym e ∙ of_back n d (rule_dup s n d r)))))
  dup_case c t None f = stops reason.Short (no_distance (dup_in s) dup_stream c t is_dup f)

  diff_case : (c : Cursor) → byte_in s 0 type_stream ≡ Some (diff_in s, c) → (f : Next) → four_in s 0 diff_stream ≡ f → HeadCase s n (diff_head n f)
  unfolding diff_head
  diff_case c t (Some (d, k)) f =
      let h : Heads s (diff_in s) diff_stream d = record { past = c; behind = k; type = t; distance = f } in
      pick_holds (HeadCase s n) (diff_fits d n) _ _ (λ e. diffs d h (diff_rule s n d e)) (λ e. stops reason.BadDistance (off_rule (diff_in s) diff_stream d h is_diff (λ r. never (sym e ∙ rule_diff s n d r))))
  diff_case c t None f = stops reason.Short (no_distance (diff_in s) diff_stream c t is_diff f)

  type_case : (b : Next) → byte_in s 0 0 ≡ b → HeadCase s n (typed_head s n b)
  unfolding typed_head
  type_case (Some (t, c)) f =
      let at : (v : ℕ) → t ≡ v → byte_in s 0 0 ≡ Some (v, c) = λ v e. subst (λ (w : ℕ). byte_in s 0 0 ≡ Some (w, c)) e f in
      pick_holds (HeadCase s n) (eqb t (dup_in s)) _ _ (λ e. dup_case c (at (dup_in s) (eqb-true t (dup_in s) e)) _ refl)
      (λ e. pick_holds (HeadCase s n) (eqb t (diff_in s)) _ _ (λ g. diff_case c (at (diff_in s) (eqb-true t (diff_in s) g)) _ refl)
      (λ g. stops reason.UnknownType (no_head t c f (eqb-false t (dup_in s) e) (eqb-false t (diff_in s) g))))
  type_case None f = stops reason.Short (no_type f)

  head_case : HeadCase s n (head_of s n)
  unfolding head_of
  head_case = type_case (byte_in s 0 0) refl

module _ (s : Source) (m : Kept) (r : Ready s m) (more : m.state.names ≡ m.state.count → ⊥) where
  keep_case : (x : Draft) (first rows d : ℕ) → Origin s m x first rows d → ReadCase s m (keep_of s m x first rows d)
  unfolding keep_of at_name
  keep_case x first rows d o =
      pick_holds (ReadCase s m) (room_for m x) _ _ (λ e. keeps x first rows d r more o e) (λ e. refuses _ (unnamed reason.NoRoom r more (by_room x first rows d o e)))

  named_case : (d : ℕ) (e : Earlier) → Leans s m d e → (a : Named) → name_of s e m.state.text (head_past s.cur diff_stream) ≡ a → ReadCase s m (named_of s m d a)
  unfolding named_of at_name
  named_case d e l (named x) q = keep_case x _ _ d (walked x d e l q)
  named_case d e l (refused n) q =
      let z = name_stops s e _ _ n q in
      refuses _ (unnamed n r more (by_token n d z.position z.printed e l z.reached z.stops))

  walk_case : (d : ℕ) (e : Earlier) → Leans s m d e → ReadCase s m (diff_of s m d e)
  unfolding diff_of
  walk_case d e l = named_case d e l _ refl

  none_case : Heads s (diff_in s) diff_stream 0 → ReadCase s m (headed_of s m (Ok (reference.Diff (record { 0 = 0 }))))
  unfolding headed_of
  none_case h = pick_holds (ReadCase s m) (eqb 0 0) _ _ (λ e. walk_case 0 _ (on_none h)) (λ e. absurd (eqb-false 0 0 e refl))

  back_case : (d : ℕ) → Heads s (diff_in s) diff_stream d → Back m.state.names d → ReadCase s m (headed_of s m (Ok (reference.Diff (record { 0 = d }))))
  unfolding headed_of at_name entry_back
  back_case d h b =
      pick_holds (ReadCase s m) (eqb d 0) _ _ (λ e. absurd (let z : d ≡ 0 = eqb-true d 0 e in omega arith))
      (λ e. pick_holds (ReadCase s m) (earlier_fits m (m.state.names - d)) _ _
      (λ f. walk_case d _ (on_earlier d h b (earlier m _ f))) (λ f. refuses _ (unnamed reason.Outside r more (by_memory (diff_in s) diff_stream d h is_diff b f))))

  rule_case : (d : ℕ) → Heads s (diff_in s) diff_stream d → Rule2 s m.state.names (diff_in s) d → ReadCase s m (headed_of s m (Ok (reference.Diff (record { 0 = d }))))
  rule_case d h (dup_back e b) = back_case d h b
  rule_case d h (diff_none e z) = subst (λ (x : ℕ). Heads s (diff_in s) diff_stream x → ReadCase s m (headed_of s m (Ok (reference.Diff (record { 0 = x }))))) (sym z) none_case h
  rule_case d h (diff_back e b) = back_case d h b

  headed_case : (a : Head) → HeadCase s m.state.names a → ReadCase s m (headed_of s m a)
  unfolding headed_of at_name dup_of entry_back
  headed_case a (stops n q) = refuses _ (unnamed n r more (by_head n q))
  headed_case a (dups d h b) =
      pick_holds (ReadCase s m) (earlier_fits m (m.state.names - d)) _ _
      (λ f. keep_case _ _ _ d (copied d h b (earlier m _ f))) (λ f. refuses _ (unnamed reason.Outside r more (by_memory (dup_in s) dup_stream d h is_dup b f)))
  headed_case a (diffs d h b) = rule_case d h b

next_case : (s : Source) (m : Kept) → Ready s m → ReadCase s m (next_of s m)
unfolding next_of plain
next_case s m r =
    pick_holds (ReadCase s m) (eqb m.state.names m.state.count) _ _
    (λ e. pick_holds (ReadCase s m) (all_at_end s.dir s.cur) _ _ (λ f. ends r (eqb-true _ _ e) f) (λ f. refuses _ (unread r (eqb-true _ _ e) f)))
    (λ e. headed_case s m r (eqb-false _ _ e) _ (head_case s m.state.names))

pub read_case : ReadHasCase
unfolding read_of plain
read_case s m =
    pick_holds (ReadCase s m) (sound (length s.bytes) s.dir s.cur) _ _
    (λ a. pick_holds (ReadCase s m) (counts m) _ _
    (λ b. pick_holds (ReadCase s m) (all_inside s.dir s.cur) _ _
    (λ c. next_case s m (record { opened = judged_open _ _ _ a c; counts = counted m b }))
    (λ c. refuses _ (outside a b c)))
    (λ b. refuses _ (uncounted a b)))
    (λ a. refuses _ (unsound a))

-- where spans, counts and cursors are sound, a read goes on to the name, and leaves them so
module _ (s : Source) (m : Kept) (r : Ready s m) where
  pub ready_reads : read_of s m ≡ next_of s m
  ready_reads = read_next s.rules s.bytes s.dir s.cur m.text m.names m.rows m.state r.opened r.counts

  pub ready_holds : Holds s.bytes s.dir m (read_of s m)
  ready_holds = rw ready_reads (next_holds s.rules s.bytes s.dir s.cur m.text m.names m.rows m.state r.opened r.counts)
