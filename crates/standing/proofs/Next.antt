-- One read: it keeps the name that the words say is next, or gives their refusal; or, there being a name, 9.
use Prim.Native.Nat.{ℕ, zero, suc, ◌+◌, ◌-◌, ◌≤◌, ◌<◌}
use Rattle.spans.specs.Spans.{Next}
use Rattle.distances.specs.Distances.{Head}
use Rattle.std.specs.Prelude.{None, Ok, Err}
use Rattle.refusals.specs.declared.Reason.{Reason}
use Rattle.refusals.specs.declared.Reason.TheVariants as reason
use Rattle.distances.specs.declared.Reference.TheVariants as reference
use mathlib.Core.Path.{◌≡◌, refl, sym, ap, ◌∙◌, subst}
use mathlib.Core.Logic.{⊎_elim}
use mathlib.Core.Bool.{Bool}
use mathlib.Core.List.{List, [], ◌∷◌}
use native.Mathlib.Omega.{arith}
use native.Mathlib.Nat.{add-zero, zero-add, eq-or-lt_of_le}
use borrow.Author.Tests.{eq-eqb, ne_eqb, leb-true}
use lib.Dec.{eqb}
use lib.ListN.{length, get_or}
use Rattle.base.specs.Choice.{pick}
use Rattle.base.specs.Memory.{part}
use Rattle.base.proofs.Every.{every_same}
use Rattle.base.proofs.Lists.{part_first, part_none}
use Rattle.base.proofs.Numbers.{by_order}
use Rattle.base.proofs.Choice.{pick_two, pick_true, pick_false, pick_holds, both_true}
use Rattle.block.specs.Block.{span_of, end_of, cursor_of, at_end, all_at_end}
use Rattle.block.specs.Open.{Open}
use Rattle.block.specs.Streams.{type_stream, dup_stream, diff_stream}
use Rattle.block.proofs.Laws.{span_below, cursor_set_other}
use Rattle.tables.specs.Tables.{Kept, entry_at}
use Rattle.kept.specs.Inside.{Counted}
use Rattle.kept.specs.Inside as inside
use Rattle.kept.proofs.Laws as judged
use Rattle.numbering.specs.Types.{Rules}
use Rattle.sources.specs.Source.{Source, source, Earlier, byte_in, four_in}
use Rattle.moving.specs.Moves.{past}
use Rattle.moving.proofs.Moves.{length_past}
use Rattle.names.specs.Names.{Draft, draft, Named}
use Rattle.outcomes.specs.Outcomes.{Outcome, outcome, plain}
use Rattle.outcomes.specs.Keeping.{room_for, kept, keep_of}
use Rattle.earlier.specs.Back.{rows_of, none, entry_back}
use Rattle.earlier.specs.Fits.{AllFit}
use Rattle.distances.specs.Distances.{dup_fits, diff_fits, dup_head, diff_head}
use Rattle.heads.specs.Heads.{typed_head, head_of, head_past}
use Rattle.heads.specs.Headed.{Headed}
use Rattle.heads.proofs.Heads.{head_same, head_open}
use Rattle.copying.specs.Copies.{dup_of}
use Rattle.naming.specs.Naming.{named_of, diff_of}
use Rattle.inner.specs.Next.{headed_of, next_of}
use Rattle.words.specs.Fronts.{Spans, leave, Front, four, Said, said, refused, then, taken}
use Rattle.words.specs.Values.{Value, Name, nobody}
use Rattle.words.specs.Words as words
use Rattle.words.specs.Words.{tokens_from, back, copy, made, headed}
use Rattle.standing.specs.Stands.{Stands, Left, Tells}
use Rattle.standing.specs.Next.{ReadSaid, gives, full, keeps, NextSaid, EndsSaid}
use Rattle.standing.proofs.Fronts.{byte_front, four_front}
use Rattle.standing.proofs.Shown.{RowsTell}
use Rattle.standing.proofs.Shown as shown
use Rattle.standing.proofs.Spans.{left_set, other_span}
use Rattle.standing.proofs.Walks.{rows_for, NameSaid, refuses, makes, name_said}
use Rattle.standing.proofs.Names.{rows_told, stands_later, later, own_stands, same_stands}

module _ (rules : Rules) (bytes dir cur : List ℕ) (m : Kept) (before : List Name) (spans : Spans) (o : Open bytes dir cur) (c : Counted m) (fits : AllFit m)
    (t : Tells bytes dir cur m before spans) where
  abbrev s : Source
  s = source rules bytes dir cur

  abbrev k : ℕ
  k = m.state.names

  abbrev Says : Outcome → Said Name → Type 0
  Says = ReadSaid rules bytes dir cur m before

  -- the name that is kept is the newest, those before it stay
  module _ (x : Draft) (first rows d : ℕ) (n : Name) (left : Spans) (l : Left bytes dir x.cur left) (st : Stands (kept m x first rows d).kept k n) where
    newest : (i : ℕ) → i < k + 1 → Stands (kept m x first rows d).kept i (get_or (n ∷ before) (k - i) nobody)
    newest i h =
        ⊎_elim
        (λ (a : i ≡ k). rw a (let z : k - k ≡ 0 = omega arith in rw z st))
        (λ (a : i < k).
        let z : k - i ≡ suc (k - 1 - i) = omega (arith, a) in
        rw z (stands_later m _ (later m x first rows d c) i _ a (judged.earlier m i (fits i a)) (t.each i a)))
        (eq-or-lt_of_le {n = i} {m = k} (omega (arith, h)))

    tells : Tells bytes dir x.cur (kept m x first rows d).kept (n ∷ before) left
    unfolding kept
    tells = record {
      many = omega (arith, t.many);
      each = λ i h. let z : k + 1 - 1 - i ≡ k - i = omega arith in rw z (newest i h);
      left = l;
    }

    keep_said : Says (keep_of s m x first rows d) (said n left)
    unfolding keep_of kept
    keep_said = pick_holds (λ (y : Outcome). Says y (said n left)) (room_for m x) _ _ (λ e. keeps _ n left refl tells) (λ e. full n left)

  refused_said : (r : Reason) → Says (headed_of s m (Err r)) (refused r)
  unfolding headed_of
  refused_said r = gives r

  -- past the type at position 0, and past the distance
  typed_left : Spans
  typed_left = leave spans (span_of 0 0) (part bytes (cursor_of cur (span_of 0 0) + 1) (end_of dir (span_of 0 0)))

  headed_left : ℕ → Spans
  headed_left i = leave typed_left (span_of 0 i) (part bytes (cursor_of cur (span_of 0 i) + 4) (end_of dir (span_of 0 i)))

  typed_is : Left bytes dir (past cur (span_of 0 0) 1) typed_left
  unfolding typed_left past
  typed_is = left_set bytes dir cur spans t.left o.table (span_of 0 0) _ (span_below 0 0 (omega arith) (omega arith))

  module _ (i : ℕ) (low : 1 ≤ i) (high : i ≤ 9) where
    stays : cursor_of (past cur (span_of 0 0) 1) (span_of 0 i) ≡ cursor_of cur (span_of 0 i)
    unfolding past
    stays = cursor_set_other cur (span_of 0 0) _ (span_of 0 i) (other_span 0 i 0 high (omega arith) (λ z. omega (arith, low, z)))

    headed_is : Left bytes dir (head_past cur i) (headed_left i)
    unfolding head_past headed_left past
    headed_is =
        rw (← stays) (left_set bytes dir (past cur (span_of 0 0) 1) typed_left typed_is (length_past cur _ _ ∙ o.table) (span_of 0 i) _ (span_below 0 i (omega arith) high))

    distance_left : typed_left (span_of 0 i) ≡ part bytes (cursor_of cur (span_of 0 i)) (end_of dir (span_of 0 i))
    distance_left = typed_is (span_of 0 i) (span_below 0 i (omega arith) high) ∙ ap (λ (n : ℕ). part bytes n (end_of dir (span_of 0 i))) stays

    four_within : end_of dir (span_of 0 i) ≤ length bytes
    four_within = o.within (span_of 0 i) (span_below 0 i (omega arith) high)

  -- the name so far back
  earlier_stands : (d : ℕ) → suc d ≤ k → Stands m (k - suc d) (get_or before d nobody)
  earlier_stands d h =
      let z : k - 1 - (k - suc d) ≡ d = omega (arith, h) in
      subst (λ (n : ℕ). Stands m (k - suc d) (get_or before n nobody)) z (t.each (k - suc d) (omega (arith, h)))

  earlier_inside : (d : ℕ) → suc d ≤ k → inside.Earlier m (k - suc d)
  earlier_inside d h = judged.earlier m (k - suc d) (fits (k - suc d) (omega (arith, h)))

  -- rule 3
  copy_said : (d : ℕ) → suc d ≤ k
      → Says (headed_of s m (Ok (reference.Dup (record { 0 = suc d })))) (said (record { tokens = (get_or before d nobody).tokens; distance = suc d }) (headed_left dup_stream))
  unfolding headed_of dup_of entry_back
  copy_said d h =
      let st : Stands m (k - suc d) (get_or before d nobody) = earlier_stands d h in
      rw (pick_true _ _ (fits (k - suc d) (omega (arith, h))))
      (keep_said _ _ _ (suc d) _ _ (headed_is dup_stream (omega arith) (omega arith))
      (same_stands m _ _ _ (suc d) c (k - suc d) (get_or before d nobody) st (earlier_inside d h) st.text refl refl))

  dup_said : (d : ℕ) → Says (headed_of s m (pick (dup_fits d k) (Ok (reference.Dup (record { 0 = d }))) (Err reason.BadDistance))) (copy before d (headed_left dup_stream))
  unfolding copy headed_of
  dup_said zero = rw t.many (pick_two (λ (h : Head) (w : Said Name). Says (headed_of s m h) w) (dup_fits 0 k) _ _ _ _ (λ e. absurd (let z = leb-true 1 0 (both_true _ _ e).0 in omega (arith, z))) (λ e. gives reason.BadDistance))
  dup_said (suc d) =
      rw t.many (pick_two (λ (h : Head) (w : Said Name). Says (headed_of s m h) w) (dup_fits (suc d) k) _ _ _ _ (λ e. copy_said d (leb-true (suc d) k (both_true _ _ e).1)) (λ e. gives reason.BadDistance))

  -- rule 4, with the rows of an earlier name or with none
  module _ (d : ℕ) (e : Earlier) (vs : List Value) (r : RowsTell e 1 vs) where
    made_said : (n : Named) (w : Said (List Value)) → NameSaid bytes dir m.state.text (draft [] [] 0 (head_past cur diff_stream)) n w
        → Says (named_of s m d n) (then w (λ vs rest. said (record { tokens = vs; distance = d }) rest))
    unfolding named_of then
    made_said n w (refuses q) = gives q
    made_said n w (makes x ws rest g l) =
        keep_said x _ _ d _ rest l
        (own_stands m x m.state.rows x.count d c ws g.text (g.rows ∙ ap (rows_for ws) (add-zero m.state.text)) refl (g.count ∙ zero-add (length ws)))

    diff_made : Headed s diff_stream d k → Says (diff_of s m d e) (then (tokens_from rules 128 1 vs 0 (headed_left diff_stream)) (λ vs rest. said (record { tokens = vs; distance = d }) rest))
    unfolding diff_of
    diff_made h =
        made_said _ _
        (name_said rules bytes dir cur e m.state.text (head_past cur diff_stream) vs (headed_left diff_stream)
        (head_open rules bytes dir cur diff_stream d k o (omega arith) (omega arith) h) (head_same cur diff_stream (omega arith)) r (headed_is diff_stream (omega arith) (omega arith)))

  diffs_said : (d : ℕ) → d ≤ k → Headed s diff_stream d k
      → Says (headed_of s m (Ok (reference.Diff (record { 0 = d }))))
      (then (tokens_from rules 128 1 (back before d).tokens 0 (headed_left diff_stream)) (λ vs rest. said (record { tokens = vs; distance = d }) rest))
  unfolding headed_of entry_back none
  diffs_said zero h f = rw (pick_true _ _ (eq-eqb 0 0 refl)) (diff_made 0 (none m) [] (shown.none 1 (omega arith)) f)
  diffs_said (suc d) h f =
      rw (pick_false _ _ (ne_eqb (suc d) 0 (λ z. omega (arith, z))), pick_true _ _ (fits (k - suc d) (omega (arith, h))))
      (diff_made (suc d) (rows_of m (entry_at m.names (k - suc d))) (get_or before d nobody).tokens (rows_told m (k - suc d) (get_or before d nobody) (earlier_stands d h)) f)

  diff_said : (d : ℕ) → cursor_of cur (span_of 0 type_stream) + 1 ≤ end_of dir (span_of 0 type_stream) → cursor_of cur (span_of 0 diff_stream) + 4 ≤ end_of dir (span_of 0 diff_stream)
      → Says (headed_of s m (pick (diff_fits d k) (Ok (reference.Diff (record { 0 = d }))) (Err reason.BadDistance))) (made rules before d (headed_left diff_stream))
  unfolding made
  diff_said d a b =
      rw t.many (pick_two (λ (h : Head) (w : Said Name). Says (headed_of s m h) w) (diff_fits d k) _ _ _ _
      (λ e. let near : d ≤ k = leb-true d k e in diffs_said d near (record { near = near; typed = a; four = b }))
      (λ e. refused_said reason.BadDistance))

  -- rule 1
  dup_headed : Says (headed_of s m (dup_head k (four_in s 0 dup_stream))) (then (taken typed_left (span_of 0 dup_stream) (four (typed_left (span_of 0 dup_stream)))) (copy before))
  unfolding four_in dup_head then taken headed_left
  dup_headed =
      rw (distance_left dup_stream (omega arith) (omega arith))
      (four_front bytes (end_of dir (span_of 0 dup_stream)) (four_within dup_stream (omega arith) (omega arith))
      (λ (n : Next) (f : Front ℕ). Says (headed_of s m (dup_head k n)) (then (taken typed_left (span_of 0 dup_stream) f) (copy before)))
      (cursor_of cur (span_of 0 dup_stream)) (λ d a. dup_said d) (refused_said reason.Short))

  diff_headed : cursor_of cur (span_of 0 type_stream) + 1 ≤ end_of dir (span_of 0 type_stream)
      → Says (headed_of s m (diff_head k (four_in s 0 diff_stream))) (then (taken typed_left (span_of 0 diff_stream) (four (typed_left (span_of 0 diff_stream)))) (made rules before))
  unfolding four_in diff_head then taken headed_left
  diff_headed h =
      rw (distance_left diff_stream (omega arith) (omega arith))
      (four_front bytes (end_of dir (span_of 0 diff_stream)) (four_within diff_stream (omega arith) (omega arith))
      (λ (n : Next) (f : Front ℕ). Says (headed_of s m (diff_head k n)) (then (taken typed_left (span_of 0 diff_stream) f) (made rules before)))
      (cursor_of cur (span_of 0 diff_stream)) (λ d a. diff_said d h a) (refused_said reason.Short))

  head_said : (b : ℕ) → cursor_of cur (span_of 0 type_stream) + 1 ≤ end_of dir (span_of 0 type_stream)
      → Says (headed_of s m (pick (eqb b rules.numbers.dup) (dup_head k (four_in s 0 dup_stream)) (pick (eqb b rules.numbers.diff) (diff_head k (four_in s 0 diff_stream)) (Err reason.UnknownType)))) (headed rules before b typed_left)
  unfolding headed
  head_said b h =
      pick_two (λ (x : Head) (w : Said Name). Says (headed_of s m x) w) (eqb b rules.numbers.dup) _ _ _ _ (λ e. dup_headed)
      (λ e. pick_two (λ (x : Head) (w : Said Name). Says (headed_of s m x) w) (eqb b rules.numbers.diff) _ _ _ _ (λ f. diff_headed h) (λ f. refused_said reason.UnknownType))

  name_next : Says (headed_of s m (head_of s k)) (words.next rules before spans)
  unfolding head_of typed_head byte_in words.next then taken typed_left
  name_next =
      rw (t.left (span_of 0 0) (span_below 0 0 (omega arith) (omega arith)))
      (byte_front bytes (end_of dir (span_of 0 0)) (o.within (span_of 0 0) (span_below 0 0 (omega arith) (omega arith)))
      (λ (n : Next) (f : Front ℕ). Says (headed_of s m (typed_head s k n)) (then (taken spans (span_of 0 0) f) (headed rules before)))
      (cursor_of cur (span_of 0 0)) (λ b a. head_said b a) (refused_said reason.Short))

  -- with all names read, every span at its end or not
  span_empty : (j : ℕ) → j < 1290 → words.is_empty (spans j) ≡ at_end dir cur j
  unfolding words.is_empty at_end
  span_empty j h =
      by_order (cursor_of cur j) (end_of dir j)
      (λ l. rw (t.left j h, part_first bytes (cursor_of cur j) (end_of dir j) l (o.within j h)) (sym (ne_eqb (cursor_of cur j) (end_of dir j) (λ z. omega (arith, l, z)))))
      (λ l. rw (t.left j h, part_none bytes (cursor_of cur j) (end_of dir j) l) (sym (eq-eqb (cursor_of cur j) (end_of dir j) (omega (arith, l, o.unpassed j h)))))

  all_empty_law : words.all_empty spans ≡ all_at_end dir cur
  unfolding all_at_end
  all_empty_law = every_same (λ (j : ℕ). words.is_empty (spans j)) (at_end dir cur) 1290 0 (λ j a b. span_empty j (omega (arith, b)))

pub next_said : NextSaid
unfolding next_of
next_said rules bytes dir cur m before spans o c fits t n = rw (pick_false _ _ (ne_eqb _ _ n)) (name_next rules bytes dir cur m before spans o c fits t)

pub ends_said : EndsSaid
unfolding next_of
ends_said rules bytes dir cur m before spans o c fits t e =
    pick_true _ _ (eq-eqb _ _ e)
    ∙ ap (λ (b : Bool). pick b (outcome (Ok None) cur m) (plain (source rules bytes dir cur) m reason.Unread)) (sym (all_empty_law rules bytes dir cur m before spans o c fits t))
