-- C-22: what a replay comes to, and that every table it leaves is sound; the same of the exported call.
use Prim.Native.Nat.{ℕ, ◌≤◌, ◌<◌}
use mathlib.Core.Path.{◌≡◌, refl, sym, ap, subst, ◌∙◌}
use mathlib.Core.Bool.{true}
use mathlib.Core.List.{List, [], ◌∷◌, ◌++◌, append-nil}
use mathlib.Core.Logic.{inl, inr}
use native.Mathlib.Omega.{arith}
use Rattle.std.specs.Prelude.{Ok, Err}
use borrow.Author.Tests.{eq-eqb, ne_eqb, lt-ltb, ltb-true}
use lib.Dec.{ltb}
use lib.ListN.{length}
use Rattle.base.specs.Choice.{pick}
use Rattle.base.proofs.Choice as choice
use Rattle.base.proofs.Choice.{both_true, both_of}
use Rattle.base.proofs.Every.{every_none, every_more}
use Rattle.base.proofs.Numbers.{by_order}
use Rattle.refusals.specs.declared.Reason.TheVariants.{BadSize, BadSymbol}
use Rattle.refusals.specs.declared.Refusal.TheVariants.{Plain}
use Rattle.model.specs.declared.Model.{Model}
use Rattle.model.specs.Model.{places, started, place_of, step_at}
use Rattle.model.specs.Sound.{Sound}
use Rattle.replays.proofs.Always.{sound_started, sound_step, place_within, place_outside}
use Rattle.replays.specs.Replays.{Replaying, replaying, replay_from, replay_fresh, in_place, replay_of}
use Rattle.replays.proofs.Steps.{sound_fresh}
use Rattle.replays.proofs.Laws.{stops_at, steps_by, replay_none, fresh_is, none_sized, over_sized, well_sized}
use Rattle.codes.specs.Codes.{no_name, refusal_number}
use Rattle.modelcalls.specs.Calls.{replays_of, replayed_number, replay_call}
use Rattle.demands.specs.Replays.{seen, known, ReplayCase, replays_17, replays_18, replays_all, ReplayHasCase, CaseReplays, Replay17, AlwaysSound, table_after, TableLeft, ReplayEndsSound, ReplayAlone, ReplayedHasCase, ReplayedEndsSound, OneReplay, ReplaySays, says_replayed, says_17, says_18, ReplayCallSays, ReplayCall17, ReplayCall18, ReplayCallAll, ReplayCallEnds, ReplayCallAlone, OneReplayCall, told_replay, ReplayApart, ReplayTold}
use Rattle.demands.specs.Boundary.{NumberTells, NeverDone}
use Rattle.demands.proofs.Contracts.{one_outcome}
use Rattle.demands.proofs.Boundary.{no_refusal, apart, tells_of, told_plain, told_err}

-- a symbol of a sound table stands in it, and any other doesn't
module _ (n : ℕ) (m : Model) (t : Sound n m) (s : ℕ) where
  stands : s < n → place_of m.symbols s < length m.symbols
  stands h = place_within m.symbols s (omega (arith, t.table.once s h))

  stands_not : n ≤ s → length m.symbols ≤ place_of m.symbols s
  stands_not h = place_outside n m.symbols s t.table.no_other h

  seen_sound : s < n → Sound n (step_at m (place_of m.symbols s))
  seen_sound h = sound_step n m t (place_of m.symbols s) (omega (arith, stands h, t.table.placed))

-- a trace taken from its front: to its end, or to the first symbol that isn't the table's
pub data Told (n : ℕ) (m : Model) (trace : List ℕ) : Replaying → Type 0 where
  told_all : known n trace ≡ true → Told n m trace (replaying (Ok tt) (seen m trace))
  told_18 : (before : List ℕ) (s : ℕ) (rest : List ℕ) → trace ≡ before ++ s ∷ rest → known n before ≡ true → n ≤ s → Told n m trace (replaying (Err (Plain BadSymbol)) (seen m before))

known_more : (n s : ℕ) (rest : List ℕ) → s < n → known n rest ≡ true → known n (s ∷ rest) ≡ true
known_more n s rest h e = every_more (λ x. ltb x n) s rest ∙ both_of (lt-ltb s n h) e

more_told : (n : ℕ) (m : Model) (s : ℕ) (rest : List ℕ) → s < n → (r : Replaying) → Told n (step_at m (place_of m.symbols s)) rest r → Told n m (s ∷ rest) r
unfolding seen
more_told n m s rest h r (told_all e) = told_all (known_more n s rest h e)
more_told n m s rest h r (told_18 before a end e k l) = told_18 (s ∷ before) a end (ap (λ (x : List ℕ). s ∷ x) e) (known_more n s before h k) l

tells : (n : ℕ) (m : Model) → Sound n m → (trace : List ℕ) → Told n m trace (replay_from m trace)
unfolding seen
tells n m t [] = subst (Told n m []) (replay_none m) (told_all (every_none (λ x. ltb x n)))
tells n m t (s ∷ rest) =
    by_order s n
    (λ (h : s < n). subst (Told n m (s ∷ rest)) (steps_by m s rest (stands n m t s h)) (more_told n m s rest h _ (tells n (step_at m (place_of m.symbols s)) (seen_sound n m t s h) rest)))
    (λ (h : n ≤ s). subst (Told n m (s ∷ rest)) (stops_at m s rest (stands_not n m t s h)) (told_18 [] s rest refl (every_none (λ x. ltb x n)) h))

fresh_told : (n : ℕ) → n ≤ places → (trace : List ℕ) → Told n (started n) trace (replay_fresh n trace)
fresh_told n h trace = subst (Told n (started n) trace) (sym (fresh_is n trace)) (tells n (started n) (sound_started n h) trace)

case_of : (n : ℕ) (trace : List ℕ) (m : Model) → 1 ≤ n → n ≤ places → (r : Replaying) → Told n (started n) trace r → ReplayCase n trace m (in_place m r)
case_of n trace m h k r (told_all e) = replays_all h k e
case_of n trace m h k r (told_18 before s rest e f g) = replays_18 h k before s rest e f g

pub replay_case : ReplayHasCase
replay_case n trace m =
    by_order places n
    (λ (h : places < n). subst (ReplayCase n trace m) (over_sized n trace m (omega arith) h) (replays_17 (inr h)))
    (λ (k : n ≤ places). by_order 0 n
    (λ (h : 0 < n). subst (ReplayCase n trace m) (well_sized n trace m h k) (case_of n trace m h k (replay_fresh n trace) (fresh_told n k trace)))
    (λ (h : n ≤ 0). let e : n ≡ 0 = omega arith in subst (ReplayCase n trace m) (none_sized n trace m e) (replays_17 (inl e))))

-- symbols of the table in front of others: their steps, then the others
goes_on : (n : ℕ) (m : Model) → Sound n m → (before rest : List ℕ) → known n before ≡ true → replay_from (seen m before) rest ≡ replay_from m (before ++ rest)
unfolding seen
goes_on n m t [] rest e = refl
goes_on n m t (s ∷ before) rest e =
    let k : (ltb s n ≡ true) × (known n before ≡ true) = both_true (ltb s n) (known n before) (sym (every_more (λ x. ltb x n) s before) ∙ e) in
    let h : s < n = ltb-true s n k.0 in
    goes_on n (step_at m (place_of m.symbols s)) (seen_sound n m t s h) before rest k.1 ∙ steps_by m s (before ++ rest) (stands n m t s h)

-- so a trace of them leaves the steps of all, and these are sound
all_seen : (n : ℕ) → n ≤ places → (trace : List ℕ) → known n trace ≡ true → replaying (Ok tt) (seen (started n) trace) ≡ replay_fresh n trace
all_seen n k trace f =
    replay_none (seen (started n) trace)
    ∙ goes_on n (started n) (sound_started n k) trace [] f
    ∙ ap (replay_from (started n)) (append-nil trace)
    ∙ sym (fresh_is n trace)

pub always_sound : AlwaysSound
always_sound n h trace e = subst (λ (r : Replaying). Sound n r.model) (sym (all_seen n h trace e)) (sound_fresh n h trace)

pub case_replays : CaseReplays
case_replays n trace m r (replays_17 (inl e)) = none_sized n trace m e
case_replays n trace m r (replays_17 (inr h)) = over_sized n trace m (omega arith) h
case_replays n trace m r (replays_18 h k before s rest e f g) =
    let t : Sound n (seen (started n) before) = always_sound n k before f in
    ap (in_place m) (stops_at (seen (started n) before) s rest (stands_not n (seen (started n) before) t s g)
    ∙ goes_on n (started n) (sound_started n k) before (s ∷ rest) f
    ∙ ap (replay_from (started n)) (sym e)
    ∙ sym (fresh_is n trace))
    ∙ well_sized n trace m h k
case_replays n trace m r (replays_all h k f) = ap (in_place m) (all_seen n k trace f) ∙ well_sized n trace m h k

ends_of : (n : ℕ) (trace : List ℕ) (m : Model) → Sound n (table_after n trace) → TableLeft n trace m (in_place m (replay_fresh n trace)).model
unfolding in_place
ends_of n trace m s = record { sound = s; stands = refl }

pub replay_ends_sound : ReplayEndsSound
replay_ends_sound n trace m h k =
    subst (λ (r : Replaying). TableLeft n trace m r.model) (well_sized n trace m h k) (ends_of n trace m (sound_fresh n k trace))

pub replay_17 : Replay17
replay_17 n trace m h = sym (case_replays n trace m (replaying (Err (Plain BadSize)) m) (replays_17 h))

-- size and trace alone give the answer: a case of one record is a case of any other
alike : (n : ℕ) (trace : List ℕ) (m other : Model) (r : Replaying) → ReplayCase n trace m r → r.answer ≡ (replay_of n trace other).answer
unfolding in_place
alike n trace m other r (replays_17 h) = ap (λ (x : Replaying). x.answer) (case_replays n trace other (replaying (Err (Plain BadSize)) other) (replays_17 h))
alike n trace m other r (replays_18 h k before s rest e f g) =
    ap (λ (x : Replaying). x.answer) (case_replays n trace other (in_place other (replaying (Err (Plain BadSymbol)) (seen (started n) before))) (replays_18 h k before s rest e f g))
alike n trace m other r (replays_all h k f) = ap (λ (x : Replaying). x.answer) (case_replays n trace other (in_place other (replaying (Ok tt) (seen (started n) trace))) (replays_all h k f))

pub replay_alone : ReplayAlone
replay_alone n trace m other = alike n trace m other (replay_of n trace m) (replay_case n trace m)

-- Of the code

pub replayed_case : ReplayedHasCase
replayed_case n trace m r e = subst (ReplayCase n trace m) (sym e) (replay_case n trace m)

pub replayed_ends_sound : ReplayedEndsSound
replayed_ends_sound n trace m r e h k = subst (λ (x : Replaying). TableLeft n trace m x.model) (sym e) (replay_ends_sound n trace m h k)

-- At the C boundary

case_says : (n : ℕ) (trace : List ℕ) (m : Model) (r : Replaying) → ReplayCase n trace m r → ReplaySays (replays_of r).number
unfolding replays_of replayed_number refusal_number in_place
case_says n trace m r (replays_17 h) = says_17
case_says n trace m r (replays_18 a b before s rest e f g) = says_18
case_says n trace m r (replays_all a b f) = says_replayed

pub replay_call_says : ReplayCallSays
unfolding replay_call
replay_call_says n trace m = case_says n trace m (replay_of n trace m) (replay_case n trace m)

pub replay_call_ends : ReplayCallEnds
unfolding replay_call replays_of
replay_call_ends n trace m h k = replay_ends_sound n trace m h k

call_of : (n : ℕ) (trace : List ℕ) (m : Model) (r : Replaying) → ReplayCase n trace m r → replay_call n trace m ≡ replays_of r
unfolding replay_call
call_of n trace m r c = ap replays_of (sym (case_replays n trace m r c))

pub replay_call_17 : ReplayCall17
unfolding replays_of replayed_number refusal_number
replay_call_17 n trace m h = call_of n trace m (replaying (Err (Plain BadSize)) m) (replays_17 h)

pub replay_call_18 : ReplayCall18
unfolding replays_of replayed_number refusal_number in_place
replay_call_18 n trace m h k before s rest e f g =
    call_of n trace m (in_place m (replaying (Err (Plain BadSymbol)) (seen (started n) before))) (replays_18 h k before s rest e f g)

pub replay_call_all : ReplayCallAll
unfolding replays_of replayed_number in_place
replay_call_all n trace m h k f = call_of n trace m (in_place m (replaying (Ok tt) (seen (started n) trace))) (replays_all h k f)

pub replay_call_alone : ReplayCallAlone
unfolding replay_call replays_of
replay_call_alone n trace m other = ap replayed_number (replay_alone n trace m other)

-- what a code tells, and of which answer
never_done : NeverDone told_replay
unfolding told_replay pick
never_done value = cc (no_refusal value)

pub replay_apart : ReplayApart
unfolding told_replay
replay_apart = (apart told_replay (λ v. tt) (λ c v. refl), never_done)

-- a number tells the answer
answer_tells : (n : ℕ) (trace : List ℕ) (m : Model) (r : Replaying) → ReplayCase n trace m r → NumberTells (replays_of r).number told_replay r.answer
unfolding replays_of replayed_number refusal_number in_place told_replay
answer_tells n trace m r (replays_17 h) = tells_of told_replay 17 no_name (omega arith) (choice.left _ _ (ne_eqb 17 0 (λ z. omega arith)) (told_err (told_plain BadSize (λ z. cc))))
answer_tells n trace m r (replays_18 a b before s rest e f g) = tells_of told_replay 18 no_name (omega arith) (choice.left _ _ (ne_eqb 18 0 (λ z. omega arith)) (told_err (told_plain BadSymbol (λ z. cc))))
answer_tells n trace m r (replays_all a b f) = tells_of told_replay 0 0 (omega arith) (choice.took _ _ (eq-eqb 0 0 refl) refl)

pub number_tells_replay : ReplayTold
unfolding replay_call
number_tells_replay n trace m = answer_tells n trace m (replay_of n trace m) (replay_case n trace m)

pub one_replay : OneReplay
one_replay n trace m x y = one_outcome

pub one_replay_call : OneReplayCall
one_replay_call n trace m x y = one_outcome
