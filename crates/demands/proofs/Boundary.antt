-- The demands at the C boundary: what a number tells, what a call that is refused leaves, what a whole-block read leaves and answers, one outcome only,
-- demand 3, and a name that starts afresh (C-11).
use Prim.Native.Nat.{ℕ, ◌^◌, ◌≤◌, ◌<◌}
use Rattle.entries.specs.Entries.{Answer}
use Rattle.claims.specs.Claims.{Claimed}
use Rattle.claims.specs.declared.Verdict.{Verdict}
use Rattle.claims.specs.declared.Verdict.TheVariants as verdict
use Rattle.writing.specs.Writes.{WriteAnswer}
use Rattle.std.specs.Prelude.{Option, Some, None, Result, Ok, Err, cond, option_map}
use Rattle.refusals.specs.declared.Reason.{Reason}
use Rattle.refusals.specs.Refusals.{number_of, among, reason_of}
use Rattle.refusals.proofs.Laws.{reason_back, one_reason, number_between}
use Rattle.refusals.specs.declared.Reason.TheVariants as reason
use mathlib.Core.Path.{◌≡◌, refl, sym, ap, ◌∙◌, subst}
use mathlib.Core.Bool.{Bool, true, false}
use mathlib.Core.List.{List, [], ◌∷◌}
use mathlib.Core.Logic.{◌⊎◌, inl, inr, ⊎_elim}
use native.Mathlib.Omega.{arith}
use borrow.Author.Tests.{eq-eqb, eqb-true, ne_eqb}
use lib.Dec.{eqb}
use lib.ListN.{length, get_or, replicate}
use Rattle.comparing.specs.Same.{same}
use Rattle.base.specs.Choice.{pick}
use Rattle.base.proofs.Choice as choice
use Rattle.base.proofs.Choice.{by_test}
use Rattle.comparing.proofs.Equal.{same_equal, differ_same}
use Rattle.base.proofs.Numbers.{lt_or_ge}
use Rattle.block.specs.declared.State.{State}
use Rattle.refusals.specs.declared.Refusal.{Refusal}
use Rattle.refusals.specs.declared.Refusal.TheVariants as refusal
use Rattle.block.specs.Block.{Opening, opening, open_of, starts, state}
use Rattle.tables.specs.Tables.{Kept, keeping, Table}
use Rattle.numbering.specs.Types.{Rules}
use Rattle.sources.specs.Source.{Source, source}
use Rattle.outcomes.specs.Outcomes.{Outcome, outcome}
use Rattle.outcomes.specs.Keeping.{kept}
use Rattle.reading.specs.Blocks.{opened_of, block_of}
use Rattle.claims.specs.Causes as causes
use Rattle.claims.specs.Causes.{Cause}
use Rattle.claims.proofs.Laws.{cause}
use Rattle.writing.specs.Writes.{Writing, write_of}
use Rattle.codes.specs.Codes.{packed, no_name, refusal_number, state_in, state_out}
use Rattle.opencalls.specs.Calls.{opened_number}
use Rattle.writecalls.specs.Calls.{written_number}
use Rattle.answers.specs.Answers.{read_number, verdict_number}
use Rattle.codes.proofs.Laws.{packed_one}
use Rattle.opencalls.specs.Calls.{opens, opened_state, opens_of, open_call}
use Rattle.readcalls.specs.Calls.{Reads, reads, reads_of, read_call, block_call}
use Rattle.claimcalls.specs.Calls.{claim_call}
use Rattle.writecalls.specs.Calls.{writes, written_totals, writes_of, write_call}
use Rattle.demands.specs.Runs as runs
use Rattle.demands.specs.Runs.{Lent, lent, read, left, Fresh, Keeps, Call, reading, claiming, after, run, claimed, name_at}
use Rattle.demands.specs.Refusals as cases
use Rattle.demands.specs.Refusals.{OpenCase, WriteCase, Why, ReadCase, refuses, ends, keeps}
use Rattle.demands.specs.Right.{Judged, Sane, left_over, by_rules, Demand3}
use Rattle.demands.specs.Boundary.{IsCode, Stopped, StateBack, OpenCallStopped, OpenCallStops, ReadCallStopped, ReadCallStops, WriteCallStopped, WriteCallStops, BlockCallStopped, NumberTells, SameAnswer, refused_with, told_refusal, told_read, told_opening, told_verdict, told_writing, OneNumber, ToldApart, NeverDone, OpeningApart, ReadApart, VerdictApart, WritingApart, OpeningTold, ReadTold, BlockTold, VerdictTold, WritingTold, begun, lent_from, call_on, calls_on, KeepCalls, no_call, next_call, WholeCall, BlockCallReads, StopSays, says_done, says_left_over, says_by_rules, Faultless, BlockSays, BlockCallSays, ReadCallSays, claim_on, JudgedCall, Demand3Call, EachCall, CallsDemand3, BlockCallsDemand3, CallsEach, BlockCallsEach, AfreshCall, OneOpenCall, OneReadCall, OneBlockCall, OneClaimCall, OneWriteCall}
use Rattle.demands.specs.Untouched.{Whole}
use Rattle.demands.proofs.Lemmas.Ways.{read_case}
use Rattle.demands.proofs.Refusals.{open_case, write_case}
use Rattle.demands.proofs.Untouched.{block_refused, block_reads}
use Rattle.demands.proofs.Unwritten.{write_refused}
use Rattle.demands.proofs.Demand3.{read_or_not, plain_reads, demand_3, block_demand_3}
use Rattle.demands.proofs.Contracts.{one_outcome}
use Rattle.demands.proofs.Afresh.{starts_afresh}

pub state_back : StateBack
unfolding state_in state_out
state_back [] e = absurd (omega arith)
state_back (a ∷ []) e = absurd (omega arith)
state_back (a ∷ b ∷ []) e = absurd (omega arith)
state_back (a ∷ b ∷ c ∷ []) e = absurd (omega arith)
state_back (a ∷ b ∷ c ∷ d ∷ []) e = refl
state_back (a ∷ b ∷ c ∷ d ∷ x ∷ l) e = absurd (omega arith)

-- code 0 isn't another code
not_stopped : (v : ℕ) → Stopped (packed 0 v) → ⊥
unfolding packed
not_stopped v h = omega (arith, h.is, h.some, h.low)

-- a refusal's number is another code
numbered : (r : Reason) (v : ℕ) → Stopped (packed (number_of r) v)
numbered r v = let b = number_between r in record { code = number_of r; value = v; is = refl; some = b.0; low = omega (arith, b.1) }

refusal_stopped : (q : Refusal) → Stopped (refusal_number q)
unfolding refusal_number
refusal_stopped (refusal.Plain r) = numbered r no_name
refusal_stopped (refusal.At r n) = numbered r n

-- What a code tells, and of which answer

by_pick : {A P : Type 0} (b : Bool) (x y : A) {r : A} → r ≡ pick b x y → (b ≡ true → r ≡ x → P) → (r ≡ y → P) → P
unfolding pick
by_pick true x y e f g = f refl e
by_pick false x y e f g = g e

some_is : {A : Type 0} {x y : A} → Some x ≡ Some y → x ≡ y
some_is e = cc

mapped : {A B P : Type 0} (f : A → B) (o : Option A) (y : B) → Some y ≡ option_map f o → ((x : A) → o ≡ Some x → y ≡ f x → P) → P
mapped f None y e g = absurd (let z : Some y ≡ None = e in cc)
mapped f (Some x) y e g = g x refl (some_is e)

-- the reason that a list has for a number has that number
among_at : {P : Type 0} (b : Bool) (t : Reason) (o : Option Reason) {r : Reason} → cond b (Some t) o ≡ Some r → (b ≡ true → t ≡ r → P) → (o ≡ Some r → P) → P
among_at true t o e f g = f refl (some_is e)
among_at false t o e f g = g e

among_number : (rs : List Reason) (n : ℕ) (r : Reason) → among rs n ≡ Some r → number_of r ≡ n
unfolding among
among_number [] n r e = absurd (let z : None ≡ Some r = e in cc)
among_number (t ∷ rs) n r e =
    among_at (eqb n (number_of t)) t (among rs n) e
    (λ b q. ap (λ (x : Reason). number_of x) (sym q) ∙ sym (eqb-true n (number_of t) b))
    (λ q. among_number rs n r q)

pub reason_number : (n : ℕ) (r : Reason) → reason_of n ≡ Some r → number_of r ≡ n
unfolding reason_of
reason_number n r e = among_number _ n r e

-- nothing has the code 256 but what is done
pub no_refusal : (v : ℕ) → told_refusal 256 v ≡ None
unfolding told_refusal reason_of among
no_refusal v = refl

never_done_opening : (count : ℕ) → NeverDone (told_opening count)
unfolding told_opening pick
never_done_opening count value = cc (no_refusal value)

never_done_verdict : NeverDone told_verdict
unfolding told_verdict pick
never_done_verdict value = cc (no_refusal value)

never_done_writing : (totals : List ℕ) → NeverDone (told_writing totals)
unfolding told_writing pick
never_done_writing totals value = cc (no_refusal value)

-- the reason of a refusal and its value, as they were told
abbrev reason_in : Refusal → Reason
reason_in (refusal.Plain r) = r
reason_in (refusal.At r n) = r

abbrev value_in : Refusal → ℕ
value_in (refusal.Plain r) = no_name
value_in (refusal.At r n) = n

reason_with : (r : Reason) (v : ℕ) → reason_in (refused_with r v) ≡ r
unfolding refused_with
reason_with r v =
    choice.pick_either (λ (q : Refusal). reason_in q ≡ r) (eqb (number_of r) 11) (refusal.At r v) (pick (eqb v no_name) (refusal.Plain r) (refusal.At r v)) refl
    (choice.pick_either (λ (q : Refusal). reason_in q ≡ r) (eqb v no_name) (refusal.Plain r) (refusal.At r v) refl refl)

value_with : (r : Reason) (v : ℕ) → value_in (refused_with r v) ≡ v
unfolding refused_with
value_with r v =
    choice.pick_either (λ (q : Refusal). value_in q ≡ v) (eqb (number_of r) 11) (refusal.At r v) (pick (eqb v no_name) (refusal.Plain r) (refusal.At r v)) refl
    (choice.pick_holds (λ (q : Refusal). value_in q ≡ v) (eqb v no_name) (refusal.Plain r) (refusal.At r v) (λ t. sym (eqb-true v no_name t)) (λ t. refl))

told_by : (c v : ℕ) (q : Refusal) → Some q ≡ told_refusal c v → (number_of (reason_in q) ≡ c) × (value_in q ≡ v)
unfolding told_refusal
told_by c v q e =
    mapped (λ (r : Reason). refused_with r v) (reason_of c) q e
    (λ r f g. (ap (λ (x : Refusal). number_of (reason_in x)) g ∙ ap (λ (x : Reason). number_of x) (reason_with r v) ∙ reason_number c r f, ap (λ (x : Refusal). value_in x) g ∙ value_with r v))

refused : {A P : Type 0} (c v : ℕ) (a : Result A Refusal) → Some a ≡ option_map Err (told_refusal c v)
    → ((q : Refusal) → number_of (reason_in q) ≡ c → value_in q ≡ v → a ≡ Err q → P) → P
refused c v a e g = mapped Err (told_refusal c v) a e (λ q i j. let b = told_by c v q (sym i) in g q b.0 b.1 j)

-- code 0 tells an answer that is no refusal, any other a refusal
parts : {A P : Type 0} (x : A) (c v : ℕ) (a : Result A Refusal) → Some a ≡ pick (eqb c 0) (Some (Ok x)) (option_map Err (told_refusal c v))
    → (c ≡ 0 → a ≡ Ok x → P) → ((q : Refusal) → number_of (reason_in q) ≡ c → value_in q ≡ v → a ≡ Err q → P) → P
parts x c v a e f g = by_pick (eqb c 0) (Some (Ok x)) (option_map Err (told_refusal c v)) e (λ t h. f (eqb-true c 0 t) (some_is h)) (λ h. refused c v a h g)

abbrev code_in : {A : Type 0} → Result A Refusal → ℕ
code_in (Ok x) = 0
code_in (Err q) = number_of (reason_in q)

abbrev refused_value : {A : Type 0} → Result A Refusal → ℕ
refused_value (Ok x) = 0
refused_value (Err q) = value_in q

ok_is : {A : Type 0} {x y : A} → ◌≡◌ {A = Result A Refusal} (Ok x) (Ok y) → x ≡ y
ok_is e = cc

err_ok : {A P : Type 0} {q : Refusal} {x : A} → ◌≡◌ {A = Result A Refusal} (Err q) (Ok x) → P
err_ok e = absurd cc

module _ {A : Type 0} (told : ℕ → ℕ → Option (Result A Refusal)) (ok : ℕ → A)
    (is : (c v : ℕ) → told c v ≡ pick (eqb c 0) (Some (Ok (ok v))) (option_map Err (told_refusal c v))) where
  coded : (c v : ℕ) (a : Result A Refusal) → Some a ≡ told c v → code_in a ≡ c
  coded c v a e = parts (ok v) c v a (e ∙ is c v) (λ z h. ap (λ (x : Result A Refusal). code_in x) h ∙ sym z) (λ q n w h. ap (λ (x : Result A Refusal). code_in x) h ∙ n)

  valued : (c v : ℕ) (q : Refusal) → Some (Err q) ≡ told c v → value_in q ≡ v
  valued c v q e = parts (ok v) c v (Err q) (e ∙ is c v) (λ z h. err_ok h) (λ p n w h. ap (λ (x : Result A Refusal). refused_value x) h ∙ w)

  pub apart : ToldApart told
  apart = record {
    known = λ c v a e. parts (ok v) c v a (e ∙ is c v) (λ z h. inl z) (λ q n w h. inr (inr (reason_in q, n)));
    one_code = λ c v d w a e f. sym (coded c v a e) ∙ coded d w a f;
    one_refusal = λ q c v d w e f. (sym (coded c v (Err q) e) ∙ coded d w (Err q) f, sym (valued c v q e) ∙ valued d w q f);
  }

pub opening_apart : OpeningApart
unfolding told_opening
opening_apart count = (apart (told_opening count) (λ v. state count 0 0 0) (λ c v. refl), never_done_opening count)

confirmed_value : (c v : ℕ) → Some (Ok verdict.Confirmed) ≡ told_verdict c v → 1 ≡ v
unfolding told_verdict
confirmed_value c v e =
    parts (pick (eqb v 1) verdict.Confirmed verdict.Denied) c v (Ok verdict.Confirmed) e
    (λ z h. by_pick (eqb v 1) verdict.Confirmed verdict.Denied (ok_is h) (λ t i. sym (eqb-true v 1 t)) (λ i. absurd (let k : verdict.Confirmed ≡ verdict.Denied = i in cc)))
    (λ q n w h. err_ok (sym h))

pub verdict_apart : VerdictApart
unfolding told_verdict
verdict_apart =
    let t : ToldApart told_verdict = apart told_verdict (λ v. pick (eqb v 1) verdict.Confirmed verdict.Denied) (λ c v. refl) in
    (t, (never_done_verdict, λ c v d w e f. (t.one_code c v d w (Ok verdict.Confirmed) e f, sym (confirmed_value c v e) ∙ confirmed_value d w f)))

abbrev written_value : WriteAnswer → ℕ
written_value (Ok w) = w.bytes
written_value (Err q) = value_in q

written_valued : (totals : List ℕ) (c v : ℕ) (a : WriteAnswer) → Some a ≡ told_writing totals c v → written_value a ≡ v
unfolding told_writing
written_valued totals c v a e =
    parts (record { names = get_or totals 0 0; bytes = v }) c v a e
    (λ z h. ap (λ (x : WriteAnswer). written_value x) h) (λ q n w h. ap (λ (x : WriteAnswer). written_value x) h ∙ w)

pub writing_apart : WritingApart
unfolding told_writing
writing_apart totals =
    let t : ToldApart (told_writing totals) = apart (told_writing totals) (λ v. record { names = get_or totals 0 0; bytes = v }) (λ c v. refl) in
    (t, (never_done_writing totals, λ a c v d w e f. (t.one_code c v d w a e f, sym (written_valued totals c v a e) ∙ written_valued totals d w a f)))

-- a read's 256 is an answer too, which has any value
read_parts : {P : Type 0} (c v : ℕ) (a : Answer) → Some a ≡ told_read c v → (c ≡ 0 → a ≡ Ok (Some v) → P) → (c ≡ 256 → a ≡ Ok None → P)
    → ((q : Refusal) → number_of (reason_in q) ≡ c → value_in q ≡ v → a ≡ Err q → P) → P
unfolding told_read
read_parts c v a e f g h =
    by_pick (eqb c 0) (Some (Ok (Some v))) (pick (eqb c 256) (Some (Ok None)) (option_map Err (told_refusal c v))) e
    (λ t i. f (eqb-true c 0 t) (some_is i))
    (λ i. by_pick (eqb c 256) (Some (Ok None)) (option_map Err (told_refusal c v)) i (λ t j. g (eqb-true c 256 t) (some_is j)) (λ j. refused c v a j h))

abbrev read_code : Answer → ℕ
read_code (Ok (Some n)) = 0
read_code (Ok None) = 256
read_code (Err q) = number_of (reason_in q)

abbrev read_value : Answer → ℕ
read_value (Ok (Some n)) = n
read_value (Ok None) = 0
read_value (Err q) = value_in q

read_coded : (c v : ℕ) (a : Answer) → Some a ≡ told_read c v → read_code a ≡ c
read_coded c v a e =
    read_parts c v a e (λ z h. ap (λ (x : Answer). read_code x) h ∙ sym z) (λ z h. ap (λ (x : Answer). read_code x) h ∙ sym z) (λ q n w h. ap (λ (x : Answer). read_code x) h ∙ n)

read_valued : (c v : ℕ) (a : Answer) → (a ≡ Ok None → ⊥) → Some a ≡ told_read c v → read_value a ≡ v
read_valued c v a k e =
    read_parts c v a e (λ z h. ap (λ (x : Answer). read_value x) h) (λ z h. absurd (k h)) (λ q n w h. ap (λ (x : Answer). read_value x) h ∙ w)

read_one : (a : Answer) → (a ≡ Ok None → ⊥) → OneNumber told_read a
read_one a k c v d w e f = (sym (read_coded c v a e) ∙ read_coded d w a f, sym (read_valued c v a k e) ∙ read_valued d w a k f)

pub read_apart : ReadApart
read_apart = (
  record {
    known = λ c v a e. read_parts c v a e (λ z h. inl z) (λ z h. inr (inl z)) (λ q n w h. inr (inr (reason_in q, n)));
    one_code = λ c v d w a e f. sym (read_coded c v a e) ∙ read_coded d w a f;
    one_refusal = λ q. read_one (Err q) (λ z. cc);
  },
  λ n. read_one (Ok (Some n)) (λ z. cc),
)

-- What a number tells

pub tells_of : {A : Type 0} (told : ℕ → ℕ → Option A) {a : A} (code value : ℕ) → code < 2 ^ 32 → Some a ≡ told code value → NumberTells (packed code value) told a
tells_of told code value h e = record { code = code; value = value; low = h; is = refl; one = λ c v l q. packed_one c v code value l h (sym q); tells = e }

-- it has a call's code
pub code_known : {A : Type 0} {number : ℕ} {told : ℕ → ℕ → Option (Result A Refusal)} {a : Result A Refusal} → ToldApart told → (t : NumberTells number told a) → IsCode t.code
code_known {a = a} h t = h.known t.code t.value a t.tells

pub same_answer : {A : Type 0} {told : ℕ → ℕ → Option A} {a b : A} → SameAnswer told a b
same_answer {told = told} m n x y e =
    let q : (y.code ≡ x.code) × (y.value ≡ x.value) = x.one y.code y.value y.low (e ∙ y.is) in
    some_is (x.tells ∙ sym (y.tells ∙ ap (λ (c : ℕ). told c y.value) q.0 ∙ ap (told x.code) q.1))

told_back : {q : Refusal} (r : Reason) (v : ℕ) → q ≡ refused_with r v → Some q ≡ told_refusal (number_of r) v
unfolding told_refusal
told_back r v e = ap Some e ∙ sym (ap (λ (o : Option Reason). option_map (λ (x : Reason). refused_with x v) o) (reason_back r))

pub told_plain : (r : Reason) → (r ≡ reason.NoSuchName → ⊥) → Some (refusal.Plain r) ≡ told_refusal (number_of r) no_name
unfolding refused_with
told_plain r h = told_back r no_name (choice.left _ _ (ne_eqb (number_of r) 11 (λ z. h (one_reason r reason.NoSuchName z))) (choice.took _ _ (eq-eqb no_name no_name refl) refl))

told_name : (r : Reason) (n : ℕ) → (n ≡ no_name → ⊥) → Some (refusal.At r n) ≡ told_refusal (number_of r) n
unfolding refused_with
told_name r n h = told_back r n (by_test (eqb (number_of r) 11) (λ t. choice.took _ _ t refl) (λ t. choice.left _ _ t (choice.left _ _ (ne_eqb n no_name h) refl)))

-- 11 has its number, whichever that is
told_claimed : (n : ℕ) → Some (refusal.At reason.NoSuchName n) ≡ told_refusal 11 n
unfolding refused_with
told_claimed n = told_back reason.NoSuchName n (choice.took _ _ (eq-eqb 11 11 refl) refl)

pub told_err : {A : Type 0} {q : Refusal} {o : Option Refusal} → Some q ≡ o → ◌≡◌ {A = Option (Result A Refusal)} (Some (Err q)) (option_map Err o)
told_err e = ap (λ (x : Option Refusal). option_map Err x) e

-- a refused read or whole block
read_stop : (k : ℕ) (r : Reason) (v : ℕ) (q : Refusal) → refusal_number q ≡ packed (number_of r) v → Some q ≡ told_refusal (number_of r) v
    → NumberTells (read_number k (Err q)) told_read (Err q)
unfolding told_read read_number
read_stop k r v q e f =
    let b = number_between r in
    rw e (tells_of told_read (number_of r) v (omega (arith, b.1))
    (choice.left _ _ (ne_eqb (number_of r) 0 (λ z. omega (arith, b.0))) (choice.left _ _ (ne_eqb (number_of r) 256 (λ z. omega (arith, b.1))) (told_err f))))

why_tells : (s : Source) (m : Kept) (k : ℕ) (q : Refusal) → Why s m q → NumberTells (read_number k (Err q)) told_read (Err q)
unfolding refusal_number
why_tells s m k q (cases.unsound a) = read_stop k reason.Unsound no_name q refl (told_plain reason.Unsound (λ z. cc))
why_tells s m k q (cases.uncounted a b) = read_stop k reason.Outside no_name q refl (told_plain reason.Outside (λ z. cc))
why_tells s m k q (cases.outside a b c) = read_stop k reason.Outside no_name q refl (told_plain reason.Outside (λ z. cc))
why_tells s m k q (cases.unread a b c) = read_stop k reason.Unread no_name q refl (told_plain reason.Unread (λ z. cc))
why_tells s m k q (cases.unnamed r a b c) = read_stop k r m.state.names q refl (told_name r m.state.names (λ z. omega (arith, a.counts.kept, a.counts.limit)))

case_tells : (s : Source) (m : Kept) (k : ℕ) (o : Outcome) → ReadCase s m o → NumberTells (read_number k o.answer) told_read o.answer
unfolding read_number told_read kept
case_tells s m k o (refuses q y) = why_tells s m k q y
case_tells s m k o (ends a b c) =
    tells_of told_read 256 k (omega arith) (choice.left _ _ (ne_eqb 256 0 (λ z. omega arith)) (choice.took _ _ (eq-eqb 256 256 refl) refl))
case_tells s m k o (keeps x first rows d a b c e) = tells_of told_read 0 m.state.names (omega arith) (choice.took _ _ (eq-eqb 0 0 refl) refl)

pub number_tells_read : ReadTold
unfolding read_call reads_of
number_tells_read rules bytes dir cur text names rows st = case_tells (source rules bytes dir cur) (keeping (state_in st) text names rows) _ _ (read_case _ _)

-- a whole block: its opening is refused, or its answer is the last read's
block_tells : (rules : Rules) (s : Source) (m : Kept) (count k : ℕ) (o : Opening) → OpenCase (length s.bytes) s.dir count s.cur o → open_of (length s.bytes) s.dir count s.cur ≡ o
    → NumberTells (read_number k (block_of s m count).answer) told_read (block_of s m count).answer
unfolding refusal_number read
block_tells rules s m count k o (cases.opens_1 a) e =
    rw (block_refused s m count (refusal.Plain reason.Unsound) (ap (λ (x : Opening). x.answer) e)).0
    (read_stop k reason.Unsound no_name (refusal.Plain reason.Unsound) refl (told_plain reason.Unsound (λ z. cc)))
block_tells rules s m count k o (cases.opens_12 a b) e =
    rw (block_refused s m count (refusal.Plain reason.BadCount) (ap (λ (x : Opening). x.answer) e)).0
    (read_stop k reason.BadCount no_name (refusal.Plain reason.BadCount) refl (told_plain reason.BadCount (λ z. cc)))
block_tells rules s m count k o (cases.opens a b) e =
    let w = block_reads s m count (state count 0 0 0) (starts s.dir) e in
    rw w.answers (case_tells (source s.rules s.bytes s.dir w.last.cur) w.last.kept k _ (read_case _ _))

pub number_tells_block : BlockTold
unfolding block_call reads_of
number_tells_block rules bytes dir count cur text names rows st =
    block_tells rules (source rules bytes dir cur) (keeping (state_in st) text names rows) count _ _ (open_case (length bytes) dir count cur) refl

opening_stop : (count : ℕ) (r : Reason) → (r ≡ reason.NoSuchName → ⊥) → NumberTells (packed (number_of r) no_name) (told_opening count) (Err (refusal.Plain r))
unfolding told_opening
opening_stop count r n =
    let b = number_between r in
    tells_of (told_opening count) (number_of r) no_name (omega (arith, b.1)) (choice.left _ _ (ne_eqb (number_of r) 0 (λ z. omega (arith, b.0))) (told_err (told_plain r n)))

opening_tells : (len : ℕ) (dir : List ℕ) (count : ℕ) (cur : List ℕ) (o : Opening) → OpenCase len dir count cur o → NumberTells (opened_number o.answer) (told_opening count) o.answer
unfolding opened_number refusal_number told_opening
opening_tells len dir count cur o (cases.opens_1 a) = opening_stop count reason.Unsound (λ z. cc)
opening_tells len dir count cur o (cases.opens_12 a b) = opening_stop count reason.BadCount (λ z. cc)
opening_tells len dir count cur o (cases.opens a b) = tells_of (told_opening count) 0 0 (omega arith) (choice.took _ _ (eq-eqb 0 0 refl) refl)

pub number_tells_opening : OpeningTold
unfolding open_call opens_of
number_tells_opening bytes dir count cur st = opening_tells (length bytes) dir count cur _ (open_case (length bytes) dir count cur)

verdict_stop : (r : Reason) (v : ℕ) (q : Refusal) → refusal_number q ≡ packed (number_of r) v → Some q ≡ told_refusal (number_of r) v → NumberTells (verdict_number (Err q)) told_verdict (Err q)
unfolding told_verdict verdict_number
verdict_stop r v q e f =
    let b = number_between r in
    rw e (tells_of told_verdict (number_of r) v (omega (arith, b.1)) (choice.left _ _ (ne_eqb (number_of r) 0 (λ z. omega (arith, b.0))) (told_err f)))

verdict_tells : (number : ℕ) (claim : List ℕ) (s : State) (text names : List ℕ) (v : Claimed) → Cause number claim s text names v → NumberTells (verdict_number v) told_verdict v
unfolding verdict_number refusal_number told_verdict
verdict_tells number claim s text names v (causes.counts_outside a) = verdict_stop reason.Outside no_name _ refl (told_plain reason.Outside (λ z. cc))
verdict_tells number claim s text names v (causes.not_kept a b) = verdict_stop reason.NoSuchName number _ refl (told_claimed number)
verdict_tells number claim s text names v (causes.text_outside a b c) =
    verdict_stop reason.Outside number _ refl (told_name reason.Outside number (λ z. omega (arith, a.kept, a.limit)))
verdict_tells number claim s text names v (causes.differs a b) =
    tells_of told_verdict 0 0 (omega arith) (choice.took _ _ (eq-eqb 0 0 refl) (ap (λ (x : Verdict). Some (Ok x)) (choice.left _ _ (ne_eqb 0 1 (λ z. omega arith)) refl)))
verdict_tells number claim s text names v (causes.agrees a b) = tells_of told_verdict 0 1 (omega arith) (choice.took _ _ (eq-eqb 0 0 refl) (ap (λ (x : Verdict). Some (Ok x)) (choice.took _ _ (eq-eqb 1 1 refl) refl)))

pub number_tells_verdict : VerdictTold
unfolding claim_call
number_tells_verdict number claim text names st = verdict_tells number claim (state_in st) text names _ (cause number claim (state_in st) text names)

writing_stop : (totals : List ℕ) (r : Reason) (v : ℕ) (q : Refusal) → refusal_number q ≡ packed (number_of r) v → Some q ≡ told_refusal (number_of r) v
    → NumberTells (written_number (Err q)) (told_writing totals) (Err q)
unfolding told_writing written_number
writing_stop totals r v q e f =
    let b = number_between r in
    rw e (tells_of (told_writing totals) (number_of r) v (omega (arith, b.1)) (choice.left _ _ (ne_eqb (number_of r) 0 (λ z. omega (arith, b.0))) (told_err f)))

writing_tells : (rules : Rules) (input dir bytes totals : List ℕ) (w : Writing) → WriteCase rules input dir bytes w → NumberTells (writes_of totals w).number (told_writing (writes_of totals w).totals) w.answer
unfolding writes_of written_number written_totals refusal_number told_writing
writing_tells rules input dir bytes totals w (cases.writes_1 a) = writing_stop totals reason.Unsound no_name _ refl (told_plain reason.Unsound (λ z. cc))
writing_tells rules input dir bytes totals w (cases.writes_12 a n) = writing_stop totals reason.BadCount no_name _ refl (told_plain reason.BadCount (λ z. cc))
writing_tells rules input dir bytes totals w (cases.writes_8 n a c b) =
    writing_stop totals reason.BadName n _ refl (told_name reason.BadName n (λ z. omega (arith, b.there, c.1)))
writing_tells rules input dir bytes totals w (cases.writes_9 a c h l) = writing_stop totals reason.NoRoom no_name _ refl (told_plain reason.NoRoom (λ z. cc))
writing_tells rules input dir bytes totals w (cases.writes a c h l) = tells_of (told_writing (writes_of totals w).totals) 0 _ (omega arith) (choice.took _ _ (eq-eqb 0 0 refl) refl)

pub number_tells_writing : WritingTold
unfolding write_call
number_tells_writing rules input dir bytes totals = writing_tells rules input dir bytes totals _ (write_case rules input dir bytes)

-- What a call that is refused leaves

opening_stopped : (len : ℕ) (dir : List ℕ) (count : ℕ) (cur st : List ℕ) (o : Opening) → OpenCase len dir count cur o
    → Stopped (opens_of st o).number → opens_of st o ≡ opens (opens_of st o).number cur st
unfolding opens_of opened_number opened_state
opening_stopped len dir count cur st o (cases.opens_1 a) h = refl
opening_stopped len dir count cur st o (cases.opens_12 a b) h = refl
opening_stopped len dir count cur st o (cases.opens a b) h = absurd (not_stopped 0 h)

pub open_call_stopped : OpenCallStopped
unfolding open_call
open_call_stopped bytes dir count cur st = opening_stopped (length bytes) dir count cur st _ (open_case (length bytes) dir count cur)

opening_stops : (len : ℕ) (dir : List ℕ) (count : ℕ) (cur st : List ℕ) (o : Opening) → OpenCase len dir count cur o
    → (r : Refusal) → o.answer ≡ Err r → Stopped (opens_of st o).number
unfolding opens_of opened_number refusal_number
opening_stops len dir count cur st o (cases.opens_1 a) r e = numbered reason.Unsound _
opening_stops len dir count cur st o (cases.opens_12 a b) r e = numbered reason.BadCount _
opening_stops len dir count cur st o (cases.opens a b) r e = cc

pub open_call_stops : OpenCallStops
unfolding open_call
open_call_stops bytes dir count cur st = opening_stops (length bytes) dir count cur st _ (open_case (length bytes) dir count cur)

reading_stopped : (s : Source) (m : Kept) (o : Outcome) → ReadCase s m o → Stopped (reads_of o).number
    → reads_of o ≡ reads (reads_of o).number s.cur m.text m.names m.rows (state_out m.state)
unfolding reads_of read_number kept
reading_stopped s m o (refuses q y) h = refl
reading_stopped s m o (ends a b c) h = refl
reading_stopped s m o (keeps x first rows d a b c f) h = absurd (not_stopped m.state.names h)

pub read_call_stopped : ReadCallStopped
unfolding read_call
read_call_stopped rules bytes dir cur text names rows st l h =
    reading_stopped (source rules bytes dir cur) (keeping (state_in st) text names rows) _ (read_case _ _) h
    ∙ ap (reads (read_call rules bytes dir cur text names rows st).number cur text names rows) (state_back st l)

case_stops : (s : Source) (m : Kept) (o : Outcome) → ReadCase s m o → ((i : ℕ) → o.answer ≡ Ok (Some i) → ⊥) → Stopped (reads_of o).number
unfolding reads_of read_number kept
case_stops s m o (refuses q y) f = refusal_stopped q
case_stops s m o (ends a b c) f = record { code = 256; value = _; is = refl; some = omega arith; low = omega arith }
case_stops s m o (keeps x first rows d a b c e) f = absurd (f m.state.names refl)

pub read_call_stops : ReadCallStops
unfolding read_call
read_call_stops rules bytes dir cur text names rows st = case_stops (source rules bytes dir cur) (keeping (state_in st) text names rows) _ (read_case _ _)

writing_stopped : (dir bytes totals d b : List ℕ) (a : WriteAnswer) → ((r : Refusal) → a ≡ Err r → (d ≡ dir) × (b ≡ bytes))
    → Stopped (written_number a) → writes (written_number a) d b (written_totals totals a) ≡ writes (written_number a) dir bytes totals
unfolding written_number written_totals
writing_stopped dir bytes totals d b (Ok w) f h = absurd (not_stopped w.bytes h)
writing_stopped dir bytes totals d b (Err r) f h = let e = f r refl in rw (e.0, e.1)

pub write_call_stopped : WriteCallStopped
unfolding write_call writes_of
write_call_stopped rules input dir bytes totals = writing_stopped dir bytes totals _ _ (write_of rules input dir bytes).answer (write_refused rules input dir bytes)

writes_stops : (rules : Rules) (input dir bytes totals : List ℕ) (w : Writing) → WriteCase rules input dir bytes w → (r : Refusal) → w.answer ≡ Err r → Stopped (writes_of totals w).number
unfolding writes_of written_number refusal_number
writes_stops rules input dir bytes totals w (cases.writes_1 a) r e = numbered reason.Unsound _
writes_stops rules input dir bytes totals w (cases.writes_12 a n) r e = numbered reason.BadCount _
writes_stops rules input dir bytes totals w (cases.writes_8 n a c b) r e = numbered reason.BadName n
writes_stops rules input dir bytes totals w (cases.writes_9 a c h l) r e = numbered reason.NoRoom _
writes_stops rules input dir bytes totals w (cases.writes a c h l) r e = cc

pub write_call_stops : WriteCallStops
unfolding write_call
write_call_stops rules input dir bytes totals = writes_stops rules input dir bytes totals _ (write_case rules input dir bytes)

block_stopped : (s : Source) (m : Kept) (count : ℕ) (st : List ℕ) (o : Opening) → OpenCase (length s.bytes) s.dir count s.cur o → Stopped (opens_of st o).number
    → reads_of (opened_of s m count o.cursors o.answer) ≡ reads (opens_of st o).number s.cur m.text m.names m.rows (state_out m.state)
unfolding reads_of read_number opens_of opened_number opened_of
block_stopped s m count st o (cases.opens_1 a) h = refl
block_stopped s m count st o (cases.opens_12 a b) h = refl
block_stopped s m count st o (cases.opens a b) h = absurd (not_stopped 0 h)

pub block_call_stopped : BlockCallStopped
unfolding block_call block_of open_call
block_call_stopped rules bytes dir count cur text names rows st l h =
    block_stopped (source rules bytes dir cur) (keeping (state_in st) text names rows) count st _ (open_case (length bytes) dir count cur) h
    ∙ ap (reads (open_call bytes dir count cur st).number cur text names rows) (state_back st l)

-- calls at the boundary are the calls inside
module _ (rules : Rules) (bytes dir : List ℕ) where
  pub call_after : (r : Reads) (c : Call) → lent_from (call_on rules bytes dir r c) ≡ after rules bytes dir (lent_from r) c
  unfolding lent_from call_on after read_call reads_of read left state_in state_out
  call_after r reading = refl
  call_after r (claiming number claim) = refl

  calls_run : (calls : List Call) (r : Reads) → lent_from (calls_on rules bytes dir r calls) ≡ run rules bytes dir (lent_from r) calls
  unfolding calls_on run
  calls_run [] r = refl
  calls_run (c ∷ cs) r = calls_run cs (call_on rules bytes dir r c) ∙ ap (λ (l : Lent). run rules bytes dir l cs) (call_after r c)

  -- a state of four numbers stays one
  calls_four : (calls : List Call) (r : Reads) → length r.state ≡ 4 → length (calls_on rules bytes dir r calls).state ≡ 4
  unfolding calls_on call_on read_call reads_of state_out
  calls_four [] r h = h
  calls_four (reading ∷ cs) r h = calls_four cs (call_on rules bytes dir r reading) refl
  calls_four (claiming number claim ∷ cs) r h = calls_four cs r h

  -- reads that keep a name answer code 0
  kept_call : (r : Reads) (i : ℕ) → (read rules bytes dir (lent_from r)).answer ≡ Ok (Some i) → (call_on rules bytes dir r reading).number ≡ packed 0 i
  unfolding call_on read_call reads_of read_number read lent_from
  kept_call r i e = ap (read_number _) e

  keep_calls : (n : ℕ) (r : Reads) (l z : Lent) → lent_from r ≡ l → Keeps rules bytes dir n l z → KeepCalls rules bytes dir n r (calls_on rules bytes dir r (replicate n reading))
  unfolding calls_on after
  keep_calls n r l z q (runs.none x) = no_call r
  keep_calls n r l z q (runs.next k i x y e h) =
      next_call k i r _ (kept_call r i (ap (λ (a : Lent). (read rules bytes dir a).answer) q ∙ e))
      (keep_calls k (call_on rules bytes dir r reading) _ z (call_after r reading ∙ ap (λ (a : Lent). left (read rules bytes dir a)) q) h)

  -- the last read of a whole block leaves what those before it left
  last_read : (l : Lent) (o : Outcome) (w : Whole rules bytes dir l o) → o ≡ read rules bytes dir w.last
  unfolding left
  last_read l o w =
      let same : left o ≡ left (read rules bytes dir w.last) =
      read_or_not rules bytes dir w.last (λ i e. absurd (w.stops i (w.answers ∙ e))) (λ e. w.stays ∙ sym e) in
      ap (λ (a : Answer). outcome a o.cur o.kept) w.answers
      ∙ ap (λ (x : Lent). outcome (read rules bytes dir w.last).answer x.cur x.kept) same

-- opening that answers code 0 has accepted the block
opens_fresh : (len : ℕ) (dir : List ℕ) (count : ℕ) (cur st : List ℕ) (o : Opening) → OpenCase len dir count cur o → (v : ℕ) → (opens_of st o).number ≡ packed 0 v
    → o ≡ opening (Ok (state count 0 0 0)) (starts dir)
unfolding opens_of opened_number refusal_number packed
opens_fresh len dir count cur st o (cases.opens_1 a) v e = absurd (omega (arith, e))
opens_fresh len dir count cur st o (cases.opens_12 a b) v e = absurd (omega (arith, e))
opens_fresh len dir count cur st o (cases.opens a b) v e = refl

judged_call : (r : Reads) (number : ℕ) (claim : List ℕ) → Judged (lent_from r) number claim → JudgedCall r number claim
unfolding claim_call claimed verdict_number refusal_number packed lent_from
judged_call r number claim j =
    let denied : number < (lent_from r).kept.state.names → (claim ≡ name_at (lent_from r) number → ⊥) → claim_on r number claim ≡ packed 0 0 =
    λ h n. ap verdict_number (j.denied h n) in
    let unread : (lent_from r).kept.state.names ≤ number → claim_on r number claim ≡ packed 11 number = λ h. ap verdict_number (j.unread h) in
    record {
      confirmed = λ h e. ap verdict_number (j.confirmed h e);
      only = λ q.
          ⊎_elim
          (λ (h : number < (lent_from r).kept.state.names).
          by_test (same claim (name_at (lent_from r) number))
          (λ t. (h, same_equal _ _ t))
          (λ t. absurd (omega (arith, sym q ∙ denied h (differ_same _ _ t)))))
          (λ (h : (lent_from r).kept.state.names ≤ number). absurd (omega (arith, sym q ∙ unread h)))
          (lt_or_ge number (lent_from r).kept.state.names);
      denied = denied;
      unread = unread;
    }

-- the number of a read where demand 3 holds
sane_says : (l : Lent) (q : Refusal) → Sane l q → StopSays l.kept.state.names (refusal_number q)
unfolding refusal_number
sane_says l q (left_over e) = says_left_over
sane_says l q (by_rules r b) = says_by_rules r b

case_number : (s : Source) (m : Kept) (o : Outcome) → ReadCase s m o → ((q : Refusal) → o.answer ≡ Err q → Sane (lent s.cur m) q)
    → ((reads_of o).number ≡ packed 0 m.state.names) ⊎ StopSays m.state.names (reads_of o).number
unfolding reads_of read_number kept
case_number s m o (refuses q y) g = inr (sane_says (lent s.cur m) q (g q refl))
case_number s m o (ends a b c) g = inr says_done
case_number s m o (keeps x first rows d a b c e) g = inl refl

kept_faultless : (k : ℕ) → Faultless (packed 0 k)
unfolding packed
kept_faultless k = (λ v e. omega (arith, e), (λ v e. omega (arith, e), λ v e. omega (arith, e)))

stop_faultless : (k number : ℕ) → StopSays k number → Faultless number
unfolding packed
stop_faultless k number says_done = (λ v e. omega (arith, e), (λ v e. omega (arith, e), λ v e. omega (arith, e)))
stop_faultless k number says_left_over = (λ v e. omega (arith, e), (λ v e. omega (arith, e), λ v e. omega (arith, e)))
stop_faultless k number (says_by_rules r b) =
    (λ v e. omega (arith, e, b.0, b.1), (λ v e. omega (arith, e, b.0, b.1), λ v e. omega (arith, e, b.0, b.1)))

read_call_says : (rules : Rules) (bytes dir : List ℕ) (f : Lent) (r : Reads) → Demand3 rules bytes dir f (lent_from r) → ReadCallSays (state_in r.state).names (call_on rules bytes dir r reading).number
unfolding call_on read_call lent_from read
read_call_says rules bytes dir f r d =
    let k : ℕ = (state_in r.state).names in
    let number : ℕ = (call_on rules bytes dir r reading).number in
    let says : (number ≡ packed 0 k) ⊎ StopSays k number = case_number _ _ _ (read_case _ _) d.refusals in
    record { says = says; faultless = ⊎_elim (λ (e : number ≡ packed 0 k). subst Faultless (sym e) (kept_faultless k)) (stop_faultless k number) says }

demand_3_call : (rules : Rules) (bytes dir : List ℕ) (l z : Lent) (r : Reads) → lent_from r ≡ z → Demand3 rules bytes dir l z → Demand3Call rules bytes dir l r
demand_3_call rules bytes dir l z r e d =
    let h : Demand3 rules bytes dir l (lent_from r) = subst (Demand3 rules bytes dir l) (sym e) d in
    record { inside = h; claims = λ number claim. judged_call r number claim (h.claims number claim); reads = read_call_says rules bytes dir l r h }

-- where it holds after any calls, it holds on the way
each_call : (rules : Rules) (bytes dir : List ℕ) (l : Lent) (calls : List Call) (r : Reads) → ((cs : List Call) → Demand3Call rules bytes dir l (calls_on rules bytes dir r cs)) → EachCall rules bytes dir l r calls
unfolding EachCall calls_on
each_call rules bytes dir l [] r g = g []
each_call rules bytes dir l (c ∷ cs) r g = (g [], each_call rules bytes dir l cs (call_on rules bytes dir r c) (λ x. g (c ∷ x)))

-- from an opening that answers code 0, with any buffers to read into
module _ (rules : Rules) (bytes dir : List ℕ) (count : ℕ) (cur text names : List ℕ) (rows : Table) (st : List ℕ) (v : ℕ) (fresh : (open_call bytes dir count cur st).number ≡ packed 0 v) where
  abbrev start : Reads
  start = begun (open_call bytes dir count cur st) text names rows

  abbrev block : Reads
  block = block_call rules bytes dir count cur text names rows st

  abbrev first : Lent
  first = lent (starts dir) (keeping (state count 0 0 0) text names rows)

  pub accepts : open_of (length bytes) dir count cur ≡ opening (Ok (state count 0 0 0)) (starts dir)
  unfolding open_call
  accepts = opens_fresh (length bytes) dir count cur st _ (open_case (length bytes) dir count cur) v fresh

  lends : lent_from start ≡ first
  unfolding open_call opens_of opened_state lent_from state_in state_out
  lends = ap (λ (o : Opening). lent_from (begun (opens_of st o) text names rows)) accepts

  -- so what it leaves is a fresh start
  pub fresh_start : Fresh bytes dir count (lent_from (begun (open_call bytes dir count cur st) text names rows))
  fresh_start = record { old = cur; state = state count 0 0 0; opens = rw lends accepts; begins = ap (λ (l : Lent). l.kept.state) lends }

  four : length start.state ≡ 4
  unfolding open_call opens_of opened_state state_out
  four = ap (λ (o : Opening). length (opens_of st o).state) accepts

  -- a whole-block read leaves what opening and the reads before the last did
  whole : WholeCall rules bytes dir start block
  unfolding block_call call_on read_call lent_from read
  whole =
      let w : Whole rules bytes dir first (block_of (source rules bytes dir cur) (keeping (state_in st) text names rows) count) = block_reads _ _ count _ _ accepts in
      let last : Reads = calls_on rules bytes dir start (replicate w.names reading) in
      let here : lent_from last ≡ w.last =
      calls_run rules bytes dir (replicate w.names reading) start
      ∙ ap (λ (l : Lent). run rules bytes dir l (replicate w.names reading)) lends
      ∙ plain_reads rules bytes dir w.names first w.last w.before in
      let leaves : block ≡ call_on rules bytes dir last reading =
      ap reads_of (last_read rules bytes dir first _ w ∙ ap (read rules bytes dir) (sym here)) in
      let stops : Stopped (call_on rules bytes dir last reading).number =
      read_call_stops rules bytes dir last.cursors last.text last.names last.rows last.state
      (λ i e. w.stops i (w.answers ∙ ap (λ (l : Lent). (read rules bytes dir l).answer) (sym here) ∙ e)) in
      record {
        names = w.names;
        last = last;
        before = keep_calls rules bytes dir w.names start first w.last lends w.before;
        leaves = leaves;
        stops = subst (λ (o : Reads). Stopped o.number) (sym leaves) stops;
        stays = leaves
            ∙ read_call_stopped rules bytes dir last.cursors last.text last.names last.rows last.state (calls_four rules bytes dir (replicate w.names reading) start four) stops
            ∙ ap (λ (o : Reads). reads o.number last.cursors last.text last.names last.rows last.state) (sym leaves);
      }

  -- demand 3
  from_opening : (calls : List Call) → Demand3Call rules bytes dir (lent_from start) (calls_on rules bytes dir start calls)
  from_opening calls =
      demand_3_call rules bytes dir (lent_from start) _ _ (calls_run rules bytes dir calls start)
      (demand_3 rules bytes dir count (lent_from start) fresh_start calls)

  from_block : (calls : List Call) → Demand3Call rules bytes dir (lent_from start) (calls_on rules bytes dir block calls)
  unfolding block_call reads_of lent_from left state_in state_out
  from_block calls =
      demand_3_call rules bytes dir (lent_from start) _ _ (calls_run rules bytes dir calls block)
      (subst (λ (l : Lent). Demand3 rules bytes dir l (run rules bytes dir (lent_from block) calls)) (sym lends)
      (block_demand_3 (source rules bytes dir cur) (keeping (state_in st) text names rows) count _ _ accepts calls))

  block_says : BlockSays block
  unfolding call_on calls_on
  block_says =
      let w : WholeCall rules bytes dir start block = whole in
      let k : ℕ = (state_in block.state).names in
      -- one more read is the last one again
      let again : call_on rules bytes dir block reading ≡ block = ap (λ (r : Reads). call_on rules bytes dir r reading) w.stays ∙ sym w.leaves in
      let r : ReadCallSays k block.number = subst (λ (o : Reads). ReadCallSays k o.number) again (from_block []).reads in
      record {
        says = ⊎_elim (λ (e : block.number ≡ packed 0 k). absurd (not_stopped k (subst Stopped e w.stops))) (λ (h : StopSays k block.number). h) r.says;
        faultless = r.faultless;
      }

pub block_call_reads : BlockCallReads
block_call_reads = whole

pub calls_demand_3 : CallsDemand3
calls_demand_3 = from_opening

pub block_calls_demand_3 : BlockCallsDemand3
block_calls_demand_3 = from_block

pub calls_each : CallsEach
calls_each rules bytes dir count cur text names rows st v fresh calls = each_call rules bytes dir _ calls _ (calls_demand_3 rules bytes dir count cur text names rows st v fresh)

pub block_calls_each : BlockCallsEach
block_calls_each rules bytes dir count cur text names rows st v fresh calls = each_call rules bytes dir _ calls _ (block_calls_demand_3 rules bytes dir count cur text names rows st v fresh)

pub block_call_says : BlockCallSays
block_call_says = block_says

-- C-11
pub afresh_call : AfreshCall
unfolding read_call
afresh_call rules bytes dir cur text names rows st ready more g = ap reads_of (starts_afresh (source rules bytes dir cur) (keeping (state_in st) text names rows) ready more g).reads

pub one_open_call : OneOpenCall
one_open_call bytes dir count cur st x y = one_outcome

pub one_read_call : OneReadCall
one_read_call rules bytes dir cur text names rows st x y = one_outcome

pub one_block_call : OneBlockCall
one_block_call rules bytes dir count cur text names rows st x y = one_outcome

pub one_claim_call : OneClaimCall
one_claim_call number claim text names st x y = one_outcome

pub one_write_call : OneWriteCall
one_write_call rules input dir bytes totals x y = one_outcome
