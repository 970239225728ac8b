-- What a claim is answered, and when: each answer has one cause, and each cause one answer.
use Prim.Native.Nat.{ℕ, ◌≤◌, ◌<◌}
use Rattle.std.specs.Prelude.{Ok, Err}
use Rattle.refusals.specs.declared.Reason.TheVariants as reason
use Rattle.claims.specs.declared.Verdict.TheVariants as verdict
use mathlib.Core.Path.{◌≡◌, refl, sym, ◌∙◌, subst}
use mathlib.Core.Bool.{true, false}
use mathlib.Core.List.{List}
use borrow.Author.Tests.{lt-ltb, le-ltb, ltb-true, ltb-false}
use lib.Dec.{ltb}
use lib.ListN.{length}
use Rattle.comparing.specs.Same.{same}
use Rattle.base.proofs.Choice.{took, left, by_test, never, fails}
use Rattle.comparing.proofs.Equal.{same_equal, equal_same, same_differ, differ_same}
use Rattle.block.specs.declared.State.{State}
use Rattle.refusals.specs.declared.Refusal.TheVariants as refusal
use Rattle.tables.specs.declared.Entry.{Entry}
use Rattle.tables.specs.Tables.{entry_size, room, entry_at}
use Rattle.kept.specs.Judgement.{text_counts, entry_text}
use Rattle.kept.specs.Inside.{TextCounted, TextInside}
use Rattle.kept.proofs.Laws.{text_counted, text_counts_of, text_inside, entry_text_of}
use Rattle.claims.specs.Claims.{Claimed, name_text, claim_of}
use Rattle.claims.specs.Causes.{Answerable, whole_name, Cause, counts_outside, not_kept, text_outside, differs, agrees, HasCause, ConfirmedOf, DeniedOf, ElevenOf, ThirteenAtOf, ThirteenOf}

module _ (number : ℕ) (claim : List ℕ) (s : State) (text names : List ℕ) where
  -- by the tests, in their order
  pub unsound : text_counts s (length text) (room entry_size names) ≡ false → Err (refusal.Plain reason.Outside) ≡ claim_of number claim s text names
  unfolding claim_of
  unsound a = left _ _ a refl

  pub unread : text_counts s (length text) (room entry_size names) ≡ true → s.names ≤ number → Err (refusal.At reason.NoSuchName number) ≡ claim_of number claim s text names
  unfolding claim_of
  unread a b = took _ _ a (left _ _ (le-ltb _ _ b) refl)

  module _ (a : text_counts s (length text) (room entry_size names) ≡ true) (b : number < s.names) {e : Entry} (is : e ≡ entry_at names number) where
    pub outside : entry_text s e ≡ false → Err (refusal.At reason.Outside number) ≡ claim_of number claim s text names
    unfolding claim_of
    outside c = rw (← is) (took _ _ a (took _ _ (lt-ltb _ _ b) (left _ _ c refl)))

    pub equal : entry_text s e ≡ true → same claim (name_text text e) ≡ true → Ok verdict.Confirmed ≡ claim_of number claim s text names
    unfolding claim_of
    equal c d = rw (← is) (took _ _ a (took _ _ (lt-ltb _ _ b) (took _ _ c (took _ _ d refl))))

    pub unequal : entry_text s e ≡ true → same claim (name_text text e) ≡ false → Ok verdict.Denied ≡ claim_of number claim s text names
    unfolding claim_of
    unequal c d = rw (← is) (took _ _ a (took _ _ (lt-ltb _ _ b) (took _ _ c (left _ _ d refl))))

-- from each cause its answer

pub confirmed_of : ConfirmedOf
confirmed_of number claim s text names t e =
    sym (equal number claim s text names (text_counts_of s text names t.counts) t.below refl (entry_text_of _ _ t.inside) (equal_same _ _ e))

pub denied_of : DeniedOf
denied_of number claim s text names t n =
    sym (unequal number claim s text names (text_counts_of s text names t.counts) t.below refl (entry_text_of _ _ t.inside) (same_differ _ _ n))

pub eleven_of : ElevenOf
eleven_of number claim s text names t h = sym (unread number claim s text names (text_counts_of s text names t) h)

pub thirteen_at_of : ThirteenAtOf
thirteen_at_of number claim s text names t h n =
    sym (outside number claim s text names (text_counts_of s text names t) h refl (fails (λ e. n (text_inside _ _ e))))

pub thirteen_of : ThirteenOf
thirteen_of number claim s text names n = sym (unsound number claim s text names (fails (λ e. n (text_counted s text names e))))

pub cause : HasCause
cause number claim s text names =
    by_test (text_counts s (length text) (room entry_size names))
    (λ a. by_test (ltb number s.names)
    (λ b. by_test (entry_text s (entry_at names number))
    (λ c.
    let t : Answerable number s text names = record { counts = text_counted s text names a; below = ltb-true _ _ b; inside = text_inside _ _ c } in
    by_test (same claim (whole_name number text names))
    (λ d. subst (Cause number claim s text names) (equal number claim s text names a (ltb-true _ _ b) refl c d) (agrees t (same_equal _ _ d)))
    (λ d. subst (Cause number claim s text names) (unequal number claim s text names a (ltb-true _ _ b) refl c d) (differs t (differ_same _ _ d))))
    (λ c. subst (Cause number claim s text names) (outside number claim s text names a (ltb-true _ _ b) refl c)
    (text_outside (text_counted s text names a) (ltb-true _ _ b) (λ i. never (sym c ∙ entry_text_of _ _ i)))))
    (λ b. subst (Cause number claim s text names) (unread number claim s text names a (ltb-false _ _ b)) (not_kept (text_counted s text names a) (ltb-false _ _ b))))
    (λ a. subst (Cause number claim s text names) (unsound number claim s text names a) (counts_outside (λ t. never (sym a ∙ text_counts_of s text names t))))

module _ (number : ℕ) (claim : List ℕ) (s : State) (text names : List ℕ) where
  -- from each answer its cause
  of_confirmed : Cause number claim s text names (Ok verdict.Confirmed) → Answerable number s text names × (claim ≡ whole_name number text names)
  of_confirmed (agrees t e) = (t, e)

  of_denied : Cause number claim s text names (Ok verdict.Denied) → Answerable number s text names × (claim ≡ whole_name number text names → ⊥)
  of_denied (differs t n) = (t, n)

  of_eleven : {v : Claimed} → Cause number claim s text names v → v ≡ Err (refusal.At reason.NoSuchName number) → TextCounted s text names × (s.names ≤ number)
  of_eleven (counts_outside n) e = cc
  of_eleven (not_kept t h) e = (t, h)
  of_eleven (text_outside t h n) e = cc
  of_eleven (differs t n) e = cc
  of_eleven (agrees t n) e = cc

  of_thirteen_at : {v : Claimed} → Cause number claim s text names v → v ≡ Err (refusal.At reason.Outside number) → TextCounted s text names × ((number < s.names) × (TextInside s (entry_at names number) → ⊥))
  of_thirteen_at (counts_outside n) e = cc
  of_thirteen_at (not_kept t h) e = cc
  of_thirteen_at (text_outside t h n) e = (t, (h, n))
  of_thirteen_at (differs t n) e = cc
  of_thirteen_at (agrees t n) e = cc

  of_thirteen : Cause number claim s text names (Err (refusal.Plain reason.Outside)) → TextCounted s text names → ⊥
  of_thirteen (counts_outside n) = n

  caused : {v : Claimed} → claim_of number claim s text names ≡ v → Cause number claim s text names v
  caused q = subst (Cause number claim s text names) q (cause number claim s text names)

  pub confirmed : claim_of number claim s text names ≡ Ok verdict.Confirmed → Answerable number s text names × (claim ≡ whole_name number text names)
  confirmed q = of_confirmed (caused q)

  pub denied : claim_of number claim s text names ≡ Ok verdict.Denied → Answerable number s text names × (claim ≡ whole_name number text names → ⊥)
  denied q = of_denied (caused q)

  pub eleven : claim_of number claim s text names ≡ Err (refusal.At reason.NoSuchName number) → TextCounted s text names × (s.names ≤ number)
  eleven q = of_eleven (cause number claim s text names) q

  pub thirteen_at : claim_of number claim s text names ≡ Err (refusal.At reason.Outside number)
      → TextCounted s text names × ((number < s.names) × (TextInside s (entry_at names number) → ⊥))
  thirteen_at q = of_thirteen_at (cause number claim s text names) q

  pub thirteen : claim_of number claim s text names ≡ Err (refusal.Plain reason.Outside) → TextCounted s text names → ⊥
  thirteen q = of_thirteen (caused q)
