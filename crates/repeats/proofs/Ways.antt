-- The ways that a token can go which leans on a row, each in a contract's direction.
use Prim.Native.Nat.{ℕ, ◌+◌, ◌-◌, ◌≤◌, ◌<◌}
use Rattle.spans.specs.Spans.{Next}
use Rattle.values.specs.Values.{Step}
use Rattle.std.specs.Prelude.{Ok, Err}
use native.Mathlib.Omega.{arith}
use Rattle.refusals.specs.declared.Reason.{Reason}
use Rattle.refusals.specs.declared.Reason.TheVariants as reason
use mathlib.Core.Path.{◌≡◌, refl, sym, ap, ◌∙◌}
use mathlib.Core.Bool.{true, false}
use mathlib.Core.List.{List}
use borrow.Author.Tests.{le-leb, lt-leb, eq-eqb, ne_eqb}
use lib.ListN.{get_or}
use Rattle.base.specs.Choice.{pick}
use Rattle.base.proofs.Choice.{took, left, pick_true, pick_false, by_test, both_of, both_left, both_right}
use Rattle.spans.specs.declared.Cursor.{Cursor}
use Rattle.block.specs.Streams.{ddelta_stream, ddelta0_stream}
use Rattle.tokens.specs.declared.Token.TheVariants.{String, Char, Digits, Digits0}
use Rattle.tables.specs.declared.Row.{Row}
use Rattle.tables.specs.Tables.{row_at}
use Rattle.sources.specs.Source.{Source, Earlier, byte_in}
use Rattle.sums.specs.Sums.{delta_step, delta0_step}
use Rattle.repeats.specs.Repeats.{token_of, match_of, fitting, has_row, row_here, has_kind, delta_at, delta0_at, match_at}

module _ (e : Earlier) (p kind : ℕ) where
  pub fitting_none : e.count < p → Err reason.NoRow ≡ fitting e p kind
  unfolding fitting has_kind has_row
  fitting_none h = left _ _ (both_left _ (lt-leb _ _ h)) refl

  module _ (h : p ≤ e.count) {r : Row} (q : r ≡ row_at e.rows (e.first + (p - 1))) where
    pub fitting_other : (r.kind ≡ kind → ⊥) → Err reason.NoRow ≡ fitting e p kind
    unfolding fitting has_kind has_row row_here
    fitting_other n = left _ _ (both_right (le-leb _ _ h) (ne_eqb _ _ (λ k. n (ap (λ (x : Row). x.kind) q ∙ k)))) refl

    pub fitting_is : r.kind ≡ kind → Ok r ≡ fitting e p kind
    unfolding fitting has_kind has_row row_here
    fitting_is k = took _ _ (both_of (le-leb _ _ h) (eq-eqb _ _ (sym (ap (λ (w : Row). w.kind) q) ∙ k))) (ap (λ (w : Row). Ok w) q)

  -- a row that fits is the one at its place, and without one the refusal is 5
  fitted : {r : Row} → fitting e p kind ≡ Ok r → (has_kind e p kind ≡ true) × (row_here e p ≡ r)
  unfolding fitting
  fitted {r} q =
      by_test (has_kind e p kind)
      (λ t. let w = sym (pick_true (Ok (row_here e p)) (Err reason.NoRow) t) ∙ q in (t, cc))
      (λ t. let w = sym (pick_false (Ok (row_here e p)) (Err reason.NoRow) t) ∙ q in let z : ◌≡◌ {A = ℕ} 0 1 = cc in absurd (omega arith))

  unfitted : {r : Reason} → fitting e p kind ≡ Err r → (has_kind e p kind ≡ false) × (reason.NoRow ≡ r)
  unfolding fitting
  unfitted {r} q =
      by_test (has_kind e p kind)
      (λ t. let w = sym (pick_true (Ok (row_here e p)) (Err reason.NoRow) t) ∙ q in let z : ◌≡◌ {A = ℕ} 0 1 = cc in absurd (omega arith))
      (λ t. let w = sym (pick_false (Ok (row_here e p)) (Err reason.NoRow) t) ∙ q in (t, cc))

module _ (s : Source) (e : Earlier) (p : ℕ) where
  pub delta_none : e.count < p → Err reason.NoRow ≡ delta_at s e p
  unfolding delta_at has_kind has_row
  delta_none h = left _ _ (both_left _ (lt-leb _ _ h)) refl

  pub delta0_none : e.count < p → Err reason.NoRow ≡ delta0_at s e p
  unfolding delta0_at has_kind has_row
  delta0_none h = left _ _ (both_left _ (lt-leb _ _ h)) refl

  module _ (h : p ≤ e.count) {r : Row} (q : r ≡ row_at e.rows (e.first + (p - 1))) where
    pub delta_other : (r.kind ≡ 7 → ⊥) → Err reason.NoRow ≡ delta_at s e p
    unfolding delta_at has_kind has_row row_here
    delta_other n = left _ _ (both_right (le-leb _ _ h) (ne_eqb _ _ (λ k. n (ap (λ (x : Row). x.kind) q ∙ k)))) refl

    pub delta0_other : (r.kind ≡ 4 → ⊥) → Err reason.NoRow ≡ delta0_at s e p
    unfolding delta0_at has_kind has_row row_here
    delta0_other n = left _ _ (both_right (le-leb _ _ h) (ne_eqb _ _ (λ k. n (ap (λ (x : Row). x.kind) q ∙ k)))) refl

    pub delta_is : {b : Next} {x : Step} → r.kind ≡ 7 → b ≡ byte_in s p ddelta_stream → x ≡ delta_step r.number b → x ≡ delta_at s e p
    unfolding delta_at has_kind has_row row_here
    delta_is k b x =
        took _ _ (both_of (le-leb _ _ h) (eq-eqb _ _ (sym (ap (λ (w : Row). w.kind) q) ∙ k))) (rw (← b, ← q) x)

    pub delta0_is : {b : Next} {x : Step} → r.kind ≡ 4 → b ≡ byte_in s p ddelta0_stream → x ≡ delta0_step r.number r.width b → x ≡ delta0_at s e p
    unfolding delta0_at has_kind has_row row_here
    delta0_is k b x =
        took _ _ (both_of (le-leb _ _ h) (eq-eqb _ _ (sym (ap (λ (w : Row). w.kind) q) ∙ k))) (rw (← b, ← q) x)

-- the same by the row that fits
module _ (s : Source) (e : Earlier) (p : ℕ) where
  pub delta_misses : {r : Reason} → fitting e p 7 ≡ Err r → Err r ≡ delta_at s e p
  unfolding delta_at
  delta_misses q = let u = unfitted e p 7 q in left _ _ u.0 (ap (λ (r : Reason). Err r) (sym u.1))

  pub delta0_misses : {r : Reason} → fitting e p 4 ≡ Err r → Err r ≡ delta0_at s e p
  unfolding delta0_at
  delta0_misses q = let u = unfitted e p 4 q in left _ _ u.0 (ap (λ (r : Reason). Err r) (sym u.1))

  pub delta_meets : {r : Row} {b : Next} {x : Step} → fitting e p 7 ≡ Ok r → b ≡ byte_in s p ddelta_stream → x ≡ delta_step r.number b → x ≡ delta_at s e p
  unfolding delta_at
  delta_meets q b x = let f = fitted e p 7 q in took _ _ f.0 (rw (← b, f.1) x)

  pub delta0_meets : {r : Row} {b : Next} {x : Step} → fitting e p 4 ≡ Ok r → b ≡ byte_in s p ddelta0_stream → x ≡ delta0_step r.number r.width b → x ≡ delta0_at s e p
  unfolding delta0_at
  delta0_meets q b x = let f = fitted e p 4 q in took _ _ f.0 (rw (← b, f.1) x)

module _ (e : Earlier) (p : ℕ) (c : Cursor) where
  pub match_none : e.count < p → Err reason.NoRow ≡ match_at e p c
  unfolding match_at has_row
  match_none h = left _ _ (lt-leb _ _ h) refl

  pub match_is : {r : Row} {x : Step} → p ≤ e.count → r ≡ row_at e.rows (e.first + (p - 1)) → x ≡ match_of e.text r c → x ≡ match_at e p c
  unfolding match_at has_row row_here
  match_is h q x = took _ _ (le-leb _ _ h) (rw (← q) x)

module _ (text : List ℕ) (r : Row) where
  pub repeats_string : r.kind ≡ 1 → String (record { kept = true; start = r.start; end = r.start + r.length }) ≡ token_of text r
  unfolding token_of
  repeats_string k = took _ _ (eq-eqb _ _ k) refl

  pub repeats_char : r.kind ≡ 2 → Char (get_or text r.start 0) ≡ token_of text r
  unfolding token_of pick
  repeats_char k = rw k

  pub repeats_padded : r.kind ≡ 4 → Digits0 (record { number = r.number; width = r.width }) ≡ token_of text r
  unfolding token_of pick
  repeats_padded k = rw k

  pub repeats_digits : (r.kind ≡ 1 → ⊥) → (r.kind ≡ 2 → ⊥) → (r.kind ≡ 4 → ⊥) → Digits r.number ≡ token_of text r
  unfolding token_of
  repeats_digits a b c = left _ _ (ne_eqb _ _ a) (left _ _ (ne_eqb _ _ b) (left _ _ (ne_eqb _ _ c) refl))
