-- The distance of a head, way by way, in a contract's direction; and what a head tells of it.
use Prim.Native.Nat.{ℕ, ◌≤◌}
use Rattle.spans.specs.Spans.{Next}
use Rattle.std.specs.Prelude.{Some, None, Ok, Err}
use Rattle.refusals.specs.declared.Reason.TheVariants as reason
use Rattle.refusals.specs.declared.Reason.{Reason}
use Rattle.distances.specs.declared.Reference.TheVariants as reference
use mathlib.Core.Path.{◌≡◌, refl, sym, ap, ◌∙◌}
use mathlib.Core.Bool.{true, false}
use native.Mathlib.Omega.{arith}
use borrow.Author.Tests.{leb-true}
use lib.Dec.{leb}
use Rattle.base.proofs.Choice.{took, left, pick_true, pick_false, by_test, both_true}
use Rattle.spans.specs.declared.Cursor.{Cursor}
use Rattle.spans.specs.declared.Distance.{Distance}
use Rattle.distances.specs.Distances.{Head, dup_fits, diff_fits, dup_head, diff_head}

module _ (n : ℕ) {d : ℕ} {c : Cursor} {found : Next} (q : found ≡ Some (d, c)) where
  pub dup_near : dup_fits d n ≡ true → Ok (reference.Dup (record { 0 = d })) ≡ dup_head n found
  unfolding dup_head
  dup_near h = rw q (took _ _ h refl)

  pub dup_far : dup_fits d n ≡ false → Err reason.BadDistance ≡ dup_head n found
  unfolding dup_head
  dup_far h = rw q (left _ _ h refl)

  pub diff_near : diff_fits d n ≡ true → Ok (reference.Diff (record { 0 = d })) ≡ diff_head n found
  unfolding diff_head
  diff_near h = rw q (took _ _ h refl)

  pub diff_far : diff_fits d n ≡ false → Err reason.BadDistance ≡ diff_head n found
  unfolding diff_head
  diff_far h = rw (q, pick_false _ _ h)

pub dup_short : (n : ℕ) {found : Next} → found ≡ None → Err reason.Short ≡ dup_head n found
unfolding dup_head
dup_short n q = rw q

pub diff_short : (n : ℕ) {found : Next} → found ≡ None → Err reason.Short ≡ diff_head n found
unfolding diff_head
diff_short n q = rw q

pub never_dup : {r : Reason} {d : Distance} → Err r ≡ Ok (reference.Dup d) → ⊥
never_dup q = let z : ◌≡◌ {A = ℕ} 0 1 = cc in omega arith

pub never_diff : {r : Reason} {d : Distance} → Err r ≡ Ok (reference.Diff d) → ⊥
never_diff q = let z : ◌≡◌ {A = ℕ} 0 1 = cc in omega arith

never_both : {a b : Distance} → ◌≡◌ {A = Head} (Ok (reference.Dup a)) (Ok (reference.Diff b)) → ⊥
never_both q = let z : ◌≡◌ {A = ℕ} 0 1 = cc in omega arith

dup_within : (d n : ℕ) → dup_fits d n ≡ true → (1 ≤ d) × (d ≤ n)
dup_within d n q = let b = both_true (leb 1 d) (leb d n) q in (leb-true 1 d b.0, leb-true d n b.1)

module _ (n : ℕ) (d : Distance) where
  -- what the distance of a head is
  pub dup_said : (v : ℕ) (c : Cursor) → dup_head n (Some (v, c)) ≡ Ok (reference.Dup d) → (1 ≤ d.0) × (d.0 ≤ n)
  unfolding dup_head
  dup_said v c r =
      by_test (dup_fits v n)
      (λ y.
      let w = sym (pick_true (Ok (reference.Dup (record { 0 = v }))) (Err reason.BadDistance) y) ∙ r in
      let e : record { 0 = v } ≡ d = cc in
      let k : v ≡ d.0 = ap (λ (x : Distance). x.0) e in
      let b = dup_within v n y in
      (omega arith, omega arith))
      (λ y. absurd (never_dup (sym (pick_false (Ok (reference.Dup (record { 0 = v }))) (Err reason.BadDistance) y) ∙ r)))

  pub diff_said : (v : ℕ) (c : Cursor) → diff_head n (Some (v, c)) ≡ Ok (reference.Diff d) → d.0 ≤ n
  unfolding diff_head
  diff_said v c r =
      by_test (diff_fits v n)
      (λ y.
      let w = sym (pick_true (Ok (reference.Diff (record { 0 = v }))) (Err reason.BadDistance) y) ∙ r in
      let e : record { 0 = v } ≡ d = cc in
      let k : v ≡ d.0 = ap (λ (x : Distance). x.0) e in
      let b = leb-true v n y in
      omega arith)
      (λ y. absurd (never_diff (sym (pick_false (Ok (reference.Diff (record { 0 = v }))) (Err reason.BadDistance) y) ∙ r)))

  -- no distance, no head that refers
  pub dup_none : dup_head n None ≡ Ok (reference.Dup d) → ⊥
  unfolding dup_head
  dup_none r = never_dup r

  pub diff_none : diff_head n None ≡ Ok (reference.Diff d) → ⊥
  unfolding diff_head
  diff_none r = never_diff r

  pub diff_no_dup : (f : Next) → diff_head n f ≡ Ok (reference.Dup d) → ⊥
  unfolding diff_head
  diff_no_dup (Some (v, c)) r =
      by_test (diff_fits v n)
      (λ y. never_both (sym r ∙ pick_true (Ok (reference.Diff (record { 0 = v }))) (Err reason.BadDistance) y))
      (λ y. never_dup (sym (pick_false (Ok (reference.Diff (record { 0 = v }))) (Err reason.BadDistance) y) ∙ r))
  diff_no_dup None r = never_dup r

  pub dup_no_diff : (f : Next) → dup_head n f ≡ Ok (reference.Diff d) → ⊥
  unfolding dup_head
  dup_no_diff (Some (v, c)) r =
      by_test (dup_fits v n)
      (λ y. never_both (sym (pick_true (Ok (reference.Dup (record { 0 = v }))) (Err reason.BadDistance) y) ∙ r))
      (λ y. never_diff (sym (pick_false (Ok (reference.Dup (record { 0 = v }))) (Err reason.BadDistance) y) ∙ r))
  dup_no_diff None r = never_diff r
