-- The earlier name, and the rows that DIFF goes by.
use Prim.Native.Nat.{ℕ, ◌-◌, ◌≤◌}
use Rattle.std.specs.Prelude.{Ok, Err}
use Rattle.refusals.specs.declared.Reason.TheVariants as reason
use mathlib.Core.Path.{◌≡◌, refl, sym, ap, ◌∙◌, subst}
use mathlib.Core.Bool.{true, false, Bool}
use mathlib.Core.List.{List}
use native.Mathlib.Omega.{arith}
use borrow.Author.Tests.{eq-eqb, ne_eqb, eqb-true, eqb-false}
use lib.Dec.{eqb}
use Rattle.base.specs.Choice.{pick}
use Rattle.base.proofs.Choice.{took, left, pick_true, pick_false, pick_holds, by_test}
use Rattle.tables.specs.Tables.{Kept, entry_at}
use Rattle.kept.specs.Judgement.{earlier_fits}
use Rattle.earlier.specs.declared.Rows.{Rows}
use Rattle.earlier.specs.Back.{Back, rows_from, entry_back, said_back, none_or_fits, back_of}
use Rattle.earlier.specs.Fits.{AllFit}

-- the earlier name's entry is the one so far back
pub back_entry : (m : Kept) (d : ℕ) → entry_back m d ≡ entry_at m.names (m.state.names - d)
unfolding entry_back
back_entry m d = ap (entry_at m.names) (omega arith)

-- what its entry says
module _ (names : List ℕ) (k d : ℕ) where
  pub said_none : d ≡ 0 → rows_from 0 0 ≡ said_back names k d
  unfolding said_back pick
  said_none z = rw (eq-eqb d 0 z)

  pub said_entry : (d ≡ 0 → ⊥) → (i : ℕ) {r : Rows} → r ≡ rows_from (entry_at names i).first (entry_at names i).rows → i ≡ k - d → r ≡ said_back names k d
  unfolding said_back
  said_entry z i q s = left _ _ (ne_eqb _ _ z) (q ∙ ap (λ (j : ℕ). rows_from (entry_at names j).first (entry_at names j).rows) s)

module _ (m : Kept) (d : ℕ) where
  -- judged, in a contract's direction
  pub fits_none : d ≡ 0 → true ≡ none_or_fits m d
  unfolding none_or_fits
  fits_none z = took _ _ (eq-eqb d 0 z) refl

  pub fits_earlier : (d ≡ 0 → ⊥) → (i : ℕ) {b : Bool} → b ≡ earlier_fits m i → i ≡ m.state.names - d → b ≡ none_or_fits m d
  unfolding none_or_fits
  fits_earlier z i q s = left _ _ (ne_eqb _ _ z) (q ∙ ap (earlier_fits m) s)

  -- both
  pub back_said : none_or_fits m d ≡ true → Ok (said_back m.names m.state.names d) ≡ back_of m d
  unfolding back_of
  back_said f = took _ _ f refl

  pub back_outside : none_or_fits m d ≡ false → Err reason.Outside ≡ back_of m d
  unfolding back_of
  back_outside f = left _ _ f refl

  -- where all fit, what the entry says is what DIFF goes by
  pub back_all : AllFit m → d ≤ m.state.names → Ok (said_back m.names m.state.names d) ≡ back_of m d
  unfolding none_or_fits
  back_all fit near =
      back_said
      (pick_holds (λ (x : Bool). x ≡ true) (eqb d 0) _ _ (λ z. refl)
      (λ z. let n = eqb-false d 0 z in fit (m.state.names - d) (omega arith)))

  -- what holds of no rows, of the earlier name's where it fits and of `Outside` where it doesn't, holds of the rows that DIFF goes by
  pub back_holds : (P : Back → Type 0) → (d ≡ 0 → P (Ok (rows_from 0 0)))
      → ((d ≡ 0 → ⊥) → earlier_fits m (m.state.names - d) ≡ true → P (Ok (rows_from (entry_back m d).first (entry_back m d).rows)))
      → ((d ≡ 0 → ⊥) → earlier_fits m (m.state.names - d) ≡ false → P (Err reason.Outside)) → P (back_of m d)
  unfolding back_of said_back none_or_fits entry_back
  back_holds P f g h =
      let a = eqb d 0 in
      let b = earlier_fits m (m.state.names - d) in
      by_test a
      (λ z. subst P (sym (pick_true _ _ (pick_true _ _ z) ∙ ap Ok (pick_true _ _ z))) (f (eqb-true _ _ z)))
      (λ z. by_test b
      (λ t. subst P (sym (pick_true _ _ (pick_false _ _ z ∙ t) ∙ ap Ok (pick_false _ _ z))) (g (eqb-false d 0 z) t))
      (λ t. subst P (sym (pick_false _ _ (pick_false _ _ z ∙ t))) (h (eqb-false d 0 z) t)))
