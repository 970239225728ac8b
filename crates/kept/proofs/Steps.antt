-- How the code that judges an earlier name goes: its entry, then the loop over its rows.
use Prim.Native.Nat.{ℕ, suc, ◌+◌}
use mathlib.Core.Path.{◌≡◌, sym, ◌∙◌}
use mathlib.Core.Bool.{Bool, true, false, ◌&&◌}
use Rattle.base.specs.Choice.{both}
use Rattle.base.proofs.Choice.{both_left, both_none, both_both, and_both, pick_true}
use Rattle.base.proofs.Every.{every_turn, every_done}
use Rattle.tables.specs.declared.Entry.{Entry}
use Rattle.tables.specs.Tables.{Table, Kept, entry_at, row_at}
use Rattle.kept.specs.Judgement.{entry_text, entry_rows, row_fits, rows_fit, earlier_fits}

-- the loop carries "so far and the rest from here is the whole"
pub rows_start : (used : ℕ) (rows : Table) (i n many : ℕ) → n ≡ many → both true (rows_fit used rows i n) ≡ rows_fit used rows i many
rows_start used rows i n many e = both_none _ ∙ rw e

module _ (used : ℕ) (rows : Table) (i n : ℕ) (ok all : Bool) (inv : both ok (rows_fit used rows i n) ≡ all) where
  pub rows_turn : {next : Bool} (m : ℕ) → n ≡ suc m → next ≡ both ok (row_fits used (row_at rows i)) → both next (rows_fit used rows (i + 1) m) ≡ all
  unfolding rows_fit
  rows_turn m e q = every_turn (λ (j : ℕ). row_fits used (row_at rows j)) i n ok all inv m e q

  pub rows_done : n ≡ 0 → ok ≡ all
  unfolding rows_fit
  rows_done e = every_done (λ (j : ℕ). row_fits used (row_at rows j)) i n ok all inv e

module _ (m : Kept) (i : ℕ) {a b : Bool} {e : Entry} (is : e ≡ entry_at m.names i) (p : a ≡ entry_text m.state e) (q : b ≡ entry_rows m.state e) where
  earlier_then : earlier_fits m i ≡ both (a && b) (rows_fit m.state.text m.rows e.first e.rows)
  unfolding earlier_fits
  earlier_then = rw (← is, ← p, ← q, and_both) (sym (both_both a b (rows_fit m.state.text m.rows e.first e.rows)))

  pub earlier_taken : {r : Bool} → a && b ≡ true → r ≡ rows_fit m.state.text m.rows e.first e.rows → r ≡ earlier_fits m i
  earlier_taken t h = h ∙ sym (earlier_then ∙ pick_true _ _ t)

  pub earlier_left : a && b ≡ false → false ≡ earlier_fits m i
  earlier_left t = sym (earlier_then ∙ both_left _ t)
