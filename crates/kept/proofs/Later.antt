-- What is kept once stays as it is: the used parts only grow.
use Prim.Native.Nat.{ℕ, ◌*◌, ◌≤◌, ◌<◌}
use mathlib.Core.Path.{◌≡◌, refl, ◌∙◌}
use native.Mathlib.Omega.{arith}
use lib.ListN.{take}
use Rattle.base.specs.Memory.{part}
use Rattle.base.proofs.Below.{same_at, same_below, same_part}
use Rattle.tables.specs.Tables.{Kept, entry_size, entry_at, row_at}
use Rattle.kept.proofs.Frame.{entry_alike}
use Rattle.tables.proofs.Rows.{SameRows}

pub record Later (m w : Kept) : Type 0 where
  pub names : m.state.names ≤ w.state.names
  pub text : m.state.text ≤ w.state.text
  pub rows : m.state.rows ≤ w.state.rows
  pub in_text : take m.state.text w.text ≡ take m.state.text m.text
  pub in_names : take (entry_size * m.state.names) w.names ≡ take (entry_size * m.state.names) m.names
  pub in_rows_law : SameRows w.rows m.rows m.state.rows

pub later_same : (m : Kept) → Later m m
later_same m = record { names = omega arith; text = omega arith; rows = omega arith; in_text = refl; in_names = refl; in_rows_law = λ j h. refl }

pub later_then : (a b c : Kept) → Later a b → Later b c → Later a c
later_then a b c p q =
    let n : a.state.names ≤ b.state.names = p.names in
    let r : a.state.rows ≤ b.state.rows = p.rows in
    record {
      names = omega (arith, q.names);
      text = omega (arith, p.text, q.text);
      rows = omega (arith, q.rows);
      in_text = same_below c.text b.text b.state.text q.in_text a.state.text p.text ∙ p.in_text;
      in_names = same_below c.names b.names (entry_size * b.state.names) q.in_names (entry_size * a.state.names) (omega arith) ∙ p.in_names;
      in_rows_law = λ j h. q.in_rows_law j (omega arith) ∙ p.in_rows_law j h;
    }

module _ (m w : Kept) (h : Later m w) where
  pub entry_later : (i : ℕ) → i < m.state.names → entry_at w.names i ≡ entry_at m.names i
  entry_later = entry_alike w.names m.names m.state.names (same_at w.names m.names (entry_size * m.state.names) h.in_names)

  pub row_later : (i : ℕ) → i < m.state.rows → row_at w.rows i ≡ row_at m.rows i
  row_later = h.in_rows_law

  pub part_later : (from to : ℕ) → from ≤ to → to ≤ m.state.text → part w.text from to ≡ part m.text from to
  part_later = same_part w.text m.text m.state.text h.in_text
