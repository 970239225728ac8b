-- A spelt row stays spelt: of the kept text only what stands below matters to it.
use Prim.Native.Nat.{ℕ, ◌+◌, ◌≤◌, ◌<◌}
use mathlib.Core.Path.{◌≡◌, refl, sym, ap, ◌∙◌, subst}
use mathlib.Core.List.{List}
use native.Mathlib.Omega.{arith}
use lib.Dec.{eqb}
use lib.ListN.{take}
use Rattle.base.specs.Choice.{pick}
use Rattle.base.specs.Memory.{part}
use Rattle.classes.specs.Classes.{all_allowed}
use Rattle.tokens.specs.declared.Token.{Token}
use Rattle.tokens.specs.Tokens.{bytes_of, kind_of, number_of, width_of, length_of}
use Rattle.base.proofs.Below.{same_part}
use Rattle.base.proofs.Choice.{pick_holds}
use Rattle.tables.specs.declared.Row.{Row}
use Rattle.kept.specs.Inside.{RowInside}
use Rattle.tables.specs.Tables.{Table, row_at}
use Rattle.tables.proofs.Rows.{SameRows}
use Rattle.sources.specs.Source.{earlier}
use Rattle.repeats.specs.Repeats.{token_of}
use Rattle.repeats.proofs.Frame.{token_same}
use Rattle.repeating.specs.Repeats.{Spelt, RowsSpelt}

-- a spelt row is spelt in any memory that has the same text below
module _ (text other : List ℕ) (used : ℕ) (r : Row) (same : take used text ≡ take used other) (inside : RowInside used r) where
  part_same : part text r.start (r.start + r.length) ≡ part other r.start (r.start + r.length)
  part_same = same_part text other used same r.start (r.start + r.length) (omega arith) inside.ends

  token_bytes : (bytes : List ℕ) → bytes_of bytes text (token_of text r) ≡ bytes_of bytes other (token_of text r)
  unfolding token_of bytes_of pick
  token_bytes bytes =
      let P : Token → Type 0 = λ (t : Token). bytes_of bytes text t ≡ bytes_of bytes other t in
      pick_holds P (eqb r.kind 1) _ _ (λ a. part_same)
      (λ a. pick_holds P (eqb r.kind 2) _ _ (λ b. refl) (λ b. pick_holds P (eqb r.kind 4) _ _ (λ c. refl) (λ c. refl)))

  pub spelt_same : Spelt text r → Spelt other r
  spelt_same s =
      let t = token_same text other used r same inside in
      record {
        kind = s.kind ∙ ap kind_of t;
        number = s.number ∙ ap number_of t;
        width = s.width ∙ ap width_of t;
        length = s.length ∙ ap length_of t;
        prints = λ bytes. ap (bytes_of bytes other) (sym t) ∙ sym (token_bytes bytes) ∙ s.prints bytes ∙ part_same;
        allowed = ap all_allowed (sym part_same) ∙ s.allowed;
      }

-- and so are all the rows of a name
pub rows_spelt_same : (text other : List ℕ) (rows table : Table) (first count used : ℕ) → ((j : ℕ) → first ≤ j → j < first + count → RowInside used (row_at rows j))
    → take used text ≡ take used other → SameRows rows table (first + count) → RowsSpelt (earlier text rows first count) → RowsSpelt (earlier other table first count)
rows_spelt_same text other rows table first count used k same alike s =
    record {
      each =
          λ j a b.
          subst (Spelt other) (alike j b) (spelt_same text other used (row_at rows j) same (k j a b) (s.each j a b));
      laid =
          λ j a b.
          rw (← alike (j + 1) b, ← alike j (omega arith)) (s.laid j a b);
    }
