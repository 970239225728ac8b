-- When the earlier name's rows are sound.
use Prim.Native.Nat.{ℕ, ◌+◌, ◌^◌, ◌≤◌, ◌<◌}
use mathlib.Core.List.{List}
use native.Mathlib.Omega.{arith}
use lib.ListN.{length}
use Rattle.block.specs.declared.State.{State}
use Rattle.tables.specs.declared.Entry.{Entry}
use Rattle.kept.specs.Inside.{EntryInside}
use Rattle.kept.proofs.Laws.{row_more}
use Rattle.tables.specs.Tables.{Table, row_room}
use Rattle.sources.specs.Source.{Earlier, earlier}
use Rattle.repeats.specs.Sound.{Rows, reach}

module _ (used : ℕ) (e : Earlier) (r : Rows used e) where
  pub rows_more : (most : ℕ) → used ≤ most → most ≤ length e.text → Rows most e
  rows_more most h l = record { table = r.table; most = r.most; room = l; each = λ j a b. row_more used most h _ (r.each j a b) }

  -- what the functions require
  pub rows_reach : used < 2 ^ 32 → Rows (reach e.text) e
  rows_reach h = let u : used ≤ length e.text = r.room in rows_more (reach e.text) (omega arith) (omega arith)

-- no earlier name
pub rows_none : (used : ℕ) (text : List ℕ) (rows : Table) → used ≤ length text → Rows used (earlier text rows 0 0)
rows_none used text rows h = record { table = omega arith; most = omega arith; room = h; each = λ j a b. absurd (omega arith) }

-- an earlier name that was judged
pub rows_judged : (k : State) (text : List ℕ) (rows : Table) (x : Entry) → k.rows ≤ row_room rows → k.text ≤ length text → EntryInside k rows x
    → Rows k.text (earlier text rows x.first x.rows)
rows_judged k text rows x h l f =
    let a : x.first + x.rows ≤ k.rows = f.rows.ends in
    record { table = omega arith; most = f.rows.most; room = l; each = f.each }
