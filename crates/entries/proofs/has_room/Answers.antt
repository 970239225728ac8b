use Rattle.tables.specs.Tables.{entry_size, room}
use Rattle.base.proofs.Choice.{took, left}
use Rattle.entries.proofs.Entries.{room_test}
use borrow.Author.Tests.{leb-true, leb-false, le-leb, lt-leb}
use mathlib.Core.Path.{sym, ◌∙◌}
use Prim.Native.Nat.{◌+◌}
use native.Mathlib.Omega.{arith}
use lib.ListN.{length}
use Rattle.entries.proofs.has_room.Goals as goal
use Rattle.entries.proofs.has_room.Goals.{then-state-bytes, else-state-bytes}

pub returns-then-state-entries : goal.returns-then-state-entries
unfolding room
returns-then-state-entries c =
    let a = c.args in
    elim c.if-state-bytes.branch [
      | then-state-bytes w ↦
          took _ _ (le-leb (a.state.text + a.bytes + 1) (length a.text.now) (omega (arith, w.if-state-bytes.true)))
          (took _ _ (le-leb (a.state.names + 1) (room entry_size a.entries.now) (omega (arith, leb-true _ _ (sym w.value-is ∙ c.if-state-entries.true))))
          (room_test a.rows.now (a.state.rows + a.added)))
      | else-state-bytes w ↦ absurd (omega (arith, leb-true _ _ (sym w.value-is ∙ c.if-state-entries.true), w.if-state-bytes.false))
    ]

pub returns-else-state-entries : goal.returns-else-state-entries
unfolding room
returns-else-state-entries c =
    let a = c.args in
    elim c.if-state-bytes.branch [
      | then-state-bytes w ↦
          took _ _ (le-leb (a.state.text + a.bytes + 1) (length a.text.now) (omega (arith, w.if-state-bytes.true)))
          (left _ _ (lt-leb (a.state.names + 1) (room entry_size a.entries.now) (omega (arith, leb-false _ _ (sym w.value-is ∙ c.if-state-entries.false))))
          c.if-state-entries.false)
      | else-state-bytes w ↦ left _ _ (lt-leb (a.state.text + a.bytes + 1) (length a.text.now) (omega (arith, w.if-state-bytes.false))) c.if-state-entries.false
    ]
