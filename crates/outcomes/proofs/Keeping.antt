-- A name with room for it, and one without: what the code leaves is what the definitions say.
use Prim.Native.Nat.{ℕ, ◌*◌}
use Rattle.refusals.specs.declared.Reason.{Reason}
use Rattle.refusals.specs.declared.Reason.TheVariants as reason
use mathlib.Core.Path.{◌≡◌, sym, ◌∙◌}
use mathlib.Core.Bool.{true, false}
use mathlib.Core.List.{List, [], ◌∷◌, ◌++◌}
use lib.ListN.{length}
use Rattle.base.specs.Memory.{written}
use Rattle.base.proofs.Choice.{took, left}
use Rattle.block.specs.declared.State.{State}
use Rattle.numbering.specs.Types.{Rules}
use Rattle.tables.specs.Tables.{keeping, entry_size, Table, put_rows}
use Rattle.sources.specs.Source.{source}
use Rattle.names.specs.Names.{Draft}
use Rattle.entries.specs.declared.Reading.{Reading}
use Rattle.entries.specs.Entries.{keeping_name, room_of, entry_of}
use Rattle.outcomes.specs.Outcomes.{outcome, refusing, at_name}
use Rattle.outcomes.specs.Keeping.{room_for, kept, keep_of}

module _ (bytes dir cur text names : List ℕ) (rows : Table) (st : State) where
  pub room_same : (d : Draft) (size added : ℕ) → size ≡ length d.text → added ≡ d.count
      → room_of (keeping st text names rows) size added ≡ room_for (keeping st text names rows) d
  unfolding room_for
  room_same d size added e f = rw (e, f)

module _ (rules : Rules) (bytes dir cur text names : List ℕ) (rows : Table) (st : State) where
  pub refused_at_law : {r : Reading} (n : Reason) → r ≡ refusing st n
      → outcome r.answer cur (keeping r.state text names rows) ≡ at_name (source rules bytes dir cur) (keeping st text names rows) n
  unfolding refusing at_name
  refused_at_law n q = rw q

  module _ (d : Draft) (first many distance size added : ℕ) (e : size ≡ length d.text) (f : added ≡ d.count) where
    pub keep_refused : {r : Reading} → room_of (keeping st text names rows) size added ≡ false → r ≡ refusing st reason.NoRoom
        → outcome r.answer cur (keeping r.state text names rows) ≡ keep_of (source rules bytes dir cur) (keeping st text names rows) d first many distance
    unfolding keep_of
    keep_refused h q = left _ _ (sym (room_same bytes dir cur text names rows st d size added e f) ∙ h) (refused_at_law reason.NoRoom q)

    pub keep_kept : {r : Reading} {cur' text' names' : List ℕ} {rows' : Table} → room_of (keeping st text names rows) size added ≡ true → r ≡ keeping_name st size added
        → cur' ≡ d.cur → text' ≡ written text st.text (d.text ++ (10 ∷ [])) → names' ≡ written names (entry_size * st.names) (entry_of st size first many distance)
        → rows' ≡ put_rows rows st.rows d.rows
        → outcome r.answer cur' (keeping r.state text' names' rows') ≡ keep_of (source rules bytes dir cur) (keeping st text names rows) d first many distance
    unfolding keep_of kept keeping_name
    keep_kept h q c t n w = took _ _ (sym (room_same bytes dir cur text names rows st d size added e f) ∙ h) (rw (q, c, t, n, w, e, f))
