-- Rule 3, with room for the name and without: what the code leaves is what the definitions say.
use Prim.Native.Nat.{ℕ, ◌+◌, ◌-◌, ◌*◌, ◌≤◌}
use Rattle.refusals.specs.declared.Reason.TheVariants as reason
use mathlib.Core.Path.{◌≡◌, refl, sym, ap, ◌∙◌}
use mathlib.Core.Bool.{true, false}
use mathlib.Core.List.{List, [], ◌∷◌}
use native.Mathlib.Omega.{arith}
use lib.ListN.{length}
use Rattle.base.specs.Memory.{written, part}
use Rattle.base.proofs.Memory.{length_part, written_next}
use Rattle.block.specs.declared.State.{State}
use Rattle.block.specs.Streams.{dup_stream}
use Rattle.numbering.specs.Types.{Rules}
use Rattle.tables.specs.declared.Entry.{Entry}
use Rattle.tables.specs.Tables.{entry_size, keeping, Table}
use Rattle.kept.specs.Inside.{Counted, TextInside}
use Rattle.sources.specs.Source.{source}
use Rattle.names.specs.Names.{draft}
use Rattle.entries.specs.declared.Reading.{Reading}
use Rattle.outcomes.specs.Outcomes.{outcome, refusing}
use Rattle.entries.specs.Entries.{keeping_name, room_of, entry_of}
use Rattle.outcomes.proofs.Keeping.{keep_refused, keep_kept}
use Rattle.entries.proofs.Entries.{has_room}
use Rattle.heads.specs.Heads.{head_past}
use Rattle.copying.specs.Copies.{dup_of}
use Rattle.tables.proofs.Rows.{put_none}

module _ (bytes dir cur text names : List ℕ) (rows : Table) (st : State) where
  module _ (x : Entry) (distance : ℕ) (i : TextInside st x) (k : Counted (keeping st text names rows)) where
    part_length : x.length ≡ length (part text x.start (x.start + x.length))
    part_length =
        sym (length_part text x.start (x.start + x.length) (omega arith) (omega (arith, i.ends, k.used))
        ∙ omega arith)

    pub copy_asks : room_of (keeping st text names rows) x.length 0 ≡ true
        → (x.start ≤ x.start + x.length) × ((x.start + x.length ≤ st.text) × (st.text + (x.start + x.length - x.start) ≤ length text))
    copy_asks h = (omega arith, (i.ends, omega (arith, (has_room bytes dir cur text names rows st x.length 0 h).texts)))

module _ (rules : Rules) (bytes dir cur text names : List ℕ) (rows : Table) (st : State) where
  module _ (x : Entry) (distance : ℕ) (i : TextInside st x) (k : Counted (keeping st text names rows)) where
    pub dup_refused : {r : Reading} → room_of (keeping st text names rows) x.length 0 ≡ false → r ≡ refusing st reason.NoRoom
        → outcome r.answer cur (keeping r.state text names rows) ≡ dup_of (source rules bytes dir cur) (keeping st text names rows) distance x
    unfolding dup_of
    dup_refused h q = keep_refused rules bytes dir cur text names rows st _ x.first x.rows distance x.length 0 (part_length bytes dir cur text names rows st x distance i k) refl h q

    pub dup_kept : {r : Reading} {cur' text' text'' names' : List ℕ} → room_of (keeping st text names rows) x.length 0 ≡ true → r ≡ keeping_name st x.length 0
        → cur' ≡ head_past cur dup_stream → text' ≡ written text st.text (part text x.start (x.start + x.length)) → text'' ≡ written text' (st.text + x.length) (10 ∷ [])
        → names' ≡ written names (entry_size * st.names) (entry_of st x.length x.first x.rows distance)
        → outcome r.answer cur' (keeping r.state text'' names' rows) ≡ dup_of (source rules bytes dir cur) (keeping st text names rows) distance x
    unfolding dup_of
    dup_kept h q c t u n =
        let p = part text x.start (x.start + x.length) in
        let l = part_length bytes dir cur text names rows st x distance i k in
        let w = has_room bytes dir cur text names rows st x.length 0 h in
        keep_kept rules bytes dir cur text names rows st (draft p [] 0 (head_past cur dup_stream)) x.first x.rows distance x.length 0 (part_length bytes dir cur text names rows st x distance i k) refl h q c
        (u ∙ ap (λ (y : List ℕ). written y (st.text + x.length) (10 ∷ [])) t
        ∙ ap (λ (y : ℕ). written (written text st.text p) (st.text + y) (10 ∷ [])) l
        ∙ written_next text st.text p (10 ∷ []) (omega (arith, w.texts)))
        n (sym (put_none rows st.rows))
