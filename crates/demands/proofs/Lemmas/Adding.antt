-- What keeping a name adds, and that it alters nothing else.
use Prim.Native.Nat.{ℕ}
use mathlib.Core.Path.{◌≡◌, refl, ap}
use mathlib.Core.Logic.{inr}
use mathlib.Core.List.{[], ◌∷◌, ◌++◌}
use native.Mathlib.Omega.{arith}
use lib.ListN.{length, length-append}
use Rattle.base.specs.Memory.{written}
use Rattle.base.proofs.Holding.{Holds, holds_written, holds_left, holds_right, holds_part, holds_first}
use Rattle.kept.proofs.Frame.{entry_holds}
use Rattle.block.specs.Open.{Open}
use Rattle.block.specs.Streams.{dup_stream}
use Rattle.tables.specs.declared.Entry.{Entry}
use Rattle.tables.specs.Tables.{Kept, entry_at}
use Rattle.kept.specs.Inside.{Counted}
use Rattle.sources.specs.Source.{Source}
use Rattle.names.specs.Names.{Draft}
use Rattle.outcomes.specs.Keeping.{kept}
use Rattle.claims.specs.Claims.{name_text}
use Rattle.demands.specs.Takes.{head_takes}
use Rattle.demands.specs.Right.{Refers}
use Rattle.demands.specs.Adds.{Adds, Kind, by_dup, by_diff}
use Rattle.demands.specs.Refusals.{Ready}
use Rattle.demands.proofs.Lemmas.Moves.{Moves}
use Rattle.demands.proofs.Lemmas.Writes.{alike_written, rows_alike}
use Rattle.demands.proofs.Lemmas.Making.{Made, dup, diff, made_whole, Room}

abbrev pub entry : ℕ → ℕ → ℕ → ℕ → ℕ → Entry
entry a l f r d = record { start = a; length = l; first = f; rows = r; distance = d }

-- rule 2 and what was taken, from how the name was made
pub refers_made : (s : Source) (m : Kept) (x : Draft) (first rows d : ℕ) → Made s m x first rows d → Refers m.state.names d
refers_made s m x first rows d (dup b n e w) = inr (omega (arith, n.0), n.1)
refers_made s m x first rows d (diff y b r w v) = r

record Moved (s : Source) (m : Kept) (x : Draft) (e : Entry) : Type 0 where
  taken : ℕ → ℕ
  kind : Kind s m x.text x.count taken e
  moves : Moves s.cur x.cur taken

moved_made : (s : Source) (m : Kept) (x : Draft) (first rows d : ℕ) → Made s m x first rows d → Moved s m x (entry m.state.text (length x.text) first rows d)
unfolding name_text
moved_made s m x first rows d (dup b n e w) = record { taken = head_takes dup_stream; kind = by_dup _ n refl refl; moves = w }
moved_made s m x first rows d (diff y b r w v) = record { taken = _; kind = by_diff x.text x.count _ refl refl; moves = v }

-- where its text with byte 10 and its entry stand
module _ (m : Kept) (x : Draft) (first rows d : ℕ) (c : Counted m) where
  pub text_kept : Holds (kept m x first rows d).kept.text m.state.text (x.text ++ (10 ∷ []))
  unfolding kept
  text_kept = holds_written _ _ _ c.used

  pub entry_kept : entry_at (kept m x first rows d).kept.names m.state.names ≡ entry m.state.text (length x.text) first rows d
  unfolding kept
  entry_kept = entry_holds _ _ (entry m.state.text (length x.text) first rows d) (holds_written _ _ _ c.entries)

module _ (s : Source) (m : Kept) (x : Draft) (first rows d : ℕ) (r : Ready s m) (o : Made s m x first rows d) (f : Room m x) (opened : Open s.bytes s.dir x.cur) where
  pub kept_adds : Adds s m m.state.names (kept m x first rows d)
  unfolding kept
  kept_adds =
      let v : Moved s m x (entry m.state.text (length x.text) first rows d) = moved_made s m x first rows d o in
      let t = text_kept m x first rows d r.counts in
      let e = entry_kept m x first rows d r.counts in
      record {
        name = x.text;
        rows = x.count;
        taken = v.taken;
        next = refl;
        counts = cc;
        text = alike_written m.text _ (x.text ++ (10 ∷ [])) _ (omega (arith, length-append x.text (10 ∷ []))) f.text;
        written = holds_part _ _ x.text (holds_left _ _ x.text (10 ∷ []) t);
        ended = holds_first _ _ 10 [] (holds_right _ _ x.text (10 ∷ []) t);
        names = alike_written m.names _ _ _ refl f.names;
        starts = ap (λ n. n.start) e;
        long = ap (λ n. n.length) e;
        refers = rw e (refers_made s m x first rows d o);
        table = rows_alike m.rows m.state.rows x.rows _ (omega (arith, made_whole s m x first rows d o)) f.rows;
        kind = rw e v.kind;
        moves = v.moves.by;
        opened = opened;
      }
