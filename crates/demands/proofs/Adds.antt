-- Each read that keeps a name adds that one name: k, the rows and the cursors are fixed by it, and nothing else is altered.
use Prim.Native.Nat.{ℕ}
use Rattle.std.specs.Prelude.{Some, Ok}
use mathlib.Core.Path.{◌≡◌, subst}
use Rattle.tables.specs.Tables.{Kept}
use Rattle.sources.specs.Source.{Source}
use Rattle.outcomes.specs.Outcomes.{Outcome}
use Rattle.outcomes.specs.Keeping.{kept}
use Rattle.reads.specs.Reads.{read_of}
use Rattle.reads.proofs.Holding.{Holds}
use Rattle.demands.specs.Adds.{Adds, ReadAdds}
use Rattle.demands.specs.Refusals.{Ready, ReadCase, refuses, ends, keeps}
use Rattle.demands.proofs.Lemmas.Ways.{read_case, ready_holds}
use Rattle.demands.proofs.Lemmas.Making.{made, room_each}
use Rattle.demands.proofs.Lemmas.Adding.{kept_adds}

adds_way : (s : Source) (m : Kept) (i : ℕ) (o : Outcome) → (Ready s m → Holds s.bytes s.dir m o) → ReadCase s m o → o.answer ≡ Ok (Some i) → Adds s m i o
unfolding kept
adds_way s m i o h (refuses r y) e = cc
adds_way s m i o h (ends r k a) e = cc
adds_way s m i o h (keeps x first rows d r k g f) e =
    let n : m.state.names ≡ i = cc in
    subst (λ (j : ℕ). Adds s m j (kept m x first rows d)) n (kept_adds s m x first rows d r (made s m r x first rows d g) (room_each m x f) (h r).opened)

pub read_adds : ReadAdds
read_adds s m i e = adds_way s m i (read_of s m) (ready_holds s m) (read_case s m) e
