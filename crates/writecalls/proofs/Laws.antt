-- From what writing leaves to what its export leaves.
use Prim.Native.Nat.{ℕ}
use mathlib.Core.Path.{◌≡◌, ap, ◌∙◌}
use mathlib.Core.List.{List}
use Rattle.numbering.specs.Types.{Rules}
use Rattle.writing.specs.Writes.{WriteAnswer, writing, write_of}
use Rattle.writecalls.specs.Calls.{written_number, writes, written_totals, writes_of, write_call}

same_writes : {n n' : ℕ} (d b : List ℕ) {t t' : List ℕ} → n ≡ n' → t ≡ t' → writes n d b t ≡ writes n' d b t'
same_writes d b p q = cc

pub write_call_law : (rules : Rules) (input dir bytes totals : List ℕ) (a : WriteAnswer) (d b : List ℕ) {n : ℕ} {t : List ℕ}
    → writing a d b ≡ write_of rules input dir bytes → n ≡ written_number a → t ≡ written_totals totals a → writes n d b t ≡ write_call rules input dir bytes totals
unfolding write_call writes_of
write_call_law rules input dir bytes totals a d b e p q = same_writes d b p q ∙ ap (writes_of totals) e
