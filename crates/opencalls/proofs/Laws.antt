-- From what opening leaves to what its export leaves.
use Prim.Native.Nat.{ℕ}
use mathlib.Core.Path.{◌≡◌, ap, ◌∙◌}
use mathlib.Core.List.{List}
use lib.ListN.{length}
use Rattle.block.specs.Block.{Opened, opening, open_of}
use Rattle.opencalls.specs.Calls.{opened_number, opens, opened_state, opens_of, open_call}

same_opens : {n n' : ℕ} (c : List ℕ) {s s' : List ℕ} → n ≡ n' → s ≡ s' → opens n c s ≡ opens n' c s'
same_opens c p q = cc

pub opened_call : (bytes dir : List ℕ) (count : ℕ) (cur state : List ℕ) (a : Opened) (c : List ℕ) {n : ℕ} {s : List ℕ}
    → opening a c ≡ open_of (length bytes) dir count cur → n ≡ opened_number a → s ≡ opened_state state a → opens n c s ≡ open_call bytes dir count cur state
unfolding open_call opens_of
opened_call bytes dir count cur state a c e p q = same_opens c p q ∙ ap (opens_of state) e
