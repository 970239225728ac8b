-- Laws of `placed`, in a contract's direction; a test as a number, and the number of the tables' judgement.
use Prim.Native.Nat.{ℕ, ◌+◌}
use mathlib.Core.Path.{◌≡◌, refl, ap, ◌∙◌}
use mathlib.Core.Bool.{Bool, true, false}
use mathlib.Core.List.{List}
use lib.Dec.{leb}
use lib.ListN.{length}
use mir.Val.{bool_byte}
use Rattle.std.specs.Prelude.{⊤, Result, Ok, Err}
use Rattle.refusals.specs.Refusals.{number_of}
use Rattle.refusals.specs.declared.Reason.{Reason}
use Rattle.base.specs.Choice.{pick}
use Rattle.base.specs.Memory.{written}
use Rattle.block.specs.Block.{sound, all_inside, verdict, verdict_of}
use Rattle.base.proofs.Choice.{took, left, both_of, both_left, both_right}
use Rattle.leaves.specs.Leaves.{nothing, leaves, placed}

module _ {may : Bool} (s : List ℕ) (at : ℕ) (buf : List ℕ) (w : ℕ) (size : w ≡ length s) where
  pub stands : {r : ℕ} {b : List ℕ} → may ≡ true → leb (at + w) (length buf) ≡ true → r ≡ length s → b ≡ written buf at s → leaves r b ≡ placed may s at buf
  unfolding placed
  stands m h e f = took _ _ (both_of m (rw size at h)) (cc)

  pub no_room : may ≡ true → leb (at + w) (length buf) ≡ false → leaves nothing buf ≡ placed may s at buf
  unfolding placed
  no_room m h = left _ _ (both_right m (rw size at h)) refl

pub may_not : {may : Bool} (s : List ℕ) (at : ℕ) (buf : List ℕ) → may ≡ false → leaves nothing buf ≡ placed may s at buf
unfolding placed
may_not s at buf m = left _ _ (both_left _ m) refl

pub bit : (b : Bool) → bool_byte b ≡ pick b 1 0
unfolding pick
bit true = refl
bit false = refl

unfoldable pub judged_number : Result ⊤ Reason → ℕ
judged_number (Ok v) = 0
judged_number (Err r) = number_of r

verdict_said : (a b : Bool) → judged_number (verdict a b) ≡ pick a (pick b 0 13) 1
unfolding pick judged_number
verdict_said true true = refl
verdict_said true false = refl
verdict_said false b = refl

pub judged_said : (len : ℕ) (dir cur : List ℕ) {v : Result ⊤ Reason} → v ≡ verdict_of len dir cur → judged_number v ≡ pick (sound len dir cur) (pick (all_inside dir cur) 0 13) 1
unfolding verdict_of
judged_said len dir cur e = ap judged_number e ∙ verdict_said (sound len dir cur) (all_inside dir cur)
