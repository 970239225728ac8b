-- From what is found and filled to the answer: what each call of writing leaves is what the definition says.
use Prim.Native.Nat.{ℕ, ◌≤◌, ◌<◌}
use Rattle.std.specs.Prelude.{Some, None, Ok, Err}
use Rattle.refusals.specs.declared.Reason.TheVariants as reason
use mathlib.Core.Path.{◌≡◌, refl, sym, ◌∙◌, subst}
use mathlib.Core.Bool.{Bool, true, false}
use mathlib.Core.List.{List}
use borrow.Author.Tests.{eq-eqb, ne_eqb, le-leb, lt-leb, leb-true}
use lib.Dec.{leb}
use lib.ListN.{length}
use Rattle.base.proofs.Choice.{took, left, both_of, both_left, both_right}
use Rattle.refusals.specs.declared.Refusal.TheVariants.{Plain, At}
use Rattle.numbering.specs.Types.{Rules}
use Rattle.laying.specs.Puts.{total_of, directory_of, bytes_of}
use Rattle.inputs.specs.Inputs.{Judged, names_of, ended, judged_from}
use Rattle.writing.specs.Writes.{Writing, writing, countable, laid_of, judged_of, write_of}
use Rattle.filling.specs.Ready.{Ready}
use Rattle.filling.proofs.Filled.{puts_in}

module _ (rules : Rules) (input dir bytes : List ℕ) (k : Ready input dir) where
  module _ {f : Bool} {d y : List ℕ} (e : f ≡ leb (total_of (puts_in rules input)) (length bytes)) (same-dir : d ≡ dir) (same_bytes : y ≡ bytes) where
    pub no_room : f ≡ false → writing (Err (Plain reason.NoRoom)) d y ≡ laid_of rules (names_of input) dir bytes
    unfolding laid_of
    no_room h = left _ _ (sym e ∙ h) (rw (same-dir, same_bytes))

    pub room : f ≡ true → total_of (puts_in rules input) ≤ length y
    room h = rw same_bytes (leb-true _ _ (sym e ∙ h))

    pub still_ready : Ready input d
    still_ready = subst (λ (x : List ℕ). Ready input x) (sym same-dir) k

    pub done : {n t : ℕ} {a b : List ℕ} → n ≡ length (names_of input) → f ≡ true → t ≡ total_of (puts_in rules input) → a ≡ directory_of (puts_in rules input) → b ≡ bytes_of (puts_in rules input) y
        → writing (Ok (record { names = n; bytes = t })) a b ≡ laid_of rules (names_of input) dir bytes
    unfolding laid_of
    done p h u q r = took _ _ (sym e ∙ h) (rw (p, u, q, r, same_bytes))

-- The answer

pub countable_of : (input : List ℕ) → ended input ≡ true → length (names_of input) ≤ 65536 → countable input ≡ true
unfolding countable
countable_of input e h = both_of e (le-leb _ _ h)

pub unended : (input : List ℕ) → ended input ≡ false → countable input ≡ false
unfolding countable
unended input e = both_left _ e

pub too_many : (input : List ℕ) → ended input ≡ true → 65536 < length (names_of input) → countable input ≡ false
unfolding countable
too_many input e h = both_right e (lt-leb _ _ h)

module _ (rules : Rules) (input dir bytes : List ℕ) where
  pub refused_1 : (length dir ≡ 2580 → ⊥) → writing (Err (Plain reason.Unsound)) dir bytes ≡ write_of rules input dir bytes
  unfolding write_of
  refused_1 f = left _ _ (ne_eqb _ _ f) refl

  pub refused_12 : length dir ≡ 2580 → countable input ≡ false → writing (Err (Plain reason.BadCount)) dir bytes ≡ write_of rules input dir bytes
  unfolding write_of
  refused_12 e f = took _ _ (eq-eqb _ _ e) (left _ _ f refl)

  pub judged : {j : Judged} {w : Writing} → length dir ≡ 2580 → countable input ≡ true → judged_from 0 (names_of input) ≡ j → w ≡ judged_of rules j (names_of input) dir bytes → w ≡ write_of rules input dir bytes
  unfolding write_of
  judged e f g h = took _ _ (eq-eqb _ _ e) (took _ _ f (rw g h))

  pub refused_8 : (n : ℕ) → writing (Err (At reason.BadName n)) dir bytes ≡ judged_of rules (Some n) (names_of input) dir bytes
  unfolding judged_of
  refused_8 n = refl

  pub accepted : {w : Writing} → w ≡ laid_of rules (names_of input) dir bytes → w ≡ judged_of rules None (names_of input) dir bytes
  unfolding judged_of
  accepted e = e
