use Prim.Native.Nat.{ℕ}
use Rattle.std.specs.Prelude.{Option, Some, None, Ok, Err}
use mathlib.Core.Path.{◌≡◌, sym}
use mathlib.Core.Bool.{true, false}
use borrow.Author.Rules.{rules}
use Rattle.base.specs.Choice.{pick}
use Rattle.refusals.specs.declared.Refusal.{Refusal}
use Rattle.entries.specs.Entries.{Answer}
use Rattle.reads.specs.Reads.{is_kept}
use Rattle.reads.proofs.goes_on.Goals as goal

kept : (a : Answer) {k : Option ℕ} {n : ℕ} → a ≡ Ok k → k ≡ Some n → is_kept a ≡ true
unfolding is_kept
kept a e f = rw (e, f)

done : (a : Answer) {k : Option ℕ} → a ≡ Ok k → k ≡ None → is_kept a ≡ false
unfolding is_kept
done a e f = rw (e, f)

refused : (a : Answer) {r : Refusal} → a ≡ Err r → is_kept a ≡ false
unfolding is_kept
refused a e = rw e

pub returns-in-Ok-Some : goal.returns-in-Ok-Some
unfolding pick
returns-in-Ok-Some c = rw c.if-whole.true (sym (kept _ {n = c.in-Ok-Some.field-0-0} c.in-Ok-Some.is (search rules)))

pub returns-in_default : goal.returns-in_default
unfolding pick
returns-in_default c = rw c.if-whole.true (sym (done _ c.in_default.is (search rules)))

pub returns-in_default-2 : goal.returns-in_default-2
unfolding pick
returns-in_default-2 c = rw c.if-whole.true (sym (refused _ c.in_default.is))

pub returns-else-whole : goal.returns-else-whole
unfolding pick
returns-else-whole c = rw c.if-whole.false
