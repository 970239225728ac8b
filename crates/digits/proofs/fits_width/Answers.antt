use borrow.Author.Rules.{rules}
use borrow.Author.Tests.{le-leb, lt-leb}
use lib.Dec.{leb}
use mathlib.Core.Path.{◌≡◌, sym, ap, ◌∙◌}
use native.Mathlib.Omega.{arith}
use Prim.Native.Nat.{ℕ, ◌^◌, ◌≤◌, ◌<◌}
use Rattle.base.proofs.Numbers.{by_order}
use Rattle.digits.specs.Digits.{digit_count, fits_width}
use Rattle.digits.proofs.Laws.{fits_zero, count_fits, count_above}
use Rattle.digits.proofs.fits_width.Goals as goal

-- of a width that is at least 1, the digits tell
told : (n w : ℕ) → n < 2 ^ 32 → 1 ≤ w → leb (digit_count n) w ≡ fits_width n w
told n w h k =
    by_order w (digit_count n)
    (λ (l : w < digit_count n). lt-leb _ _ l ∙ sym (count_above n w k l))
    (λ (l : digit_count n ≤ w). le-leb _ _ l ∙ sym (count_fits n w h l))

pub returns-then-w-ge1 : goal.returns-then-w-ge1
returns-then-w-ge1 c = let a = c.args in ap (λ (d : ℕ). leb d a.w) c.count.ensures ∙ told a.n a.w (search rules) (omega arith)

pub returns-else-w-ge1 : goal.returns-else-w-ge1
returns-else-w-ge1 c = let a = c.args in lt-leb _ _ (omega arith) ∙ sym (fits_zero a.n a.w (omega arith))
