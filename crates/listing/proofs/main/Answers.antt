use Rattle.std.proofs.Common.{arith, ℕ, ◌≤◌, sym, subst, length-take-le}
use Rattle.listed.proofs.Bounds.{listed_short}
use Rattle.listing.proofs.main.Goals as goal

pub slice_bounds-out-end : goal.slice_bounds-out-end
slice_bounds-out-end c =
    let h : c.list-end.result ≤ 131072 = subst (λ (n : ℕ). n ≤ 131072) (sym c.list-end.ensures.0) (listed_short _) in
    omega (arith, c.list-end.auto.out)

pub slice_bounds-write_all-end : goal.slice_bounds-write_all-end
slice_bounds-write_all-end c =
    let h : c.list-end.result ≤ 131072 = subst (λ (n : ℕ). n ≤ 131072) (sym c.list-end.ensures.0) (listed_short _) in
    sym (length-take-le c.list-end.result c.list-end.new.out (omega (arith, c.list-end.auto.out)))
