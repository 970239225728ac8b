-- How much a name's tokens put: each put names a span, and there are at most six bytes for a byte of a token.
use Prim.Native.Nat.{ℕ, zero, suc, ◌+◌, ◌-◌, ◌*◌, ◌≤◌, ◌<◌}
use mathlib.Core.Path.{◌≡◌, refl, sym, ap, subst}
use mathlib.Core.Logic.{⊎_elim}
use mathlib.Core.List.{List, ◌++◌, append-nil}
use native.Mathlib.Omega.{arith}
use borrow.Author.Tests.{lt-ltb}
use lib.ListN.{length}
use Rattle.base.proofs.Choice.{pick_true}
use Rattle.base.proofs.Numbers.{lt_or_ge}
use Rattle.spans.specs.Spans.{four_bytes}
use Rattle.block.proofs.Laws.{span_below}
use Rattle.numbering.specs.Types.{Rules}
use Rattle.choices.specs.declared.Choice.{Choice}
use Rattle.choices.specs.declared.Choice.TheVariants.{Itself, End}
use Rattle.splitting.specs.Split.{cut_at}
use Rattle.choices.specs.Choices.{choice_at, choices_from}
use Rattle.splitting.proofs.Runs.{cut_range}
use Rattle.pieces.proofs.Pieces.{piece_cases}
use Rattle.choices.proofs.Choices.{choice_cases}
use Rattle.laying.proofs.Passes.{Inside, inside_append, size_of, size_append}
use Rattle.laying.proofs.Writes.{length_text_law}
use Rattle.valueputs.specs.ValuePuts.{piece_puts, value_puts}
use Rattle.tokenputs.specs.TokenPuts.{choice_puts, token_puts}
use Rattle.tokenputs.proofs.Laws.{tokens_end}
use Rattle.valueputs.proofs.Laws.{value_inside}

choice_inside : (rules : Rules) (s : List ℕ) (p : ℕ) (c : Choice) → p ≤ 128 → Inside (choice_puts rules s p c)
unfolding choice_puts
choice_inside rules s p c h = (span_below p 0 h (omega arith), value_inside s p c h)

-- one step of the tokens
more : (rules : Rules) (r s : List ℕ) (f p a b : ℕ) → a < length s
    → token_puts rules s p (choices_from r s (suc f) p a b) ≡ choice_puts rules s p (choice_at r s p a b) ++ token_puts rules s (p + 1) (choices_from r s f (p + 1) (cut_at s p a) (cut_at r p b))
unfolding choices_from token_puts
more rules r s f p a b h = ap (token_puts rules s p) (pick_true _ _ (lt-ltb _ _ h))

none : (rules : Rules) (r s : List ℕ) (p a b : ℕ) → token_puts rules s p (choices_from r s 0 p a b) ≡ choice_puts rules s p End
unfolding choices_from token_puts
none rules r s p a b = append-nil (choice_puts rules s p End)

pub tokens_inside : (rules : Rules) (r s : List ℕ) (f p a b : ℕ) → p + f ≤ 128 → Inside (token_puts rules s p (choices_from r s f p a b))
tokens_inside rules r s zero p a b h = subst Inside (sym (none rules r s p a b)) (choice_inside rules s p End (omega arith))
tokens_inside rules r s (suc f) p a b h = ⊎_elim
    (λ l. subst Inside (sym (more rules r s f p a b l))
    (inside_append (choice_puts rules s p (choice_at r s p a b)) _ (choice_inside rules s p (choice_at r s p a b) (omega arith)) (tokens_inside rules r s f (p + 1) (cut_at s p a) (cut_at r p b) (omega arith))))
    (λ l. subst Inside (sym (tokens_end rules r s (suc f) p a b l)) (choice_inside rules s p End (omega arith)))
    (lt_or_ge a (length s))

choice_size : (rules : Rules) (r s : List ℕ) (p a b : ℕ) → a < length s → size_of (choice_puts rules s p (choice_at r s p a b)) ≤ 6 * (cut_at s p a - a)
unfolding choice_puts value_puts piece_puts four_bytes
choice_size rules r s p a b h =
    let q = cut_range s a h p in
    let n : ℕ = cut_at s p a - a in
    let P : Choice → Type 0 = λ c. size_of (choice_puts rules s p c) ≤ 6 * n in
    choice_cases P (omega arith) (λ d. omega arith) (λ d. omega arith) r s p a b
    (piece_cases (λ t. P (Itself t)) s p a h (omega (arith, length_text_law s a (cut_at s p a) (omega arith) q.1)) (omega arith) (λ m. omega arith) (λ x k. omega arith))

end_size : (rules : Rules) (s : List ℕ) (p : ℕ) → size_of (choice_puts rules s p End) ≡ 1
unfolding choice_puts value_puts
end_size rules s p = refl

pub tokens_size : (rules : Rules) (r s : List ℕ) (f p a b : ℕ) → a ≤ length s → size_of (token_puts rules s p (choices_from r s f p a b)) ≤ 6 * (length s - a) + 1
tokens_size rules r s zero p a b h = omega (arith, ap size_of (none rules r s p a b), end_size rules s p)
tokens_size rules r s (suc f) p a b h = ⊎_elim
    (λ l.
    let q = cut_range s a l p in
    omega (
      arith,
      ap size_of (more rules r s f p a b l),
      size_append (choice_puts rules s p (choice_at r s p a b)) (token_puts rules s (p + 1) (choices_from r s f (p + 1) (cut_at s p a) (cut_at r p b))),
      choice_size rules r s p a b l,
      tokens_size rules r s f (p + 1) (cut_at s p a) (cut_at r p b) q.1,
    ))
    (λ l. omega (arith, ap size_of (tokens_end rules r s (suc f) p a b l), end_size rules s p))
    (lt_or_ge a (length s))
