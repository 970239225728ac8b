-- What the puts of a name's tokens are, in the forms in which their passes want them.
use Prim.Native.Nat.{ℕ, zero, suc, ◌+◌, ◌-◌, ◌≤◌, ◌<◌}
use mathlib.Core.Path.{◌≡◌, ap, ◌∙◌}
use mathlib.Core.List.{List, [], ◌∷◌, ◌++◌, append-nil}
use native.Mathlib.Omega.{arith}
use borrow.Author.Tests.{lt-ltb, le-ltb}
use lib.ListN.{length}
use Rattle.base.proofs.Choice.{pick_true, pick_false}
use Rattle.block.specs.Block.{span_of}
use Rattle.choices.specs.declared.Choice.{Choice}
use Rattle.choices.specs.declared.Choice.TheVariants.{End}
use Rattle.splitting.specs.Split.{cut_at}
use Rattle.choices.specs.Choices.{choice_at, choices_from}
use Rattle.laying.specs.declared.Pass.{Pass}
use Rattle.laying.specs.Puts.{put}
use Rattle.laying.specs.Passes.{World, step_of, run_of, Room, Roomy}
use Rattle.numbering.specs.Types.{Rules, type_number}
use Rattle.tokenputs.specs.TokenPuts.{choice_type, choice_puts, token_puts}
use Rattle.valueputs.specs.ValuePuts.{value_puts}

-- Type and value

pub choice_room : (rules : Rules) (pass : Pass) (s : List ℕ) (p : ℕ) (c : Choice) (w : World) → Roomy pass (choice_puts rules s p c) w
    → Room pass (span_of p 0) 1 w × Roomy pass (value_puts s p c) (step_of pass (put (span_of p 0) (type_number rules.numbers (choice_type c) ∷ [])) w)
unfolding choice_puts Roomy
choice_room rules pass s p c w r = r

pub choice_ran : (rules : Rules) (pass : Pass) (s : List ℕ) (p : ℕ) (c : Choice) (w u v : World) → u ≡ step_of pass (put (span_of p 0) (type_number rules.numbers (choice_type c) ∷ [])) w
    → v ≡ run_of pass (value_puts s p c) u → v ≡ run_of pass (choice_puts rules s p c) w
unfolding choice_puts run_of
choice_ran rules pass s p c w u v d e = e ∙ ap (run_of pass (value_puts s p c)) d

-- The tokens of a name

-- one token more, p being below 128
pub tokens_more : (rules : Rules) (r s : List ℕ) (p a b : ℕ) → p < 128 → a < length s
    → token_puts rules s p (choices_from r s (128 - p) p a b) ≡ choice_puts rules s p (choice_at r s p a b) ++ token_puts rules s (p + 1) (choices_from r s (128 - (p + 1)) (p + 1) (cut_at s p a) (cut_at r p b))
unfolding choices_from token_puts
tokens_more rules r s p a b h k =
    ap (λ (f : ℕ). token_puts rules s p (choices_from r s f p a b)) (let e : 128 - p ≡ suc (128 - (p + 1)) = omega arith in e)
    ∙ ap (token_puts rules s p) (pick_true _ _ (lt-ltb _ _ k))

-- END
pub tokens_end : (rules : Rules) (r s : List ℕ) (f p a b : ℕ) → length s ≤ a → token_puts rules s p (choices_from r s f p a b) ≡ choice_puts rules s p End
unfolding choices_from token_puts
tokens_end rules r s zero p a b h = append-nil (choice_puts rules s p End)
tokens_end rules r s (suc f) p a b h = ap (token_puts rules s p) (pick_false _ _ (le-ltb _ _ h)) ∙ append-nil (choice_puts rules s p End)
